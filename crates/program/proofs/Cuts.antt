-- The rows of a table, cut into those of each process.
-- From the first row on: below a row stands the next label of its process or the first of the next one, and so the rows fall
-- apart in one way.
use Rattle.std.proofs.Common.{◌≡◌, ℕ, ◌+◌, ◌≤◌, true, ◌||◌, eqb, leb, List, [], ◌∷◌, ◌++◌, length, sym, refl, subst₂, inl, inr, arith}
use Rattle.std.specs.List.{AllByRecursion}
use Rattle.std.proofs.lemmas.Bool.{and_parts, leb-true}
use Rattle.std.proofs.lemmas.Bool.Decides.{nat_tests}
use Rattle.program.specs.declared.rows.Row.{Row}
use Rattle.program.specs.declared.rows.Counts.{Counts}
use Rattle.program.specs.declared.rows.Instruction.{Instruction}
use Rattle.program.specs.declared.rows.Instruction.TheVariants.{Read, Write, Cas, Set, Add, Jeq, Assume, Fence, Term}
use Rattle.program.specs.Program.{operands_fit, is_term, rows_fit, ends_fit}
use Rattle.program.specs.Source.{numbered, listed}
use Rattle.program.proofs.Follows.{next}

abbrev pub row : ℕ → ℕ → Instruction → Row
row p l x = record { process = p; label = l; instruction = x }

abbrev pub Ends : List Instruction → Type 0
Ends xs = (front : List Instruction) × (xs ≡ front ++ (Term ∷ []))

term_only : (x : Instruction) → is_term x ≡ true → x ≡ Term
term_only (Read r v) e = cc
term_only (Write v r) e = cc
term_only (Cas v a b) e = cc
term_only (Set r v) e = cc
term_only (Add r a b) e = cc
term_only (Jeq a b l) e = cc
term_only (Assume a b) e = cc
term_only Fence e = cc
term_only Term e = refl

-- what a process keeps whose jumps are judged by n labels
pub record Fit (c : Counts) (n : ℕ) (xs : List Instruction) : Type 0 where
  pub few : length xs ≤ 32
  pub in_range : AllByRecursion (λ x. operands_fit c n x ≡ true) xs
  pub ends : Ends xs

module _ (c : Counts) (L : ℕ → ℕ) where
  -- process p and those after it, each judged by its own number of labels
  abbrev pub Fitting : ℕ → List (List Instruction) → Type 0
  Fitting p [] = Unit {0}
  Fitting p (xs ∷ rest) = Fit c (L p) xs × Fitting (p + 1) rest

  -- the rows are those of process p and of all processes after it
  pub record Parts (p : ℕ) (rows : List Row) : Type 0 where
    pub processes : List (List Instruction)
    pub rows_are : rows ≡ listed p processes
    pub fitting : Fitting p processes
    pub all : p + length processes ≡ c.processes + 1

  -- the rows below the one of process p, label l and instruction x are the others of p, and then those of the processes after it.
  -- The row above is part of it, since what follows a row says whether the row has to be TERM.
  record Cut (p l : ℕ) (x : Instruction) (rows : List Row) : Type 0 where
    others : List Instruction
    after : List Row
    rows_are : rows ≡ numbered p (l + 1) others ++ after
    few : l + length others ≤ 32
    in_range : AllByRecursion (λ y. operands_fit c (L p) y ≡ true) others
    ends : Ends (x ∷ others)
    parts : Parts (p + 1) after

  -- a first label makes a process of the rows below it
  first_row : (p : ℕ) (x : Instruction) (rows : List Row) → operands_fit c (L p) x ≡ true → Cut p 1 x rows → Parts p (row p 1 x ∷ rows)
  first_row p x rows fits h =
      let more = h.parts in
      record {
        processes = (x ∷ h.others) ∷ more.processes;
        rows_are = cc;
        fitting = (record { few = omega arith; in_range = (fits, h.in_range); ends = h.ends }, more.fitting);
        all = omega arith;
      }

  -- a next label is one more of the same process
  other_row : (p l : ℕ) (x y : Instruction) (rows : List Row) → operands_fit c (L p) y ≡ true → Cut p (l + 1) y rows → Cut p l x (row p (l + 1) y ∷ rows)
  other_row p l x y rows fits h =
      let front = h.ends.0 in
      record {
        others = y ∷ h.others;
        after = h.after;
        rows_are = cc;
        few = omega arith;
        in_range = (fits, h.in_range);
        ends = (x ∷ front, cc);
        parts = h.parts;
      }

  -- a row that is TERM may be the last of its process
  last_row : (p l : ℕ) (x : Instruction) (rows : List Row) → l ≤ 32 → is_term x ≡ true → Parts (p + 1) rows → Cut p l x rows
  last_row p l x rows low t h =
      let e = term_only x t in
      record {
        others = [];
        after = rows;
        rows_are = refl;
        few = omega arith;
        in_range = tt;
        ends = ([], cc);
        parts = h;
      }

  cut : (rows : List Row) (p l : ℕ) (x : Instruction) → 1 ≤ p → p ≤ c.processes → l ≤ 32 → rows_fit c L p l rows ≡ true → ends_fit c.processes (row p l x ∷ rows) ≡ true → Cut p l x rows
  cut [] p l x first last few fit ends =
      let end = and_parts (is_term x) (leb c.processes p) ends in
      let high = leb-true c.processes p end.1 in
      last_row p l x [] few end.0 (record { processes = []; rows_are = refl; fitting = tt; all = omega arith })
  cut (r ∷ rows) p l x first last few fit ends =
      let y = r.instruction in
      let n = next c L p l r rows fit in
      let end = and_parts (eqb p r.process || is_term x) (ends_fit c.processes (r ∷ rows)) ends in
      let below = cut rows r.process r.label y (grind arith) n.high n.few n.below end.1 in
      let Goal : ℕ → ℕ → Type 0 = λ a b. operands_fit c (L a) y ≡ true → Cut a b y rows → Cut p l x (row a b y ∷ rows) in
      elim n.place [
        | inl s ↦ subst₂ Goal (sym s.1) (sym s.2) (other_row p l x y rows) n.operands below
        | inr s ↦
            let t : is_term x ≡ true = grind (arith, nat_tests) in
            let goal : Goal (p + 1) 1 = λ fits h. last_row p l x (row (p + 1) 1 y ∷ rows) few t (first_row (p + 1) y rows fits h) in
            subst₂ Goal (sym s.0) (sym s.1) goal n.operands below
      ]

  -- no row stands above the first one, which is the first label of process 1
  pub parts : (rows : List Row) → rows_fit c L 0 0 rows ≡ true → ends_fit c.processes rows ≡ true → Parts 1 rows
  parts [] fit ends = absurd (grind arith)
  parts (r ∷ rows) fit ends =
      let y = r.instruction in
      let n = next c L 0 0 r rows fit in
      let p : r.process ≡ 1 = grind arith in
      let l : r.label ≡ 1 = grind arith in
      let below = cut rows r.process r.label y (omega arith) n.high n.few n.below ends in
      let Goal : ℕ → ℕ → Type 0 = λ a b. operands_fit c (L a) y ≡ true → Cut a b y rows → Parts 1 (row a b y ∷ rows) in
      subst₂ Goal (sym p) (sym l) (first_row 1 y rows) n.operands below
