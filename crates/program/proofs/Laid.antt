-- The rows of a list of processes follow one another, and each process ends in TERM.
use Rattle.std.proofs.Common.{◌≡◌, ℕ, ◌+◌, ◌≤◌, true, ◌||◌, eqb, leb, List, [], ◌∷◌, ◌++◌, length, refl, ap, arith}
use Rattle.std.specs.List.{AllByRecursion}
use Rattle.std.proofs.lemmas.Bool.{and_from, or_left, or_right, le-leb, eq-eqb}
use Rattle.std.proofs.lemmas.Bool.Decides.{nat_tests}
use Rattle.program.specs.declared.rows.Row.{Row}
use Rattle.program.specs.declared.rows.Counts.{Counts}
use Rattle.program.specs.declared.rows.Instruction.{Instruction}
use Rattle.program.specs.declared.rows.Instruction.TheVariants.{Term}
use Rattle.program.specs.Program.{operands_fit, follows, is_term, rows_fit, ends_fit}
use Rattle.program.specs.Source.{numbered, listed}
use Rattle.program.proofs.Cuts.{row, Ends, Fitting}

-- a list that ends in TERM has an instruction; its last one is TERM, and what follows its first one ends in TERM too
ends_some : Ends [] → ⊥
ends_some ([], e) = let z : ◌≡◌ {A = ℕ} 0 1 = cc in omega arith
ends_some (y ∷ front, e) = let z : ◌≡◌ {A = ℕ} 0 1 = cc in omega arith

ends_last : (x : Instruction) → Ends (x ∷ []) → is_term x ≡ true
ends_last x ([], e) = let s : x ≡ Term = cc in ap is_term s
ends_last x (y ∷ front, e) = absurd (ends_some (front, cc))

ends_rest : (x y : Instruction) (xs : List Instruction) → Ends (x ∷ (y ∷ xs)) → Ends (y ∷ xs)
ends_rest x y xs ([], e) = let z : ◌≡◌ {A = ℕ} 0 1 = cc in absurd (omega arith)
ends_rest x y xs (z ∷ front, e) = (front, cc)

module _ (c : Counts) (L : ℕ → ℕ) where
  -- what comes after a process may stand below any of its labels, since it begins a new process
  rows_numbered : (p l : ℕ) (xs : List Instruction) (after : List Row) → 1 ≤ p → p ≤ c.processes → l + length xs ≤ 32 → AllByRecursion (λ x. operands_fit c (L p) x ≡ true) xs → ((m : ℕ) → rows_fit c L p m after ≡ true) → rows_fit c L p l (numbered p (l + 1) xs ++ after) ≡ true
  rows_numbered p l [] after first last few fits then = then l
  rows_numbered p l (x ∷ xs) after first last few fits then =
      let here : follows c p l p (l + 1) ≡ true = grind (arith, nat_tests) in
      let below = rows_numbered p (l + 1) xs after first last (omega arith) fits.1 then in
      and_from (follows c p l p (l + 1)) _ here (and_from (operands_fit c (L p) x) _ fits.0 below)

  pub rows_listed : (p l : ℕ) (rest : List (List Instruction)) → Fitting c L (p + 1) rest → p + length rest ≤ c.processes → rows_fit c L p l (listed (p + 1) rest) ≡ true
  rows_listed p l [] fit few = refl
  rows_listed p l ([] ∷ rest) fit few = absurd (ends_some fit.0.ends)
  rows_listed p l ((x ∷ xs) ∷ rest) fit few =
      let own = fit.0 in
      let here : follows c p l (p + 1) 1 ≡ true = grind (arith, nat_tests) in
      let below = rows_numbered (p + 1) 1 xs (listed (p + 1 + 1) rest) (omega arith) (omega arith) (omega arith) own.in_range.1 (λ m. rows_listed (p + 1) m rest fit.1 (omega arith)) in
      and_from (follows c p l (p + 1) 1) _ here (and_from (operands_fit c (L (p + 1)) x) _ own.in_range.0 below)

  -- the rows may stand below the TERM of process p
  abbrev Closes : ℕ → List Row → Type 0
  Closes p after = (m : ℕ) (y : Instruction) → is_term y ≡ true → ends_fit c.processes (row p m y ∷ after) ≡ true

  ends_numbered : (p l : ℕ) (x : Instruction) (xs : List Instruction) (after : List Row) → Ends (x ∷ xs) → Closes p after → ends_fit c.processes (row p l x ∷ (numbered p (l + 1) xs ++ after)) ≡ true
  ends_numbered p l x [] after ends then = then l x (ends_last x ends)
  ends_numbered p l x (y ∷ xs) after ends then =
      and_from (eqb p p || is_term x) _ (or_left (eqb p p) (is_term x) (eq-eqb p p refl)) (ends_numbered p (l + 1) y xs after (ends_rest x y xs ends) then)

  pub ends_listed : (p : ℕ) (processes : List (List Instruction)) → Fitting c L p processes → 1 ≤ length processes → c.processes + 1 ≤ p + length processes → ends_fit c.processes (listed p processes) ≡ true
  ends_listed p [] fit some all = absurd (omega arith)
  ends_listed p ([] ∷ rest) fit some all = absurd (ends_some fit.0.ends)
  ends_listed p ((x ∷ xs) ∷ []) fit some all =
      ends_numbered p 1 x xs [] fit.0.ends (λ m y t. and_from (is_term y) (leb c.processes p) t (le-leb c.processes p (omega arith)))
  ends_listed p ((x ∷ xs) ∷ ([] ∷ rest)) fit some all = absurd (ends_some fit.1.0.ends)
  ends_listed p ((x ∷ xs) ∷ ((z ∷ zs) ∷ rest)) fit some all =
      let below = ends_listed (p + 1) ((z ∷ zs) ∷ rest) fit.1 (omega arith) (omega arith) in
      ends_numbered p 1 x xs (listed (p + 1) ((z ∷ zs) ∷ rest)) fit.0.ends (λ m y t. and_from (eqb p (p + 1) || is_term y) _ (or_right (eqb p (p + 1)) (is_term y) t) below)
