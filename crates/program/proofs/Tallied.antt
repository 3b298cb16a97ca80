-- How many rows of a list of processes pass a test of the process.
use Rattle.std.proofs.Common.{◌≡◌, ℕ, suc, ◌+◌, ◌<◌, ◌≤◌, Bool, false, cond, eqb, ltb, List, [], ◌∷◌, length, count_by, refl, ap, ◌∙◌, arith}
use Rattle.std.proofs.lemmas.List.Sums.{sum_by-cons, sum_by-append}
use Rattle.std.proofs.lemmas.Bool.{ne_eqb, le-ltb}
use Rattle.std.proofs.lemmas.Bool.Decides.{nat_tests}
use Rattle.program.specs.declared.rows.Row.{Row}
use Rattle.program.specs.declared.rows.Instruction.{Instruction}
use Rattle.program.specs.Program.{labels_of, rows_below}
use Rattle.program.specs.Source.{numbered, listed}

pub length_numbered : (p l : ℕ) (xs : List Instruction) → length (numbered p l xs) ≡ length xs
length_numbered p l [] = refl
length_numbered p l (x ∷ xs) = ap suc (length_numbered p (l + 1) xs)

-- all rows of a process pass or none does
module _ (t : ℕ → Bool) where
  abbrev tally : List Row → ℕ
  tally rows = count_by (λ (r : Row). t r.process) rows

  tally_numbered : (p l : ℕ) (xs : List Instruction) → tally (numbered p l xs) ≡ cond (t p) (length xs) 0
  tally_numbered p l [] = grind (arith, nat_tests)
  tally_numbered p l (x ∷ xs) =
      let more = sum_by-cons (λ (r : Row). cond (t r.process) 1 0) (record { process = p; label = l; instruction = x }) (numbered p (l + 1) xs) in
      let rest = tally_numbered p (l + 1) xs in
      grind (arith, nat_tests)

  tally_listed : (p : ℕ) (xs : List Instruction) (rest : List (List Instruction)) → tally (listed p (xs ∷ rest)) ≡ cond (t p) (length xs) 0 + tally (listed (p + 1) rest)
  tally_listed p xs rest =
      sum_by-append (λ (r : Row). cond (t r.process) 1 0) (numbered p 1 xs) (listed (p + 1) rest)
      ∙ ap (λ (n : ℕ). n + tally (listed (p + 1) rest)) (tally_numbered p 1 xs)

  -- none passes where no process from p on does
  tally_none : (p : ℕ) (rest : List (List Instruction)) → ((a : ℕ) → p ≤ a → t a ≡ false) → tally (listed p rest) ≡ 0
  tally_none p [] fails = refl
  tally_none p (xs ∷ rest) fails =
      tally_listed p xs rest
      ∙ ap (λ (b : Bool). cond b (length xs) 0 + tally (listed (p + 1) rest)) (fails p (omega arith))
      ∙ ap (λ (n : ℕ). 0 + n) (tally_none (p + 1) rest (λ a h. fails a (omega arith)))

-- a process before p has no row, and so no row is of a process below p
pub labels_lower : (p : ℕ) (rest : List (List Instruction)) (q : ℕ) → q < p → labels_of (listed p rest) q ≡ 0
labels_lower p rest q h = tally_none (λ a. eqb a q) p rest (λ a k. ne_eqb a q (λ e. omega arith))

pub below_own : (p : ℕ) (rest : List (List Instruction)) (q : ℕ) → q ≤ p → rows_below (listed p rest) q ≡ 0
below_own p rest q h = tally_none (λ a. ltb a q) p rest (λ a k. le-ltb a q (omega arith))

-- process p, and those after it
module _ (p : ℕ) (xs : List Instruction) (rest : List (List Instruction)) where
  pub labels_own : labels_of (listed p (xs ∷ rest)) p ≡ length xs
  labels_own =
      let later = labels_lower (p + 1) rest p (omega arith) in
      let own = tally_listed (λ a. eqb a p) p xs rest in
      grind (arith, nat_tests)

  pub labels_later : (q : ℕ) → p < q → labels_of (listed p (xs ∷ rest)) q ≡ labels_of (listed (p + 1) rest) q
  labels_later q h = let all = tally_listed (λ a. eqb a q) p xs rest in grind (arith, nat_tests)

  pub labels_rest : (q : ℕ) → labels_of (listed (p + 1) rest) q ≤ labels_of (listed p (xs ∷ rest)) q
  labels_rest q = let all = tally_listed (λ a. eqb a q) p xs rest in omega arith

  pub below_later : (q : ℕ) → p < q → rows_below (listed p (xs ∷ rest)) q ≡ length xs + rows_below (listed (p + 1) rest) q
  below_later q h = let all = tally_listed (λ a. ltb a q) p xs rest in grind (arith, nat_tests)
