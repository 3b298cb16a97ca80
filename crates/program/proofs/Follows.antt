-- What a row that may stand there keeps.
use Rattle.std.proofs.Common.{◌≡◌, ℕ, ◌+◌, ◌≤◌, true, ◌&&◌, ◌⊎◌, List, ◌∷◌, arith}
use Rattle.std.proofs.lemmas.Bool.{and_parts}
use Rattle.std.proofs.lemmas.Bool.Decides.{nat_tests}
use Rattle.program.specs.declared.rows.Row.{Row}
use Rattle.program.specs.declared.rows.Counts.{Counts}
use Rattle.program.specs.Program.{operands_fit, follows, rows_fit}

-- which row may stand below process p and label l: the next label, or the next process
pub follows_means : (c : Counts) (p l q m : ℕ) → follows c p l q m ≡ true → (q ≤ c.processes) × (m ≤ 32) × (((1 ≤ p) × (q ≡ p) × (m ≡ l + 1)) ⊎ ((q ≡ p + 1) × (m ≡ 1)))
follows_means c p l q m e = (grind (arith, nat_tests), grind (arith, nat_tests), grind (arith, nat_tests))

module _ (c : Counts) (L : ℕ → ℕ) where
  -- what the row r below process p and label l keeps, and the rows below it
  pub record Next (p l : ℕ) (r : Row) (rows : List Row) : Type 0 where
    pub follow : follows c p l r.process r.label ≡ true
    pub high : r.process ≤ c.processes
    pub few : r.label ≤ 32
    pub place : ((1 ≤ p) × (r.process ≡ p) × (r.label ≡ l + 1)) ⊎ ((r.process ≡ p + 1) × (r.label ≡ 1))
    pub operands : operands_fit c (L r.process) r.instruction ≡ true
    pub below : rows_fit c L r.process r.label rows ≡ true

  pub next : (p l : ℕ) (r : Row) (rows : List Row) → rows_fit c L p l (r ∷ rows) ≡ true → Next p l r rows
  next p l r rows fit =
      let both = and_parts (follows c p l r.process r.label) (operands_fit c (L r.process) r.instruction && rows_fit c L r.process r.label rows) fit in
      let fits = and_parts (operands_fit c (L r.process) r.instruction) (rows_fit c L r.process r.label rows) both.1 in
      let means = follows_means c p l r.process r.label both.0 in
      record { follow = both.0; high = means.0; few = means.1; place = means.2; operands = fits.0; below = fits.1 }
