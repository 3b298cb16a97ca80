-- The operands of an instruction that was found name registers that every place has.
use Rattle.std.proofs.Common.{◌≡◌, ℕ, ◌≤◌, true, refl, arith}
use Rattle.std.proofs.lemmas.Bool.Decides.{nat_tests}
use Rattle.program.specs.declared.rows.Counts.{Counts}
use Rattle.program.specs.declared.rows.Instruction.{Instruction}
use Rattle.program.specs.declared.rows.Instruction.TheVariants.{Read, Write, Cas, Set, Add, Jeq, Assume, Fence, Term}
use Rattle.program.specs.Program.{Program, counts_fit, labels_of, operands_fit}
use Rattle.program.specs.Tables.{Fits}
use Rattle.worlds.specs.Places.{registers_fit}

registers : (c : Counts) (labels : ℕ) (x : Instruction) → counts_fit c ≡ true → operands_fit c labels x ≡ true → registers_fit x ≡ true
registers c labels (Read r x) h o = grind (arith, nat_tests)
registers c labels (Write x r) h o = grind (arith, nat_tests)
registers c labels (Cas x a b) h o = grind (arith, nat_tests)
registers c labels (Set r k) h o = grind (arith, nat_tests)
registers c labels (Add r a b) h o = grind (arith, nat_tests)
registers c labels (Jeq a b l) h o = grind (arith, nat_tests)
registers c labels (Assume a b) h o = grind (arith, nat_tests)
registers c labels Fence h o = refl
registers c labels Term h o = refl

module _ (p : Program) (q l : ℕ) (x : Instruction) (fits : Fits p q l x) where
  pub registers_fit_at : registers_fit x ≡ true
  registers_fit_at = registers p.counts (labels_of p.rows q) x fits.counts fits.operands

  pub low_at : l ≤ 32
  low_at = let h = fits.label in grind (arith, nat_tests)

  pub values_at : 1 ≤ p.counts.values
  values_at = let h = fits.counts in grind (arith, nat_tests)
