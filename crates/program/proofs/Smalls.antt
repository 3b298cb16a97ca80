-- The numbers of a proper table fit their fields.
use Rattle.std.proofs.Common.{◌≡◌, ℕ, suc, ◌≤◌, true, ◌&&◌, leb, List, [], ◌∷◌, map, length, refl, ap, arith}
use Rattle.std.proofs.lemmas.Bool.{and_parts, leb-true, ltb-true}
use Rattle.std.specs.List.{AllByRecursion}
use Rattle.text.specs.Lines.{Small}
use Rattle.program.specs.declared.rows.Row.{Row}
use Rattle.program.specs.declared.rows.Counts.{Counts}
use Rattle.program.specs.declared.rows.Instruction.{Instruction}
use Rattle.program.specs.declared.rows.Instruction.TheVariants.{Read, Write, Cas, Set, Add, Jeq, Assume, Fence, Term}
use Rattle.program.specs.Program.{within, counts_fit, is_register, is_variable, is_constant, operands_fit, instruction_fields, row_fields, header_fields, rows_fit, Six}
use Rattle.program.proofs.Follows.{next}

pub within_high : (low high n : ℕ) → within low high n ≡ true → n ≤ high
within_high low high n e = leb-true n high (and_parts (leb low n) (leb n high) e).1

four : {n x y z : ℕ} → n ≤ 9999 → x ≤ 9999 → y ≤ 9999 → z ≤ 9999 → Small (n ∷ (x ∷ (y ∷ (z ∷ []))))
four a b c d = (a, (b, (c, (d, tt))))

four_long : (x : Instruction) → length (instruction_fields x) ≡ 4
four_long (Read r v) = refl
four_long (Write v r) = refl
four_long (Cas v a b) = refl
four_long (Set r k) = refl
four_long (Add r a b) = refl
four_long (Jeq a b l) = refl
four_long (Assume a b) = refl
four_long Fence = refl
four_long Term = refl

module _ (c : Counts) (fit : counts_fit c ≡ true) where
  abbrev pub Limits : Type 0
  Limits = (c.processes ≤ 4) × (c.variables ≤ 4) × (c.registers ≤ 4) × (c.values ≤ 8)

  pub limits : Limits
  limits =
      let a = and_parts (within 1 4 c.processes) (within 1 4 c.variables && (within 1 4 c.registers && within 2 8 c.values)) fit in
      let b = and_parts (within 1 4 c.variables) (within 1 4 c.registers && within 2 8 c.values) a.1 in
      let d = and_parts (within 1 4 c.registers) (within 2 8 c.values) b.1 in
      (within_high 1 4 c.processes a.0, within_high 1 4 c.variables b.0, within_high 1 4 c.registers d.0, within_high 2 8 c.values d.1)

  register : (n : ℕ) → is_register c n ≡ true → n ≤ 9999
  register n e = omega (arith, within_high 1 c.registers n e, limits.2)

  variable : (n : ℕ) → is_variable c n ≡ true → n ≤ 9999
  variable n e = omega (arith, within_high 1 c.variables n e, limits.1)

  constant : (n : ℕ) → is_constant c n ≡ true → n ≤ 9999
  constant n e = omega (arith, ltb-true n c.values e, limits.3)

  module _ (labels : ℕ) (few : labels ≤ 128) where
    instruction_small : (x : Instruction) → operands_fit c labels x ≡ true → Small (instruction_fields x)
    instruction_small (Read r v) e = let t = and_parts (is_register c r) (is_variable c v) e in four (omega arith) (register r t.0) (variable v t.1) (omega arith)
    instruction_small (Write v r) e = let t = and_parts (is_variable c v) (is_register c r) e in four (omega arith) (variable v t.0) (register r t.1) (omega arith)
    instruction_small (Cas v a b) e = let t = and_parts (is_variable c v) (is_register c a && is_register c b) e in let u = and_parts (is_register c a) (is_register c b) t.1 in four (omega arith) (variable v t.0) (register a u.0) (register b u.1)
    instruction_small (Set r k) e = let t = and_parts (is_register c r) (is_constant c k) e in four (omega arith) (register r t.0) (constant k t.1) (omega arith)
    instruction_small (Add r a b) e = let t = and_parts (is_register c r) (is_register c a && is_register c b) e in let u = and_parts (is_register c a) (is_register c b) t.1 in four (omega arith) (register r t.0) (register a u.0) (register b u.1)
    instruction_small (Jeq a b l) e = let t = and_parts (is_register c a) (is_register c b && within 1 labels l) e in let u = and_parts (is_register c b) (within 1 labels l) t.1 in let low = within_high 1 labels l u.1 in four (omega arith) (register a t.0) (register b u.0) (omega arith)
    instruction_small (Assume a b) e = let t = and_parts (is_register c a) (is_register c b) e in four (omega arith) (register a t.0) (register b t.1) (omega arith)
    instruction_small Fence e = four (omega arith) (omega arith) (omega arith) (omega arith)
    instruction_small Term e = four (omega arith) (omega arith) (omega arith) (omega arith)

  -- every row of a table is a line of six such numbers
  pub rows_small : (L : ℕ → ℕ) → ((q : ℕ) → L q ≤ 128) → (p l : ℕ) (rows : List Row) → rows_fit c L p l rows ≡ true → AllByRecursion Six (map row_fields rows)
  rows_small L few p l [] e = tt
  rows_small L few p l (r ∷ rows) e =
      let n = next c L p l r rows e in
      ((ap (λ (k : ℕ). suc (suc k)) (four_long r.instruction), (omega (arith, limits.0, n.high), (omega (arith, n.few), instruction_small (L r.process) (few r.process) r.instruction n.operands))), rows_small L few r.process r.label rows n.below)

  pub header_small : (n : ℕ) → n ≤ 128 → Six (header_fields c n)
  header_small n h = (refl, (omega (arith, limits.0), (omega (arith, limits.1), (omega (arith, limits.2), (omega (arith, limits.3), (omega arith, (omega arith, tt)))))))
