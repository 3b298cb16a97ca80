-- Registers hold 0 to 255, and so do the actions that are asked for where they stand.
use Rattle.std.proofs.Common.{◌≡◌, ℕ, zero, suc, ◌+◌, ◌-◌, ◌%◌, ◌≤◌, true, eqb, List, [], ◌∷◌, get_or, set, Some, None, Option, arith}
use Rattle.std.specs.List.{AllByRecursion}
use Rattle.std.proofs.lemmas.Bool.{cond_both, and_parts, ltb-true}
use Rattle.std.proofs.lemmas.Nat.{mod_below}
use Rattle.memory.specs.declared.actions.Action.{Action}
use Rattle.memory.specs.Machine.{InBytes}
use Rattle.program.specs.declared.rows.Counts.{Counts}
use Rattle.program.specs.declared.rows.Instruction.{Instruction}
use Rattle.program.specs.declared.rows.Instruction.TheVariants.{Read, Write, Cas, Set, Add, Jeq, Assume, Fence, Term}
use Rattle.program.specs.Program.{operands_fit, is_register, is_constant}
use Rattle.worlds.specs.declared.places.Place.{Place}
use Rattle.worlds.specs.Places.{beginning, register, action_of, moved}

abbrev pub Bytes : List ℕ → Type 0
Bytes ns = AllByRecursion (λ n. n ≤ 255) ns

get_small : (ns : List ℕ) (i : ℕ) → Bytes ns → get_or ns i 0 ≤ 255
get_small [] i h = omega arith
get_small (n ∷ ns) zero h = h.0
get_small (n ∷ ns) (suc i) h = get_small ns i h.1

set_small : (ns : List ℕ) (i v : ℕ) → v ≤ 255 → Bytes ns → Bytes (set ns i v)
set_small [] i v low h = tt
set_small (n ∷ ns) zero v low h = (low, h.1)
set_small (n ∷ ns) (suc i) v low h = (h.0, set_small ns i v low h.1)

pub beginning_small : Bytes beginning.registers
beginning_small = (omega arith, (omega arith, (omega arith, (omega arith, tt))))

register_small : (at : Place) (r : ℕ) → Bytes at.registers → register at r ≤ 255
register_small at r h = get_small at.registers (r - 1) h

-- the action, where there is one, names no value above 255
abbrev pub AskedInBytes : Option Action → Type 0
AskedInBytes (Some a) = InBytes a
AskedInBytes None = Unit {0}

pub asks_small : (x : Instruction) (at : Place) → Bytes at.registers → AskedInBytes (action_of x at)
asks_small (Read r x) at h = tt
asks_small (Write x r) at h = register_small at r h
asks_small (Cas x a b) at h = (register_small at a h, register_small at b h)
asks_small (Set r v) at h = tt
asks_small (Add r a b) at h = tt
asks_small (Jeq a b l) at h = tt
asks_small (Assume a b) at h = cond_both (eqb (register at a) (register at b)) _ None AskedInBytes (λ e. tt) (λ e. tt)
asks_small Fence at h = tt
asks_small Term at h = tt

module _ (c : Counts) (labels : ℕ) (some : 1 ≤ c.values) (few : c.values ≤ 8) where
  pub moved_small : (x : Instruction) (at : Place) (v : ℕ) → operands_fit c labels x ≡ true → v ≤ 255 → Bytes at.registers → Bytes (moved c.values x at v).registers
  moved_small (Read r x) at v fit low h = set_small at.registers (r - 1) v low h
  moved_small (Write x r) at v fit low h = h
  moved_small (Cas x a b) at v fit low h = h
  moved_small (Set r k) at v fit low h =
      let constant = (and_parts (is_register c r) (is_constant c k) fit).1 in
      set_small at.registers (r - 1) k (omega (arith, ltb-true k c.values constant)) h
  moved_small (Add r a b) at v fit low h =
      let sum = register at a + register at b in
      set_small at.registers (r - 1) (sum % c.values) (omega (arith, mod_below sum c.values some)) h
  moved_small (Jeq a b l) at v fit low h = cond_both (eqb (register at a) (register at b)) _ _ (λ (p : Place). Bytes p.registers) (λ e. h) (λ e. h)
  moved_small (Assume a b) at v fit low h = h
  moved_small Fence at v fit low h = h
  moved_small Term at v fit low h = h
