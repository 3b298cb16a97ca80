-- What an instruction does where a process stands.
use Rattle.std.specs.Prelude.{ℕ, ◌+◌, ◌-◌, ◌%◌, Bool, true, cond, ◌&&◌, [], ◌∷◌, set, Some, None, Option, ◌==◌, slice_index}
use Rattle.memory.specs.declared.actions.Action.{Action}
use Rattle.memory.specs.declared.actions.Action.TheVariants as act
use Rattle.program.specs.declared.rows.Instruction.{Instruction}
use Rattle.program.specs.declared.rows.Instruction.TheVariants.{Read, Write, Cas, Set, Add, Jeq, Assume, Fence, Term}
use Rattle.program.specs.Program.{within}
use Rattle.worlds.specs.declared.places.Place.{Place}

-- where every process begins: at label 1, with registers 0
abbrev pub beginning : Place
beginning = record { label = 1; registers = 0 ∷ (0 ∷ (0 ∷ (0 ∷ []))) }

-- registers count from 1
abbrev pub register : Place → ℕ → ℕ
register at r = slice_index at.registers (r - 1)

-- on to another label, or to the next one with a register that gets a value
abbrev pub gone : Place → ℕ → Place
gone at l = record { label = l; registers = at.registers }

abbrev pub onward : Place → Place
onward at = gone at (at.label + 1)

abbrev pub given : Place → ℕ → ℕ → Place
given at r v = record { label = at.label + 1; registers = set at.registers (r - 1) v }

-- What a process asks of the memory where it stands; at TERM, and at ASSUME with unequal registers, it has no move.
abbrev pub action_of : Instruction → Place → Option Action
action_of (Read r x) at = Some (act.Read x)
action_of (Write x r) at = Some (act.Write x (register at r))
action_of (Cas x a b) at = Some (act.Swap x (register at a) (register at b))
action_of (Set r v) at = Some act.Local
action_of (Add r a b) at = Some act.Local
action_of (Jeq a b l) at = Some act.Local
action_of (Assume a b) at = cond (register at a == register at b) (Some act.Local) None
action_of Fence at = Some act.Fence
action_of Term at = None

-- Where it stands once it has seen a value; sums go up to the number of values.
abbrev pub moved : ℕ → Instruction → Place → ℕ → Place
moved values (Read r x) at v = given at r v
moved values (Write x r) at v = onward at
moved values (Cas x a b) at v = onward at
moved values (Set r k) at v = given at r k
moved values (Add r a b) at v = given at r ((register at a + register at b) % values)
moved values (Jeq a b l) at v = cond (register at a == register at b) (gone at l) (onward at)
moved values (Assume a b) at v = onward at
moved values Fence at v = onward at
moved values Term at v = at

-- what is told of the value seen: that of READ and CAS, else 0
abbrev pub shown : Instruction → ℕ → ℕ
shown (Read r x) v = v
shown (Write x r) v = 0
shown (Cas x a b) v = v
shown (Set r k) v = 0
shown (Add r a b) v = 0
shown (Jeq a b l) v = 0
shown (Assume a b) v = 0
shown Fence v = 0
shown Term v = 0

abbrev pub four : ℕ → Bool
four r = within 1 4 r

-- every register that the instruction names is one of four
abbrev pub registers_fit : Instruction → Bool
registers_fit (Read r x) = four r
registers_fit (Write x r) = four r
registers_fit (Cas x a b) = four a && four b
registers_fit (Set r k) = four r
registers_fit (Add r a b) = four r && (four a && four b)
registers_fit (Jeq a b l) = four a && four b
registers_fit (Assume a b) = four a && four b
registers_fit Fence = true
registers_fit Term = true
