-- What a memory is made for, and what lies inside.
use Rattle.std.specs.Prelude.{◌≡◌, ℕ, ◌≤◌, Bool, true, false, ◌&&◌, T, Some, None, Option, nat_le}
use Rattle.std.proofs.Common.{leb→le}
use Rattle.memory.specs.declared.actions.Action.{Action}
use Rattle.memory.specs.declared.actions.Action.TheVariants.{Local, Read, Write, Swap, Fence}
use Rattle.memory.specs.declared.shapes.Shape.{Shape}

-- the limits of a shape: its processes, its variables and its ceiling
abbrev pub Limits : ℕ → ℕ → ℕ → Type 0
Limits p v n = (1 ≤ p) × (p ≤ 4) × (1 ≤ v) × (v ≤ 4) × (n ≤ 24)

-- the shape of these numbers, or none just where one is outside its limits
abbrev pub Shaped : ℕ → ℕ → ℕ → Option Shape → Type 0
Shaped p v n (Some s) = (s.processes ≡ p) × (s.variables ≡ v) × (s.ceiling ≡ n)
Shaped p v n None = Limits p v n → ⊥

-- the limits as a test
abbrev pub limited : ℕ → ℕ → ℕ → Bool
limited p v n = nat_le 1 p && (nat_le p 4 && (nat_le 1 v && (nat_le v 4 && nat_le n 24)))

pub t_parts : (a b : Bool) → T (a && b) → T a × T b
t_parts true b h = (tt, h)
t_parts false b h = absurd h

pub within : (p v n : ℕ) → T (limited p v n) → Limits p v n
within p v n h =
    let a = t_parts (nat_le 1 p) (nat_le p 4 && (nat_le 1 v && (nat_le v 4 && nat_le n 24))) h in
    let b = t_parts (nat_le p 4) (nat_le 1 v && (nat_le v 4 && nat_le n 24)) a.1 in
    let c = t_parts (nat_le 1 v) (nat_le v 4 && nat_le n 24) b.1 in
    let d = t_parts (nat_le v 4) (nat_le n 24) c.1 in
    (leb→le 1 p a.0, leb→le p 4 b.0, leb→le 1 v c.0, leb→le v 4 d.0, leb→le n 24 d.1)

-- the shape where the test is passed
abbrev pub shape_if : (p v n : ℕ) (b : Bool) → (T b → Limits p v n) → Option Shape
shape_if p v n true h = Some (record {
  processes = p;
  variables = v;
  ceiling = n;
  peopled = (h tt).0;
  crowd = (h tt).1;
  stored = (h tt).2;
  small = (h tt).3;
  low = (h tt).4;
})
shape_if p v n false h = None

-- the shape of these numbers, or none, as a definition that computes
abbrev pub shape_by : ℕ → ℕ → ℕ → Option Shape
shape_by p v n = shape_if p v n (limited p v n) (within p v n)

-- for the crates above, to which the field is private
abbrev pub variables_of : Shape → ℕ
variables_of shape = shape.variables

-- processes are 1 to P, and variables 0 to V
abbrev pub IsProcess : Shape → ℕ → Type 0
IsProcess shape p = (1 ≤ p) × (p ≤ shape.processes)

abbrev pub IsVariable : Shape → ℕ → Type 0
IsVariable shape x = x ≤ shape.variables

-- the variable of an action is one of the shape's
abbrev pub Names : Shape → Action → Type 0
Names shape Local = Unit {0}
Names shape (Read x) = IsVariable shape x
Names shape (Write x v) = IsVariable shape x
Names shape (Swap x old new) = IsVariable shape x
Names shape Fence = Unit {0}

-- the process and the variable are the shape's
abbrev pub Inside : Shape → ℕ → Action → Type 0
Inside shape p a = IsProcess shape p × Names shape a

-- the same as tests
abbrev pub is_process : Shape → ℕ → Bool
is_process shape p = nat_le 1 p && nat_le p shape.processes

abbrev pub is_variable : Shape → ℕ → Bool
is_variable shape x = nat_le x shape.variables
