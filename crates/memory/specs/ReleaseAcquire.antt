-- The release-acquire memory: what the rules allow, with no new timestamp above the ceiling, by rising timestamp.
use Rattle.std.specs.Prelude.{ℕ, zero, suc, ◌+◌, Bool, true, false, cond, not, ◌&&◌, List, [], ◌∷◌, ◌++◌, length, Some, None, Option, ◌==◌, nat_le, nat_lt, slice_index}
use Rattle.memory.specs.declared.actions.Action.{Action}
use Rattle.memory.specs.declared.actions.Action.TheVariants.{Local, Read, Write, Swap, Fence}
use Rattle.memory.specs.declared.shapes.Shape.{Shape}
use Rattle.memory.specs.Shapes.{is_process, is_variable}
use Rattle.memory.specs.Machine.{Machine, Step}
use Rattle.memory.specs.Rules.{Message, Store, start, after, value, mark}

pub record Config : Type 0 where
  pub shape : Shape
  pub store : Store

abbrev pub initial : Shape → Config
initial shape = record { shape = shape; store = start shape.variables }

-- whether there is a message, and whether there is one of a value
abbrev pub held : Option Message → Bool
held (Some m) = true
held None = false

abbrev pub holds : Option Message → ℕ → Bool
holds (Some m) v = m.value == v
holds None v = false

-- the rules as tests
abbrev pub may_read : Store → ℕ → ℕ → ℕ → Bool
may_read C p x t = held (C.pool x t) && nat_le (C.views p x) t

abbrev pub may_write : Store → ℕ → ℕ → ℕ → Bool
may_write C p x t = nat_lt (C.views p x) t && not (held (C.pool x t))

abbrev pub may_swap : Store → ℕ → ℕ → ℕ → ℕ → Bool
may_swap C p x old t = holds (C.pool x t) old && (nat_le (C.views p x) t && not (held (C.pool x (t + 1))))

abbrev pub may : Store → ℕ → Action → ℕ → Bool
may C p Local t = t == 0
may C p (Read x) t = may_read C p x t
may C p (Write x v) t = may_write C p x t
may C p (Swap x old new) t = may_swap C p x old t
may C p Fence t = false

-- the variable is inside the shape, and a swap's new timestamp does not pass the ceiling (a write's is t itself)
abbrev pub fits : Shape → Action → ℕ → Bool
fits shape Local t = true
fits shape (Read x) t = is_variable shape x
fits shape (Write x v) t = is_variable shape x
fits shape (Swap x old new) t = is_variable shape x && nat_lt t shape.ceiling
fits shape Fence t = true

abbrev pub admitted : Config → ℕ → Action → ℕ → Bool
admitted s p a t = is_process s.shape p && (fits s.shape a t && may s.store p a t)

-- the numbers below n that pass a test, rising
abbrev pub passing : (ℕ → Bool) → ℕ → List ℕ
passing test zero = []
passing test (suc n) = passing test n ++ cond (test n) (n ∷ []) []

-- the timestamps among which p chooses
abbrev pub choices : Config → ℕ → Action → List ℕ
choices s p a = passing (admitted s p a) (s.shape.ceiling + 1)

abbrev pub step : Config → ℕ → Action → ℕ → Step Config
step s p a t = record {
  next = record { shape = s.shape; store = after s.store p a t };
  value = value s.store a t;
  mark = mark s.shape.variables s.store p a t;
}

abbrev pub machine : Machine Config
machine = record {
  initial = initial;
  offer = λ s p a. length (choices s p a);
  step = λ s p a c. step s p a (slice_index (choices s p a) c);
}
