-- What the release-acquire memory offers and does, in the words of its rules.
use Rattle.std.specs.Prelude.{◌≡◌, ℕ, ◌<◌, ◌≤◌, true, ◌↔◌, List, length, Some, Ok, Err, Result, slice_index}
use Rattle.memory.specs.declared.actions.Action.{Action}
use Rattle.memory.specs.declared.actions.NotOffered.{NotOffered}
use Rattle.memory.specs.declared.actions.Seen.{Seen}
use Rattle.memory.specs.declared.actions.Take.{Take}
use Rattle.memory.specs.declared.shapes.Shape.{Shape}
use Rattle.memory.specs.Shapes.{Inside}
use Rattle.memory.specs.Machine.{Leads}
use Rattle.memory.specs.Rules.{Message, May, Below, Switches, after, value}
use Rattle.memory.specs.ReleaseAcquire.{Config, initial, machine}

-- The step at the timestamp t: the process and the variable are inside the shape, the rule allows it, and no
-- new timestamp passes the ceiling.
abbrev pub Allowed : Config → ℕ → Action → ℕ → Type 0
Allowed s p a t = Inside s.shape p a × May s.store p a t × Below s.shape.ceiling a t

-- the choice c is the timestamp t
abbrev pub Chooses : List ℕ → ℕ → ℕ → Type 0
Chooses ts c t = (c < length ts) × (slice_index ts c ≡ t)

-- t stands among the choices
abbrev pub Among : List ℕ → ℕ → Type 0
Among ts t = (c : ℕ) × Chooses ts c t

abbrev pub Rising : List ℕ → Type 0
Rising ts = (c d : ℕ) → c < d → d < length ts → slice_index ts c < slice_index ts d

-- The choices of a process: rising timestamps, and just those that are allowed.
pub record ByTheRules (s : Config) (p : ℕ) (a : Action) (ts : List ℕ) : Type 0 where
  pub rises : Rising ts
  pub exactly : (t : ℕ) → Among ts t ↔ Allowed s p a t

-- As many choices are offered as there are allowed timestamps.
pub record Offers (s : Config) (p : ℕ) (a : Action) (n : ℕ) : Type 0 where
  pub times : List ℕ
  pub rules : ByTheRules s p a times
  pub count : n ≡ length times

-- A choice leads to the configuration u: it is one of the allowed timestamps, and the store after, the value and the mark are
-- the rule's.
pub record Steps (s : Config) (p : ℕ) (a : Action) (c : ℕ) (u : Config) (seen : Seen) : Type 0 where
  pub times : List ℕ
  pub rules : ByTheRules s p a times
  pub time : ℕ
  pub chosen : Chooses times c time
  pub shape : u.shape ≡ s.shape
  pub store : u.store ≡ after s.store p a time
  pub sees : seen.value ≡ value s.store a time
  pub switch : (seen.switch ≡ true) ↔ Switches s.shape.variables s.store p a time

-- A choice that is not below the number of allowed timestamps is refused with that number.
pub record Stays (s : Config) (p : ℕ) (a : Action) (c : ℕ) (u : Config) (f : NotOffered) : Type 0 where
  pub times : List ℕ
  pub rules : ByTheRules s p a times
  pub told : f.offered ≡ length times
  pub beyond : length times ≤ c
  pub same : u ≡ s

abbrev pub Takes : Config → ℕ → Action → ℕ → Config → Result Seen NotOffered → Type 0
Takes s p a c u (Ok seen) = Steps s p a c u seen
Takes s p a c u (Err f) = Stays s p a c u f

-- No timestamp is above the ceiling, and a message's own timestamp is its view's entry at its variable.
pub record Timely (s : Config) : Type 0 where
  pub low : (x t : ℕ) (m : Message) → s.store.pool x t ≡ Some m → t ≤ s.shape.ceiling
  pub stamped : (x t : ℕ) (m : Message) → s.store.pool x t ≡ Some m → m.view x ≡ t
  pub sent : (x t : ℕ) (m : Message) → s.store.pool x t ≡ Some m → (y : ℕ) → m.view y ≤ s.shape.ceiling
  pub seen : (p x : ℕ) → s.store.views p x ≤ s.shape.ceiling

-- In every configuration to which takes lead from the start of a shape, that shape is kept, and its ceiling
-- bounds all timestamps.
abbrev pub AlwaysTimely : Type 0
AlwaysTimely =
    (shape : Shape) (ks : List Take) (s : Config) → Leads machine (initial shape) ks s → (s.shape ≡ shape) × Timely s
