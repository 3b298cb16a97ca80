-- The runs of a program by the rules of release-acquire alone: a step names its process and a timestamp of
-- any size. A fence is a swap of variable 0 from 0 to 0.
use Rattle.std.specs.Prelude.{ℕ, Bool, false, List, [], ◌∷◌, Some, None, Option}
use Rattle.memory.specs.declared.actions.Action.{Action}
use Rattle.memory.specs.declared.shapes.Shape.{Shape}
use Rattle.memory.specs.Shapes.{Inside, variables_of}
use Rattle.memory.specs.Fences.{lowered}
use Rattle.memory.specs.Rules.{Store, start, May, after, value, mark}
use Rattle.ceiling.specs.Programs.{Program, Event, led, story_from, end_from}

-- a process, and the timestamp of the message taken (for Write of the one added, for Local 0)
pub record Timing : Type 0 where
  pub process : ℕ
  pub time : ℕ

pub record Scene (Place : Type 0) : Type 0 where
  pub store : Store
  pub places : ℕ → Place

module _ {Place : Type 0} (shape : Shape) (G : Program Place) where
  abbrev pub opening : Scene Place
  opening = record { store = start (variables_of shape); places = G.begins }

  abbrev pub deed : Scene Place → ℕ → Option Action
  deed w p = G.does p (w.places p)

  -- the process and the variable are the shape's, and the rule allows the step at the timestamp
  abbrev pub Can : Store → ℕ → Option Action → ℕ → Type 0
  Can C p (Some a) t = Inside shape p (lowered a) × May C p (lowered a) t
  Can C p None t = ⊥

  abbrev pub store_after : Store → ℕ → Option Action → ℕ → Store
  store_after C p (Some a) t = after C p (lowered a) t
  store_after C p None t = C

  abbrev pub value_of : Store → Option Action → ℕ → ℕ
  value_of C (Some a) t = value C (lowered a) t
  value_of C None t = 0

  abbrev pub mark_of : Store → ℕ → Option Action → ℕ → Bool
  mark_of C p (Some a) t = mark (variables_of shape) C p (lowered a) t
  mark_of C p None t = false

  abbrev pub next : Scene Place → Timing → Scene Place
  next w k = record {
    store = store_after w.store k.process (deed w k.process) k.time;
    places = led G w.places k.process (value_of w.store (deed w k.process) k.time);
  }

  abbrev pub event : Scene Place → Timing → Event
  event w k = record {
    process = k.process;
    value = value_of w.store (deed w k.process) k.time;
    mark = mark_of w.store k.process (deed w k.process) k.time;
  }

  -- each step is one that the rules allow
  abbrev pub Obeys : Scene Place → List Timing → Type 0
  Obeys w [] = Unit {0}
  Obeys w (k ∷ ks) = Can w.store k.process (deed w k.process) k.time × Obeys (next w k) ks

  abbrev pub story : Scene Place → List Timing → List Event
  story = story_from next event

  abbrev pub end : Scene Place → List Timing → Scene Place
  end = end_from next
