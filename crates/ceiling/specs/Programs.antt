-- A program over a memory, and its runs by choices.
use Rattle.std.specs.Prelude.{ℕ, ◌+◌, ◌<◌, Bool, true, false, cond, List, [], ◌∷◌, Some, None, Option, ◌==◌}
use Rattle.memory.specs.declared.actions.Action.{Action}
use Rattle.memory.specs.declared.shapes.Shape.{Shape}
use Rattle.memory.specs.Machine.{Machine, Step}
use Rattle.ceiling.specs.declared.moves.Move.{Move}

-- A program: where each process begins, what it does at a place, if it has a move there, and where the value
-- that it sees leads it.
pub record Program (Place : Type 0) : Type 0 where
  pub begins : ℕ → Place
  pub does : ℕ → Place → Option Action
  pub leads : ℕ → Place → ℕ → Place

-- what is seen of a step
pub record Event : Type 0 where
  pub process : ℕ
  pub value : ℕ
  pub mark : Bool

-- each move's choice is below the offer where it is made
abbrev pub offered_from : {W : Type 0} → (W → ℕ → ℕ) → (W → Move → W) → W → List Move → Type 0
offered_from offer next w [] = Unit {0}
offered_from offer next w (k ∷ ks) = (k.choice < offer w k.process) × offered_from offer next (next w k) ks

-- what is seen of moves from w, step by step, and where they end
abbrev pub story_from : {W Move : Type 0} → (W → Move → W) → (W → Move → Event) → W → List Move → List Event
story_from next event w [] = []
story_from next event w (k ∷ ks) = event w k ∷ story_from next event (next w k) ks

abbrev pub end_from : {W Move : Type 0} → (W → Move → W) → W → List Move → W
end_from next w [] = w
end_from next w (k ∷ ks) = end_from next (next w k) ks

-- how many of the steps are switches
abbrev pub switches : List Event → ℕ
switches [] = 0
switches (e ∷ es) = cond e.mark 1 0 + switches es

pub record World (Config Place : Type 0) : Type 0 where
  pub config : Config
  pub places : ℕ → Place

-- the places, once p has seen a value
abbrev pub led : {Place : Type 0} → Program Place → (ℕ → Place) → ℕ → ℕ → ℕ → Place
led G places p v = λ q. elim (q == p) [ true ↦ G.leads q (places q) v | false ↦ places q ]

module _ {Config Place : Type 0} (m : Machine Config) (G : Program Place) where
  abbrev pub opening : Shape → World Config Place
  opening shape = record { config = m.initial shape; places = G.begins }

  abbrev pub offer_of : Config → ℕ → Option Action → ℕ
  offer_of s p (Some a) = m.offer s p a
  offer_of s p None = 0

  abbrev pub step_of : Config → ℕ → Option Action → ℕ → Step Config
  step_of s p (Some a) c = m.step s p a c
  step_of s p None c = record { next = s; value = 0; mark = false }

  -- what a process does where it stands
  abbrev pub deed : World Config Place → ℕ → Option Action
  deed w p = G.does p (w.places p)

  -- how many choices a process has
  abbrev pub offers : World Config Place → ℕ → ℕ
  offers w p = offer_of w.config p (deed w p)

  abbrev pub made : World Config Place → Move → Step Config
  made w k = step_of w.config k.process (deed w k.process) k.choice

  abbrev pub next : World Config Place → Move → World Config Place
  next w k = record { config = (made w k).next; places = led G w.places k.process (made w k).value }

  abbrev pub event : World Config Place → Move → Event
  event w k = record { process = k.process; value = (made w k).value; mark = (made w k).mark }

  abbrev pub Offered : World Config Place → List Move → Type 0
  Offered = offered_from offers next

  abbrev pub story : World Config Place → List Move → List Event
  story = story_from next event

  abbrev pub end : World Config Place → List Move → World Config Place
  end = end_from next
