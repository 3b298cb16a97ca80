-- Under the ceiling n, release-acquire memory with its fence layer loses no run of at most n steps.
use Rattle.std.specs.Prelude.{◌≡◌, ℕ, ◌≤◌, Bool, true, ◌↔◌, List, length, Some, None, Option}
use Rattle.memory.specs.declared.shapes.Shape.{Shape}
use Rattle.memory.specs.Machine.{Machine}
use Rattle.memory.specs.Fences.{fenced}
use Rattle.memory.specs.ReleaseAcquire.{Config, machine}
use Rattle.ceiling.specs.declared.moves.Move.{Move}
use Rattle.ceiling.specs.Programs.{Program, Event, switches}
use Rattle.ceiling.specs.Programs as chosen
use Rattle.ceiling.specs.Timed.{Timing}
use Rattle.ceiling.specs.Timed as timed

-- the memory as a session has it
abbrev pub memory : Machine Config
memory = fenced machine

module _ {Place : Type 0} (shape : Shape) (G : Program Place) where
  -- a run by choices under the ceiling, and one by timestamps of any size
  abbrev pub IsChosen : List Move → Type 0
  IsChosen r = chosen.Offered memory G (chosen.opening memory G shape) r

  abbrev pub IsTimed : List Timing → Type 0
  IsTimed s = timed.Obeys shape G (timed.opening shape G) s

  abbrev pub chosen_story : List Move → List Event
  chosen_story r = chosen.story memory G (chosen.opening memory G shape) r

  abbrev pub timed_story : List Timing → List Event
  timed_story s = timed.story shape G (timed.opening shape G) s

  abbrev pub chosen_end : List Move → ℕ → Place
  chosen_end r = (chosen.end memory G (chosen.opening memory G shape) r).places

  abbrev pub timed_end : List Timing → ℕ → Place
  timed_end s = (timed.end shape G (timed.opening shape G) s).places

  -- the two are seen alike, step by step: the same processes, values and marks, and the same places at the end
  pub record Alike (r : List Move) (s : List Timing) : Type 0 where
    pub choice : IsChosen r
    pub time : IsTimed s
    pub story : chosen_story r ≡ timed_story s
    pub size : length r ≡ length s
    pub ending : chosen_end r ≡ timed_end s

  -- a goal is reached within n steps and k switches
  abbrev pub Reached : ℕ → ℕ → ((ℕ → Place) → Bool) → Type 0
  Reached n k goal =
      (r : List Move) × IsChosen r × (length r ≤ n) × (switches (chosen_story r) ≤ k) × (goal (chosen_end r) ≡ true)

  abbrev pub Reachable : ℕ → ℕ → ((ℕ → Place) → Bool) → Type 0
  Reachable n k goal =
      (s : List Timing) × IsTimed s × (length s ≤ n) × (switches (timed_story s) ≤ k) × (goal (timed_end s) ≡ true)

  -- the ceiling loses no run of at most n steps
  pub record LosesNothing (n : ℕ) : Type 0 where
    -- every run by choices is one by timestamps
    pub freed : (r : List Move) → IsChosen r → (s : List Timing) × Alike r s
    -- every run of at most n steps by timestamps of any size is one by choices
    pub bound : (s : List Timing) → IsTimed s → length s ≤ n → (r : List Move) × Alike r s
    -- so every question within n steps has one answer
    pub answers : (k : ℕ) (goal : (ℕ → Place) → Bool) → Reached n k goal ↔ Reachable n k goal

-- Whatever program runs in a memory of the shape, its ceiling loses no run of at most n steps.
abbrev pub Enough : Type 0 → ℕ → Option Shape → Type 0
Enough Place n (Some shape) = (G : Program Place) → LosesNothing shape G n
Enough Place n None = Unit {0}
