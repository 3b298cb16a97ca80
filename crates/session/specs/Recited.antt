-- The steps that moves are, of a table over a memory.
use Rattle.std.specs.Prelude.{ℕ, suc, zero, ◌≤◌, true, false, List, [], ◌∷◌, Some, None, Option, nat_lt, slice_get}
use Rattle.memory.specs.Machine.{Machine}
use Rattle.ceiling.specs.declared.moves.Move.{Move}
use Rattle.ceiling.specs.Programs.{World, next, offers}
use Rattle.program.specs.Program.{Program}
use Rattle.worlds.specs.declared.places.Place.{Place}
use Rattle.worlds.specs.declared.records.Record.{Record}
use Rattle.worlds.specs.Worlds.{over, record_of}
use Rattle.session.specs.declared.steps.Step.{Step}

module _ {Config : Type 0} (m : Machine Config) (t : Program) where
  -- the steps of a run from w, one after another
  abbrev pub records_of : World Config Place → List Move → List Record
  records_of w [] = []
  records_of w (k ∷ ks) = record_of m t w k ∷ records_of (next m (over t) w k) ks

  -- the steps of any moves, as far as they are offered
  abbrev pub recited : World Config Place → List Move → List Record
  recited w [] = []
  recited w (k ∷ ks) = elim (nat_lt k.choice (offers m (over t) w k.process)) [
    | true ↦ record_of m t w k ∷ recited (next m (over t) w k) ks
    | false ↦ []
  ]

-- the choice of a step fits a field of a line
abbrev pub InField : Record → Type 0
InField r = r.choice ≤ 9999

-- a record as step i
abbrev pub as_step : ℕ → Option Record → Option Step
as_step i (Some r) =
    Some (record { step = i; process = r.process; label = r.label; choice = r.choice; value = r.value; switch = r.switch })
as_step i None = None

-- the i-th of some steps, counted from 1, if there is one
abbrev pub nth : ℕ → List Record → Option Step
nth zero rs = None
nth (suc i) rs = as_step (suc i) (slice_get rs i)
