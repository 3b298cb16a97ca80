-- The numbers of a run's lines.
use Rattle.std.specs.Prelude.{ℕ, ◌+◌, List, [], ◌∷◌}
use Rattle.memory.specs.Machine.{Machine}
use Rattle.ceiling.specs.declared.moves.Move.{Move}
use Rattle.ceiling.specs.Programs.{World, next}
use Rattle.program.specs.Program.{Program}
use Rattle.worlds.specs.declared.places.Place.{Place}
use Rattle.worlds.specs.Worlds.{over, record_of}
use Rattle.replay.specs.Playing.{record_fields}

module _ {Config : Type 0} (m : Machine Config) (t : Program) where
  -- each step's, from step i on
  abbrev pub run_fields : World Config Place → ℕ → List Move → List (List ℕ)
  run_fields w i [] = []
  run_fields w i (k ∷ ks) = record_fields i (record_of m t w k) ∷ run_fields (next m (over t) w k) (i + 1) ks
