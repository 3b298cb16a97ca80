-- The runs that a question asks about: where they begin, where one leads, and which are within both bounds.
use Rattle.std.specs.Prelude.{List}
use Rattle.memory.specs.Machine.{Machine}
use Rattle.ceiling.specs.declared.moves.Move.{Move}
use Rattle.ceiling.specs.Programs.{World, opening}
use Rattle.program.specs.Program.{Program}
use Rattle.worlds.specs.declared.places.Place.{Place}
use Rattle.worlds.specs.Worlds.{over}
use Rattle.runs.specs.declared.questions.Question.{Question}
use Rattle.runs.specs.Runs.{end_of}
use Rattle.runs.specs.Listed.{Within}
use Rattle.runs.specs.Asked.{system}

module _ {Config : Type 0} (m : Machine Config) (t : Program) (q : Question) where
  abbrev pub start : World Config Place
  start = opening m (over t) q.shape

  abbrev pub led_by : List Move → World Config Place
  led_by r = end_of (system m t) start r

  abbrev pub IsBounded : List Move → Type 0
  IsBounded r = Within (system m t) start q.steps q.switches r
