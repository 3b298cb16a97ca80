-- The moves that a run's struct holds.
use Rattle.std.specs.Prelude.{List, take}
use Rattle.ceiling.specs.declared.moves.Move.{Move}
use Rattle.runs.specs.declared.paths.Run.{Run}

abbrev pub path : Run → List Move
path r = take r.len r.moves
