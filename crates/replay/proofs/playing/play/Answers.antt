use Rattle.std.proofs.Common.{◌≡◌, ℕ, List, ap, rules, arith}
use Rattle.memory.specs.Machine.{Machine}
use Rattle.memory.specs.declared.shapes.Shape.{Shape}
use Rattle.ceiling.specs.Programs.{World, opening}
use Rattle.program.specs.Program.{Program}
use Rattle.worlds.specs.declared.places.Place.{Place}
use Rattle.worlds.specs.Worlds.{over}
use Rattle.runs.specs.declared.questions.Question.{Question}
use Rattle.replay.specs.Playing.{lines_played}
use Rattle.replay.proofs.playing.play.Goals as goal

-- a world that was started is at the start of the runs
from_start : {Config : Type 0} (m : Machine Config) (t : Program) (q : Question) (w : World Config Place) (s : Shape) (fs : List (List ℕ))
    → ((p : Program) → w ≡ opening m (over p) s)
    → lines_played m t q w 1 0 fs ≡ lines_played m t q (opening m (over t) s) 1 0 fs
from_start m t q w s fs h = ap (λ v. lines_played m t q v 1 0 fs) (h t)

pub loop-i-init : goal.loop-i-init
loop-i-init g c = record { few = omega arith; played = search (rules, from_start) }
