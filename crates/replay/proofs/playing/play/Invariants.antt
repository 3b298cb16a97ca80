use Rattle.std.proofs.Common.{◌≡◌, ◌+◌, ◌≤◌, drop}
use Rattle.ceiling.specs.Programs.{opening}
use Rattle.program.specs.Tables.{program}
use Rattle.worlds.specs.Worlds.{over, world as stand}
use Rattle.replay.specs.Playing.{lines_played}
use Rattle.replay.proofs.playing.play.Given as goal

abbrev pub invariant-loop-i : goal.invariant-loop-i
invariant-loop-i g l =
    let played = lines_played g.M.Memory.machine (program l.fn.table) l.fn.question in
    record {
      few : l.switches ≤ 24;
      played : played (stand g.M.Memory.config l.world) (l.i + 1) l.switches (drop l.i l.lines) ≡ played (opening g.M.Memory.machine (over (program l.fn.table)) l.fn.question.shape) 1 0 l.lines;
    }
