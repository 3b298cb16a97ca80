use Rattle.std.proofs.Common.{take}
use Rattle.program.specs.Tables.{program}
use Rattle.worlds.specs.Worlds.{world as stand}
use Rattle.runs.specs.Cursors.{StandsAt}
use Rattle.runs.proofs.walking.regain.Given as goal

abbrev pub invariant-loop-next : goal.invariant-loop-next
invariant-loop-next g l =
    StandsAt g.M.Memory.machine (program l.fn.table) l.fn.question (stand g.M.Memory.config l.world) l.room (take l.next-index l.fn.moves)
