-- The takes so far have led here from where the loop began.
use Rattle.std.proofs.Common.{take}
use Rattle.memory.specs.Machine.{Leads}
use Rattle.memory.proofs.driving.drive.Given as goal

abbrev pub invariant-loop-take : goal.invariant-loop-take
invariant-loop-take g l =
    Leads g.M.Memory.machine (g.M.Memory.config l.initial.memory) (take l.take-index l.takes) (g.M.Memory.config l.memory)
