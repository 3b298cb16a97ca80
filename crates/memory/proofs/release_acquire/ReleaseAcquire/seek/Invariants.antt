use Rattle.memory.specs.ReleaseAcquire.{admitted}
use Rattle.memory.specs.MessageTable.{config}
use Rattle.memory.proofs.Walks.{Passed}
use Rattle.memory.proofs.release_acquire.ReleaseAcquire.seek.Given as goal

abbrev pub invariant-loop-time : goal.invariant-loop-time
invariant-loop-time l = Passed (admitted (config l.self) l.process l.action) l.choice l.time l.passed
