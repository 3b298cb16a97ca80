use Rattle.std.proofs.Common.{◌≡◌, length}
use Rattle.memory.specs.ReleaseAcquire.{admitted, passing}
use Rattle.memory.specs.MessageTable.{config}
use Rattle.memory.proofs.release_acquire.ReleaseAcquireMemory.offers.Given as goal

abbrev pub invariant-loop-at : goal.invariant-loop-at
invariant-loop-at l = l.count ≡ length (passing (admitted (config l.self) l.process l.action) l.at)
