use Rattle.std.proofs.Common.{ap}
use Rattle.memory.specs.Rules.{Store}
use Rattle.memory.proofs.MessageTables.{started}
use Rattle.memory.specs.Timely.{always_timely}
use Rattle.memory.proofs.release_acquire.ReleaseAcquire.new.Goals as goal

pub returns : goal.returns
returns c =
    record {
      start = ap (λ (s : Store). record { shape = c.args.shape; store = s })
          (started c.args.shape c.nought.result _ c.nought.ensures c.first_messages.ensures);
      always = always_timely;
    }
