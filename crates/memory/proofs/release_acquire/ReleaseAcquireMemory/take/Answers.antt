use Rattle.std.proofs.Common.{rules, Ok}
use Rattle.memory.specs.MessageTable.{config}
use Rattle.memory.specs.Words.{takes_told}
use Rattle.memory.proofs.Performed.{choice_taken}
use Rattle.memory.proofs.release_acquire.ReleaseAcquireMemory.take.Goals as goal

pub returns-in_err-at-clause-words : goal.returns-in_err-at-clause-words
returns-in_err-at-clause-words c =
    takes_told c.args.self.now c.args.process c.args.action c.args.choice _ c.from_residual.result (search rules)

pub returns : goal.returns
returns c =
    let taken = choice_taken (config c.args.self.now) c.args.process c.args.action c.args.choice c.in_ok-at.at
    (config c.perform.new.self) c.perform.result c.in_ok-at.ensures
    c.perform.ensures.next c.perform.ensures.value c.perform.ensures.mark in
    record {
      outcome = taken;
      words = takes_told c.args.self.now c.args.process c.args.action c.args.choice (config c.perform.new.self) (Ok c.perform.result) taken;
    }
