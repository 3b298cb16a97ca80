use Rattle.std.proofs.Common.{rules, Ok}
use Rattle.memory.specs.SequentialState.{config}
use Rattle.memory.specs.Sequenced.{takes_told}
use Rattle.memory.proofs.sequential.SequentialMemory.take.Goals as goal

pub returns-clause-words : goal.returns-clause-words
returns-clause-words c =
    takes_told (config c.args.self.now) c.args.process c.args.action c.args.choice _ (Ok _) (search rules)
