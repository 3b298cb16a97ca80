use Rattle.program.specs.Tables.{program}
use Rattle.program.proofs.Words.{accepts}
use Rattle.program.proofs.tables.Table.read.Goals as goal

pub returns-clause-words : goal.returns-clause-words
returns-clause-words c = accepts c.args.text.now (program c.args.self.now) (program c.parse.new.table) c.parse.result c.parse.ensures
