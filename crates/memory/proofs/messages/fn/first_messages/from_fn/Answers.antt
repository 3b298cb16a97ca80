use Rattle.std.proofs.Common.{arith}
use Rattle.memory.proofs.MessageTables.{row_first, row_none}
use Rattle.memory.proofs.messages.fn.first_messages.from_fn.Goals as goal

pub returns-then-variable-from : goal.returns-then-variable-from
returns-then-variable-from c = row_first _ c.args.variable c.nought.result c.nought.ensures (omega arith)

pub returns-else-variable-from : goal.returns-else-variable-from
returns-else-variable-from c = row_none _ c.args.variable (omega arith)
