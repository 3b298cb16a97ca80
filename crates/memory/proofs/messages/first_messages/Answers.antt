use Rattle.std.proofs.Common.{rules, []}
use Rattle.memory.proofs.MessageTables.{rows_first}
use Rattle.memory.proofs.messages.first_messages.Goals as goal

pub returns : goal.returns
returns c =
    rows_first c.args.shape.variables c.from_fn.result (search rules) c.from_fn.ensures.items.long
    (λ x h. let k = (c.from_fn.ensures.items.at x [] h).2.met in search rules)
