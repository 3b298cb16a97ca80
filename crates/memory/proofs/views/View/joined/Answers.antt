use Rattle.std.proofs.Common.{rules}
use Rattle.memory.proofs.MessageTables.{joined_view}
use Rattle.memory.proofs.views.View.joined.Goals as goal

pub returns : goal.returns
returns c =
    joined_view c.from_fn.result c.args.self.times c.args.other.times c.from_fn.ensures.items.long (search rules) (search rules)
    (λ i h. let k = c.from_fn.ensures.items.at i 0 h in search rules)
