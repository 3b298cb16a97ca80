use Rattle.std.proofs.Common.{rules, ◌∙◌, ◌+◌, ap, take, nat_lt}
use Rattle.std.specs.List.{list_any, zip}
use Rattle.memory.proofs.MessageTables.{changes_zip}
use Rattle.memory.proofs.views.View.is_changed_by.Goals as goal

pub returns : goal.returns
returns c =
    c.is_below.ensures
    ∙ (ap (λ n. list_any (λ p. nat_lt p.0 p.1) (zip (take (n + 1) c.args.self.times) c.args.other.times)) c.from.ensures
    ∙ changes_zip (c.args.shape.variables + 1) c.args.self.times c.args.other.times (search rules) (search rules))
