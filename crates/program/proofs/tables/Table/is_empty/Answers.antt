use Rattle.std.proofs.Common.{sym, ◌∙◌}
use Rattle.program.specs.Tables.{program}
use Rattle.program.proofs.Blocks.{blocks}
use Rattle.program.proofs.Starts.{kept_proper}
use Rattle.program.proofs.tables.Table.is_empty.Goals as goal

pub returns-clause-words : goal.returns-clause-words
returns-clause-words c e =
    let t = c.args.self.now in
    let some = sym c.is_empty.ensures ∙ e in
    blocks (program t) (kept_proper (program t) t.keeps some)
