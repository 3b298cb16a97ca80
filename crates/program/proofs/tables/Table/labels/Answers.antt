use Rattle.std.proofs.Common.{ap, length, ◌∙◌}
use Rattle.program.proofs.Starts.{part_long}
use Rattle.program.proofs.tables.Table.labels.Goals as goal

pub returns : goal.returns
returns c = ap length c.rows_of.ensures ∙ part_long c.args.self.now.rows.items c.args.process
