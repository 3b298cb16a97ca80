use Rattle.program.specs.Tables.{program}
use Rattle.runs.proofs.Works.{further}
use Rattle.runs.proofs.cursors.Cursor.work.Goals as goal

pub returns-clause-told : goal.returns-clause-told
returns-clause-told g c E U since =
    further g.M.Memory.machine (program c.args.table.now) c.args.search.now c.take_up.new.search c.args.effort E U c.take_up.result since c.take_up.ensures.works
