use Rattle.std.proofs.Common.{refl}
use Rattle.program.specs.Tables.{program}
use Rattle.runs.specs.Asked.{root, system}
use Rattle.runs.proofs.TheLists.{the_list, total_order}
use Rattle.runs.proofs.Works.{begun, narrow}
use Rattle.runs.proofs.cursors.Cursor.begin.Goals as goal

pub returns-clause-since : goal.returns-clause-since
returns-clause-since g c = begun g.M.Memory.machine (program c.args.table.now) _ refl c.empty.ensures

pub returns-clause-list : goal.returns-clause-list
returns-clause-list g c =
    let m = g.M.Memory.machine in
    let t = program c.args.table.now in
    let q = c.args.question in
    let widest = g.M.Memory.WIDEST in
    the_list (system m t) widest (narrow m t widest g.met.M.Memory.bounded) (root m t q).world q.steps q.switches

pub returns-clause-order : goal.returns-clause-order
returns-clause-order g c = total_order
