use Rattle.std.proofs.Common.{◌<◌, ◌≤◌, Bool, length, refl, sym, ap, subst, arith}
use Rattle.std.proofs.lemmas.Bool.{le-ltb}
use Rattle.program.specs.Tables.{program}
use Rattle.runs.specs.Asked.{system, root}
use Rattle.runs.specs.Cursors.{Goes}
use Rattle.runs.specs.Paths.{path}
use Rattle.runs.specs.Runs.{below}
use Rattle.runs.proofs.Walks.{descend, descend_none}
use Rattle.runs.proofs.cursors.Cursor.descend.Goals as goal

pub returns-then-moves-from-clause-goes : goal.returns-then-moves-from-clause-goes
returns-then-moves-from-clause-goes g c =
    let m = g.M.Memory.machine in
    let t = program c.args.table.now in
    let run = c.args.self.now.run in
    let long = ap length c.moves.ensures in
    let short : length (path run) < c.args.question.steps = omega (arith, long) in
    descend (system m t) (root m t c.args.question) (path run) (path c.sweep.new.self.run) c.sweep.result short c.sweep.ensures.goes

pub returns-else-moves-from-clause-goes : goal.returns-else-moves-from-clause-goes
returns-else-moves-from-clause-goes g c =
    let m = g.M.Memory.machine in
    let t = program c.args.table.now in
    let q = c.args.question in
    let run = c.args.self.now.run in
    let long = ap length c.moves.ensures in
    let full : q.steps ≤ length (path run) = omega (arith, long) in
    subst (λ (b : Bool). Goes m t q (λ S x. below S x) (λ S x. below S x) run run b)
    (sym (le-ltb (length c.moves.result.now) c.from.result c.if-moves-from.false)) (descend_none (system m t) (root m t q) (path run) full, refl)
