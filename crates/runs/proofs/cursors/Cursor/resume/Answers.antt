use Rattle.program.specs.Tables.{program}
use Rattle.std.proofs.Common.{◌+◌}
use Rattle.runs.specs.Asked.{system, root}
use Rattle.runs.specs.Paths.{path}
use Rattle.runs.proofs.Walks.{resume}
use Rattle.runs.proofs.cursors.Cursor.resume.Goals as goal

pub returns-else-choose-clause-goes : goal.returns-else-choose-clause-goes
returns-else-choose-clause-goes g c =
    let m = g.M.Memory.machine in
    let t = program c.args.table.now in
    let goes = c.if-choose.ensures.goes in
    resume (system m t) (root m t c.args.question) (path c.args.self.now.run) (path c.choose.new.self.run) (path c.sweep.new.self.run) c.args.last.process (c.args.last.choice + 1) c.sweep.result goes.1 goes.0 c.sweep.ensures.goes
