use Rattle.std.proofs.Common.{◌≡◌, length}
use Rattle.program.specs.Tables.{program}
use Rattle.runs.specs.Asked.{system, root}
use Rattle.runs.specs.Cursors.{Sound}
use Rattle.runs.specs.Paths.{path}
use Rattle.runs.specs.Runs.{after, rest}
use Rattle.runs.proofs.cursors.Cursor.advance.Given as goal

abbrev pub invariant-loop-last : goal.invariant-loop-last
invariant-loop-last g l =
    let m = g.M.Memory.machine in
    let t = program l.fn.table in
    let d = root m t l.fn.question in
    record {
      sound : Sound m t l.fn.question g.M.Memory.config l.self;
      ahead : rest (system m t) d (path l.fn.self.run) ≡ after (system m t) d (path l.self.run);
    }

abbrev pub decreases-loop-last : goal.decreases-loop-last
decreases-loop-last g l = length (path l.self.run)
