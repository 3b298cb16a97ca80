use Rattle.std.proofs.Common.{◌≡◌, ◌+◌}
use Rattle.program.specs.Tables.{program}
use Rattle.runs.specs.Asked.{system}
use Rattle.runs.specs.Cursors.{spot, Sound}
use Rattle.runs.specs.Paths.{path}
use Rattle.runs.specs.Runs.{processes}
use Rattle.runs.proofs.cursors.Cursor.sweep.Given as goal

abbrev pub invariant-loop-below : goal.invariant-loop-below
invariant-loop-below g l =
    let m = g.M.Memory.machine in
    let t = program l.fn.table in
    let x = spot m t l.fn.question (path l.fn.self.run) in
    record {
      sound : Sound m t l.fn.question g.M.Memory.config l.self;
      stays : path l.self.run ≡ path l.fn.self.run;
      skipped : processes (system m t) x (l.fn.above + 1) ≡ processes (system m t) x (l.below + 1);
    }
