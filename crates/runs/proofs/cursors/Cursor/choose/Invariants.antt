use Rattle.std.proofs.Common.{◌≡◌}
use Rattle.program.specs.Tables.{program}
use Rattle.runs.specs.Asked.{system}
use Rattle.runs.specs.Cursors.{spot, Sound}
use Rattle.runs.specs.Paths.{path}
use Rattle.runs.specs.Runs.{choices}
use Rattle.runs.proofs.cursors.Cursor.choose.Given as goal

abbrev pub invariant-loop-choice : goal.invariant-loop-choice
invariant-loop-choice g l =
    let m = g.M.Memory.machine in
    let t = program l.fn.table in
    let x = spot m t l.fn.question (path l.fn.self.run) in
    record {
      sound : Sound m t l.fn.question g.M.Memory.config l.self;
      stays : path l.self.run ≡ path l.fn.self.run;
      skipped : choices (system m t) x l.fn.process l.fn.from ≡ choices (system m t) x l.fn.process l.choice;
    }
