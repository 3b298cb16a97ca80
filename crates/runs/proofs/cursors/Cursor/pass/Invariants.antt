use Rattle.std.proofs.Common.{◌≡◌, ◌-◌, ◌∷◌}
use Rattle.program.specs.Tables.{program}
use Rattle.runs.specs.Asked.{root, system}
use Rattle.runs.specs.Cursors.{Sound}
use Rattle.runs.specs.Look.{ahead, look}
use Rattle.runs.specs.Paths.{path}
use Rattle.runs.specs.Runs.{rest}
use Rattle.runs.specs.Searches.{hits}
use Rattle.runs.proofs.cursors.Cursor.pass.Given as goal

abbrev pub invariant-loop-looked : goal.invariant-loop-looked
invariant-loop-looked g l =
    let m = g.M.Memory.machine in
    let t = program l.fn.table in
    let q = l.fn.question in
    let first = path l.fn.self.run in
    let here = path l.self.run in
    record {
      sound : Sound m t q g.M.Memory.config l.self;
      so_far : look (hits m t q) l.fn.effort (first ∷ rest (system m t) (root m t q) first)
          ≡ ahead l.looked (look (hits m t q) (l.fn.effort - l.looked) (here ∷ rest (system m t) (root m t q) here));
    }
