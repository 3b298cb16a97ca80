use Rattle.std.proofs.Common.{◌≡◌, ◌∷◌, ◌++◌, [], ◌∙◌, ap, sym, arith}
use Rattle.program.specs.Tables.{program}
use Rattle.worlds.specs.Worlds.{world as stand}
use Rattle.runs.specs.Asked.{system, root}
use Rattle.runs.specs.Paths.{path}
use Rattle.runs.proofs.Walks.{back_offered, back_may, longer}
use Rattle.runs.proofs.cursors.Cursor.back.Goals as goal

pub again-requires : goal.again-requires
again-requires g c =
    let m = g.M.Memory.machine in
    let t = program c.args.table.now in
    back_offered (system m t) (root m t c.args.question) (path c.pop.new.self) (path c.args.self.now.run) c.in_ok-last.last c.requires.sound.here.offered c.in_ok-last.ensures.some

pub returns : goal.returns
returns g c =
    let m = g.M.Memory.machine in
    let t = program c.args.table.now in
    let old = path c.args.self.now.run in
    let new = c.again.new.self in
    let last = c.in_ok-last.last in
    let was : old ≡ path new.run ++ (last ∷ []) = c.in_ok-last.ensures.some ∙ ap (λ r. path r ++ (last ∷ [])) (sym c.again.ensures.run) in
    let long = longer old (path new.run) last was in
    record {
      sound = record { within = omega arith; here = c.again.ensures.here };
      was = was;
      offered = back_may (system m t) (root m t c.args.question) (stand g.M.Memory.config new.world) new.room (path new.run) old last c.requires.sound.here.offered was c.again.ensures.here;
    }
