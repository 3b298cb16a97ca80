-- After some units the loop stands at a run, with what comes after it still to look at (Looks); a turn finds it, ends the list or
-- goes on to the next.
use Rattle.std.proofs.Common.{◌≡◌, ◌∷◌, true, false, sym, ap, ◌∙◌}
use Rattle.program.specs.Tables.{program}
use Rattle.worlds.specs.Worlds.{world as stand}
use Rattle.runs.specs.Asked.{arrived, root, system}
use Rattle.runs.specs.Look.{look}
use Rattle.runs.specs.Paths.{path}
use Rattle.runs.specs.Runs.{rest}
use Rattle.runs.specs.Searches.{hits}
use Rattle.runs.proofs.Walks.{here_end}
use Rattle.runs.proofs.Looks.{pass_found, pass_none, pass_next}
use Rattle.runs.proofs.cursors.Cursor.pass.Goals as goal

pub returns-then-is_reached-clause-passed : goal.returns-then-is_reached-clause-passed
returns-then-is_reached-clause-passed g c =
    let m = g.M.Memory.machine in
    let t = program c.args.table.now in
    let q = c.args.question in
    let S = system m t in
    let d = root m t q in
    let first = path c.args.self.now.run in
    let at = c.loop-looked.self in
    let here = path at.run in
    let i = c.loop-looked.invariant in
    let hit : hits m t q here ≡ true = sym (ap (arrived q) (here_end S d (stand g.M.Memory.config at.world) at.room here i.sound.here)) ∙ sym c.is_reached.ensures ∙ c.if-is_reached.true in
    record {
      looked = pass_found (hits m t q) (look (hits m t q) c.args.effort (first ∷ rest S d first)) c.args.effort c.loop-looked.looked here (rest S d here) i.so_far c.loop-looked-test.true hit;
      over = λ e. cc;
    }

pub returns-then-not-advance-clause-passed : goal.returns-then-not-advance-clause-passed
returns-then-not-advance-clause-passed g c =
    let m = g.M.Memory.machine in
    let t = program c.args.table.now in
    let q = c.args.question in
    let S = system m t in
    let d = root m t q in
    let first = path c.args.self.now.run in
    let at = c.loop-looked.self in
    let here = path at.run in
    let i = c.loop-looked.invariant in
    let miss : hits m t q here ≡ false = sym (ap (arrived q) (here_end S d (stand g.M.Memory.config at.world) at.room here i.sound.here)) ∙ sym c.is_reached.ensures ∙ c.if-is_reached.false in
    let end = c.if-not-advance.ensures.next in
    record {
      looked = pass_none (hits m t q) (look (hits m t q) c.args.effort (first ∷ rest S d first)) c.args.effort c.loop-looked.looked here (rest S d here) i.so_far c.loop-looked-test.true miss end.0;
      over = λ e. end.1;
    }

pub loop-looked-preserved : goal.loop-looked-preserved
loop-looked-preserved g c =
    let m = g.M.Memory.machine in
    let t = program c.args.table.now in
    let q = c.args.question in
    let S = system m t in
    let d = root m t q in
    let first = path c.args.self.now.run in
    let at = c.loop-looked.self in
    let here = path at.run in
    let i = c.loop-looked.invariant in
    let miss : hits m t q here ≡ false = sym (ap (arrived q) (here_end S d (stand g.M.Memory.config at.world) at.room here i.sound.here)) ∙ sym c.is_reached.ensures ∙ c.if-is_reached.false in
    let next = path c.advance.new.self.run in
    record {
      sound = c.if-not-advance.ensures.sound;
      so_far = pass_next (hits m t q) (look (hits m t q) c.args.effort (first ∷ rest S d first)) c.args.effort c.loop-looked.looked here (rest S d here) i.so_far (next ∷ rest S d next) c.loop-looked-test.true miss c.if-not-advance.ensures.next;
    }
