use Rattle.std.proofs.Common.{sym, ◌∙◌, arith}
use Rattle.program.specs.Tables.{program}
use Rattle.worlds.specs.Worlds.{world as stand}
use Rattle.runs.specs.Asked.{system, root}
use Rattle.runs.specs.Paths.{path}
use Rattle.runs.proofs.Walks.{same_offer, choose_again, choose_none}
use Rattle.runs.proofs.cursors.Cursor.choose.Goals as goal

pub enter-requires-clause-offered : goal.enter-requires-clause-offered
enter-requires-clause-offered g c =
    let m = g.M.Memory.machine in
    let t = program c.args.table.now in
    let old = c.args.self.now in
    let here = c.loop-choice.self in
    let same = same_offer (system m t) (root m t c.args.question) (stand g.M.Memory.config old.world) (stand g.M.Memory.config here.world) old.room here.room (path old.run) (path here.run) c.args.process c.requires.sound.here c.loop-choice.invariant.sound.here (sym c.loop-choice.invariant.stays) in
    omega (arith, same)

pub loop-choice-preserved : goal.loop-choice-preserved
loop-choice-preserved g c =
    let m = g.M.Memory.machine in
    let t = program c.args.table.now in
    let old = c.args.self.now in
    let i = c.loop-choice.invariant in
    let goes = c.if-enter.ensures.goes in
    record {
      sound = c.if-enter.ensures.sound;
      stays = goes.1 ∙ i.stays;
      skipped = choose_again (system m t) (root m t c.args.question) (stand g.M.Memory.config old.world) old.room (path old.run) (path c.loop-choice.self.run) c.args.process c.args.from c.loop-choice.choice c.requires.sound.here i.stays i.skipped (omega arith) goes.0;
    }

pub returns-clause-goes : goal.returns-clause-goes
returns-clause-goes g c =
    let m = g.M.Memory.machine in
    let t = program c.args.table.now in
    let old = c.args.self.now in
    let i = c.loop-choice.invariant in
    (choose_none (system m t) (root m t c.args.question) (stand g.M.Memory.config old.world) old.room (path old.run) c.args.process c.args.from c.loop-choice.choice c.requires.sound.here i.skipped (omega arith), i.stays)
