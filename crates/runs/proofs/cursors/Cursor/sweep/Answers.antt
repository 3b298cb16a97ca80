use Rattle.std.proofs.Common.{◌+◌, ap, ◌∙◌, arith}
use Rattle.program.specs.declared.rows.Counts.{Counts}
use Rattle.program.specs.Tables.{program}
use Rattle.runs.specs.Asked.{system, root}
use Rattle.runs.specs.Paths.{path}
use Rattle.runs.proofs.Walks.{sweep_found, sweep_again}
use Rattle.runs.proofs.cursors.Cursor.sweep.Goals as goal

pub returns-then-choose-clause-goes : goal.returns-then-choose-clause-goes
returns-then-choose-clause-goes g c =
    let m = g.M.Memory.machine in
    let t = program c.args.table.now in
    let i = c.loop-below.invariant in
    let last = ap (λ (x : Counts). x.processes) c.counts-below-end.ensures in
    sweep_found (system m t) (root m t c.args.question) (path c.args.self.now.run) (path c.loop-below.self.run) (path c.choose.new.self.run) (c.args.above + 1) (c.loop-below.below + 1) i.stays i.skipped (omega (arith, last)) c.if-choose.ensures.goes

pub loop-below-preserved : goal.loop-below-preserved
loop-below-preserved g c =
    let m = g.M.Memory.machine in
    let t = program c.args.table.now in
    let i = c.loop-below.invariant in
    let last = ap (λ (x : Counts). x.processes) c.counts-below-end.ensures in
    let goes = c.if-choose.ensures.goes in
    record {
      sound = c.if-choose.ensures.sound;
      stays = goes.1 ∙ i.stays;
      skipped = sweep_again (system m t) (root m t c.args.question) (path c.args.self.now.run) (path c.loop-below.self.run) (c.args.above + 1) (c.loop-below.below + 1) i.stays i.skipped (omega (arith, last)) goes.0;
    }
