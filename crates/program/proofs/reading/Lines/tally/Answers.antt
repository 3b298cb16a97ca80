use Rattle.std.proofs.Common.{[], arith}
use Rattle.std.proofs.lemmas.List.{length-set}
use Rattle.program.proofs.Tallies.{counted_more, counted_else}
use Rattle.program.proofs.reading.Lines.tally.Goals as goal
use Rattle.program.proofs.reading.Lines.tally.Goals.{then-process-lt5, else-process-lt5}

pub loop-line-preserved : goal.loop-line-preserved
loop-line-preserved c =
    let lines = c.below-line-items.result.now in
    let i = c.loop-line.line-index in
    let now = c.loop-line.invariant in
    elim c.if-process-lt5.branch [
      | then-process-lt5 w ↦ rw w.labels-is (record { five = simp length-set now.five; counted = counted_more c.loop-line.labels lines i c.loop-line-test.true [] now.counted c.from-process.result c.from-process.ensures w.if-process-lt5.true now.five })
      | else-process-lt5 w ↦ rw w.labels-is (record { five = now.five; counted = counted_else c.loop-line.labels lines i c.loop-line-test.true [] now.counted (omega (arith, w.if-process-lt5.false, c.from-process.ensures)) })
    ]
