-- No more lines are performed than the input has bytes.
use Rattle.std.proofs.Common.{length, ap, arith}
use Rattle.steps.proofs.Turns.{few_left}
use Rattle.steps.proofs.performing.perform.Goals as goal

pub with-tally-requires : goal.with-tally-requires
with-tally-requires g c =
    let lines = c.args.lines in
    (omega (arith, few_left lines.passed lines.rest.now, ap length c.in-Some.ensures.steps), c.loop-line.invariant.fewer)
