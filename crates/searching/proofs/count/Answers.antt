use Rattle.std.proofs.Common.{◌∙◌, ap, arith}
use Rattle.program.specs.Tables.{program}
use Rattle.runs.specs.Searches.{shown}
use Rattle.searching.specs.Tallies.{tallied}
use Rattle.searching.proofs.Tallies.{fits, one_more}
use Rattle.searching.proofs.count.Goals as goal

pub overflow_add-tally : goal.overflow_add-tally
overflow_add-tally g c =
    let room =
    fits g.M.Memory.machine (program c.args.table.now) c.args.question c.loop-turn._turn c.loop-turn.tally c.search-once.result
    c.loop-turn.invariant c.search-once.ensures (omega (arith, c.loop-turn-test.true, c.ranges.times.fits))
    in
    omega (arith, room)

pub loop-turn-preserved : goal.loop-turn-preserved
loop-turn-preserved g c =
    one_more (shown g.M.Memory.machine (program c.args.table.now) c.args.question 1000000000) c.loop-turn._turn c.loop-turn.tally c.search-once.result
    c.loop-turn.invariant c.search-once.ensures

pub returns : goal.returns
returns g c =
    c.loop-turn.invariant
    ∙ ap (tallied (shown g.M.Memory.machine (program c.args.table.now) c.args.question 1000000000)) (omega (arith, c.loop-turn-test.false, c.loop-turn.auto._turn-end))
