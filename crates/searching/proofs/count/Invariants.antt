use Rattle.std.proofs.Common.{◌≡◌, ◌*◌}
use Rattle.program.specs.Tables.{program}
use Rattle.runs.specs.Searches.{shown}
use Rattle.searching.specs.Tallies.{tallied}
use Rattle.searching.proofs.count.Given as goal

abbrev pub invariant-loop-turn : goal.invariant-loop-turn
invariant-loop-turn g l = l.tally ≡ tallied (shown g.M.Memory.machine (program l.table) l.question (1000 * 1000000)) l._turn
