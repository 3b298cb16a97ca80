use Rattle.std.proofs.Common.{◌≡◌, ◌*◌, ◌≤◌}
use Rattle.program.specs.Tables.{program}
use Rattle.runs.specs.Searches.{Since}
use Rattle.searching.proofs.search.Given as goal

abbrev pub invariant-loop-work : goal.invariant-loop-work
invariant-loop-work g l = record {
  question : l.search.question ≡ l.fn.question;
  few : l.looked ≤ l._work * 1000000;
  since : Since g.M.Memory.machine (program l.table) l.search (l._work * 1000000) l.looked;
}
