use Rattle.std.proofs.Common.{◌≡◌, ◌+◌}
use Rattle.program.specs.Tables.{program}
use Rattle.program.proofs.Pages.{page}
use Rattle.program.proofs.tables.Table.write.Given as goal

abbrev pub invariant-loop-i : goal.invariant-loop-i
invariant-loop-i l = l.out ≡ page (program l.self) (l.i + 1) l.fn.out
