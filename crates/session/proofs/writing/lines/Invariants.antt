use Rattle.std.proofs.Common.{◌≡◌, ◌+◌, ◌++◌, length, drop}
use Rattle.std.specs.List.{AllByRecursion}
use Rattle.program.specs.Program.{Six}
use Rattle.session.specs.Reports.{numbered, report_lines}
use Rattle.session.proofs.writing.lines.Given as goal

abbrev pub invariant-loop-i : goal.invariant-loop-i
invariant-loop-i l = record {
  count : length l.lines.items ≡ l.i + 1;
  six : AllByRecursion Six l.lines.items;
  so_far : l.lines.items ++ numbered (l.i + 1) (drop l.i l.records) ≡ report_lines l.fn.verdict l.fn.records;
}
