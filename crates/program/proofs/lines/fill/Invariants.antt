use Rattle.std.proofs.Common.{◌≡◌, ◌+◌, length, drop}
use Rattle.program.specs.declared.lines.Unread.TheVariants.{Field}
use Rattle.program.specs.Reading.{numbers_or}
use Rattle.program.proofs.Fronts.{front}
use Rattle.program.proofs.lines.fill.Given as goal

abbrev pub invariant-loop-i : goal.invariant-loop-i
invariant-loop-i g l = record {
  long : length l.all.items ≡ l.i;
  read : front l.all.items (numbers_or Field (l.i + 1) (drop l.i l.line-items)) ≡ numbers_or Field 1 l.line-items;
}
