use Rattle.std.proofs.Common.{◌≡◌, ◌+◌, length, get_or, drop}
use Rattle.program.specs.Reading.{rows_read}
use Rattle.program.proofs.Fronts.{front}
use Rattle.program.proofs.reading.Frame.rows.Given as goal

abbrev pub invariant-loop-i : goal.invariant-loop-i
invariant-loop-i l = record {
  long : length l.rows.items ≡ l.i;
  read :
      front l.rows.items (rows_read l.self.counts (λ q. get_or l.self.labels q 0) l.above.process l.above.label (l.i + 2) (drop l.i l.line-items)) ≡ rows_read l.self.counts (λ q. get_or l.self.labels q 0) 0 0 2 l.line-items;
}
