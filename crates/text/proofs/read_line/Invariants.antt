use Rattle.std.proofs.Common.{◌≡◌, length}
use Rattle.text.proofs.Reading.{both_at, numbers_in}
use Rattle.text.proofs.read_line.Given as goal

-- the numbers so far, with what the other fields read as, are those of the fields
abbrev pub invariant-loop-i : goal.invariant-loop-i
invariant-loop-i g l = record { read : both_at l.fields l.i l.numbers ≡ numbers_in l.fields; long : length l.numbers ≡ g.row.N }
