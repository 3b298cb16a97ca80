use Rattle.std.proofs.Common.{◌≡◌}
use Rattle.text.proofs.Filling.{filled}
use Rattle.text.proofs.write_line.Given as goal

-- the texts of the numbers so far, and the rest as it was
abbrev pub invariant-loop-i : goal.invariant-loop-i
invariant-loop-i l = l.out ≡ filled l.numbers l.i l.initial.out
