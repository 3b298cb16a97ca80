use Rattle.std.proofs.Common.{◌≡◌, length, take}
use Rattle.program.specs.Program.{Counted}
use Rattle.program.specs.Reading.{named}
use Rattle.program.proofs.reading.Lines.tally.Given as goal

abbrev pub invariant-loop-line : goal.invariant-loop-line
invariant-loop-line l = record { five : length l.labels ≡ 5; counted : Counted l.labels (named (take l.line-index l.line-items)) }
