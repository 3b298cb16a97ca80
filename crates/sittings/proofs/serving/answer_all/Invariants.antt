-- What was written, and what is printed of the rest, is all; and there are turns for as many cases as the rest can have.
use Rattle.std.proofs.Common.{◌≤◌, ◌-◌, ◌+◌, length}
use Rattle.sittings.specs.Batches.{batch_text}
use Rattle.sittings.proofs.Turns.{Stands}
use Rattle.sittings.proofs.serving.answer_all.Given as goal

abbrev pub invariant-loop-passed : goal.invariant-loop-passed
invariant-loop-passed g l = record {
  stands : Stands (g.W.Write.contents l.initial.output) (g.W.Write.contents l.output) (l.passed-end - l.passed) (l.passed + 1) l.rest
      (batch_text l.batch);
  few : length l.rest ≤ l.passed-end - l.passed;
}
