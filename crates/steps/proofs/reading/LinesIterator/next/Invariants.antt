-- Only empty lines were passed.
use Rattle.std.proofs.Common.{◌≡◌, length}
use Rattle.steps.specs.Reading.{left_of}
use Rattle.steps.proofs.reading.LinesIterator.next.Given as goal

abbrev pub invariant-loop-text : goal.invariant-loop-text
invariant-loop-text l = left_of l.initial.self ≡ left_of l.self

abbrev pub decreases-loop-text : goal.decreases-loop-text
decreases-loop-text l = length l.self.rest.now
