-- The digits that are left give with the number so far what all of them give.
use Rattle.std.proofs.Common.{◌≡◌, ◌^◌, ◌<◌, drop}
use Rattle.steps.specs.Numbers.{digits_from}
use Rattle.steps.proofs.numbers.digits.Given as goal

abbrev pub invariant-loop-b : goal.invariant-loop-b
invariant-loop-b l = (digits_from l.number (drop l.b-index l.text) ≡ digits_from 0 l.text) × (l.number < 10 ^ l.b-index)
