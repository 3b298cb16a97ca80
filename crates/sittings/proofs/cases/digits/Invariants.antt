-- The digits that are left give with the number so far what all of them give.
use Rattle.std.proofs.Common.{◌≡◌, ◌^◌, ◌<◌, drop}
use Rattle.sittings.specs.Numerals.{digits_from}
use Rattle.sittings.proofs.cases.digits.Given as goal

abbrev pub invariant-loop-digit : goal.invariant-loop-digit
invariant-loop-digit l = (digits_from l.number (drop l.digit-index l.word) ≡ digits_from 0 l.word) × (l.number < 10 ^ l.digit-index)
