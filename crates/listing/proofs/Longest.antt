-- A text that is longer than any table's is refused for its length, so no more of it has to be looked at.
use Rattle.std.proofs.Common.{◌≡◌, ℕ, inl, inr, List, length, take, sym, ap, ◌∙◌, arith}
use Rattle.std.proofs.lemmas.Bool.{cases_lt}
use Rattle.std.proofs.lemmas.List.{take_all, length-take-le}
use Rattle.program.specs.Reading.{read}
use Rattle.program.proofs.TooLong.{long_table}

-- the outcome of the first bytes is that of all
pub first_read : (given : List ℕ) → read (take 3226 given) ≡ read given
first_read given = elim (cases_lt 3226 (length given)) [
  | inl h ↦ long_table (take 3226 given) (omega (arith, length-take-le 3226 given (omega arith))) ∙ sym (long_table given (omega arith))
  | inr h ↦ ap read (take_all 3226 given h)
]
