-- Numbers as the line of a case has them: 1 to 9 decimal digits. Zeros may stand in front.
use Rattle.std.specs.Prelude.{ℕ, ◌+◌, ◌-◌, ◌*◌, cond, List, [], ◌∷◌, length, Some, None, Option}
use Rattle.text.specs.Lines.{is_digit}
use Rattle.program.specs.Program.{within}

-- the number n, and then these digits; none where a byte is no digit
abbrev pub digits_from : ℕ → List ℕ → Option ℕ
digits_from n [] = Some n
digits_from n (d ∷ ds) = cond (is_digit d) (digits_from (n * 10 + (d - 48)) ds) None

-- the number that a word writes, if it writes one
abbrev pub number_of : List ℕ → Option ℕ
number_of word = cond (within 1 9 (length word)) (digits_from 0 word) None
