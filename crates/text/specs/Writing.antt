-- Writing a line into a lent buffer.
use Rattle.std.specs.Prelude.{ℕ, cond, List, ◌++◌, length, drop, Ok, Err, Result, nat_le}
use Rattle.text.specs.declared.Unwritten.{Unwritten}
use Rattle.text.specs.declared.Unwritten.TheVariants.{Large, Short}
use Rattle.text.specs.Lines.{line_text, all_small}

-- a text at the front of a buffer
abbrev pub over : List ℕ → List ℕ → List ℕ
over text out = text ++ drop (length text) out

-- What is answered, and what the buffer holds then: the line at its front and the rest as it was; or a
-- refusal, first for a number that fits no field, then for a buffer that is too short, and the buffer as it was.
abbrev pub written : List ℕ → List ℕ → Result ℕ Unwritten × List ℕ
written numbers out =
    cond (all_small numbers)
    (cond (nat_le (length (line_text numbers)) (length out)) (Ok (length (line_text numbers)), over (line_text numbers) out) (Err Short, out))
    (Err Large, out)
