-- A sitting's input: a question line, and then a table.
use Rattle.std.specs.Prelude.{ℕ, cond, List, length, take, drop, Some, None, Ok, Err, Option, Result}
use Rattle.program.specs.Program.{within}
use Rattle.runs.specs.declared.lines.Wish.{Wish}
use Rattle.runs.specs.Lines.{wish_of}
use Rattle.session.specs.declared.refusals.Refusal.{Refusal}
use Rattle.session.specs.declared.refusals.Refusal.TheVariants.{Input, QuestionLine}

abbrev pub asked_by : Option Wish → List ℕ → Result (Wish × List ℕ) Refusal
asked_by (Some w) text = Ok (w, text)
asked_by None text = Err QuestionLine

-- what it asks for, and the table's text; first its length is looked at, then the question line
abbrev pub asked_in : List ℕ → Result (Wish × List ℕ) Refusal
asked_in input = cond (within 29 4000 (length input)) (asked_by (wish_of (take 29 input)) (drop 29 input)) (Err Input)
