use Rattle.std.proofs.Common.{◌≡◌, ℕ, List, length, Some, None, Option, ap, ◌∙◌, arith}
use Rattle.std.proofs.lemmas.Bool.{eq-eqb}
use Rattle.text.specs.Lines.{line_numbers}
use Rattle.runs.specs.Lines.{filled, wish_by, wish_of}
use Rattle.runs.proofs.QuestionLines.{says, other_length}
use Rattle.runs.proofs.lines.read_question.Goals as goal

-- a line of the right length is read by its numbers
wishes : (line : List ℕ) (read : Option (List ℕ)) → length line ≡ 29 → read ≡ line_numbers 7 (filled line) → wish_by read ≡ wish_of line
wishes line read long e = rw (eq-eqb (length line) 29 long) (ap wish_by e)

pub returns-then-line-ne29-clause-words : goal.returns-then-line-ne29-clause-words
returns-then-line-ne29-clause-words c = other_length c.args.line.now c.if-line-ne29.true

pub returns-in_err-read_line-clause-value : goal.returns-in_err-read_line-clause-value
returns-in_err-read_line-clause-value c =
    let long : length c.args.line.now ≡ 29 = omega arith in
    let read : None ≡ line_numbers 7 (filled c.args.line.now) = c.in_err-read_line.ensures.value ∙ ap (line_numbers 7) (c.filled.ensures ∙ ap filled c.copy_from_slice.ensures.after) in
    c.from_residual.ensures ∙ wishes c.args.line.now None long read

pub returns-in_err-read_line-clause-words : goal.returns-in_err-read_line-clause-words
returns-in_err-read_line-clause-words c = says c.args.line.now _ (returns-in_err-read_line-clause-value c)

pub returns-clause-value : goal.returns-clause-value
returns-clause-value c =
    let long : length c.args.line.now ≡ 29 = omega arith in
    let read : Some c.in_ok-read_line.field-0 ≡ line_numbers 7 (filled c.args.line.now) = c.in_ok-read_line.ensures.value ∙ ap (line_numbers 7) (c.filled.ensures ∙ ap filled c.copy_from_slice.ensures.after) in
    c.wish_from.ensures ∙ wishes c.args.line.now (Some c.in_ok-read_line.field-0) long read

pub returns-clause-words : goal.returns-clause-words
returns-clause-words c = says c.args.line.now _ (returns-clause-value c)
