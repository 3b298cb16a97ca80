use Rattle.std.proofs.Common.{◌≡◌, List, ℕ, Some, None, Ok, Err, Result, string_bytes, sym, ap, ◌∙◌, subst}
use Rattle.program.specs.Program.{Program}
use Rattle.program.specs.Reading.{read}
use Rattle.program.specs.Tables.{program}
use Rattle.program.proofs.Taken.{read_ok, read_err}
use Rattle.runs.specs.Asked.{judged}
use Rattle.runs.specs.Lines.{wish_of}
use Rattle.player.specs.Answers.{Asked}
use Rattle.player.specs.Parts.{question_part, table_part}
use Rattle.player.proofs.Asks.{if_made, unread, untabled, asked}
use Rattle.player.proofs.answering.answer.Goals as goal

pub returns-in_default : goal.returns-in_default
returns-in_default c =
    let e : None ≡ wish_of (question_part c.args.input.now) = c.in_default.ensures.value ∙ ap wish_of c.cut-parts.ensures.question in
    if_made _ _ c.format.result (λ s. unread c.args.input.now (string_bytes s) e) c.format.ensures.ok

pub returns-in-Ok : goal.returns-in-Ok
returns-in-Ok c =
    let w = c.in-Some.wish in
    let t = program c.read.new.self in
    let wished : Some w ≡ wish_of (question_part c.args.input.now) = c.in-Some.ensures.value ∙ ap wish_of c.cut-parts.ensures.question in
    let e : Ok t ≡ read (table_part c.args.input.now) = sym (read_ok _ _ _ c.in-Ok.ensures.value) ∙ ap read c.cut-parts.ensures.table in
    if_made _ _ c.ask.result
    (λ s h. asked c.args.input.now (string_bytes s) w wished t e (subst (λ (run : List ℕ). Asked w t run (string_bytes s) (judged t w.steps w.switches w.targets)) c.cut-parts.ensures.run h))
    c.ask.ensures

pub returns-in-Err : goal.returns-in-Err
returns-in-Err c =
    let w = c.in-Some.wish in
    let wished : Some w ≡ wish_of (question_part c.args.input.now) = c.in-Some.ensures.value ∙ ap wish_of c.cut-parts.ensures.question in
    let e : ◌≡◌ {A = Result Program _} (Err c.in-Err.refusal) (read (table_part c.args.input.now)) = sym (read_err _ _ _ _ c.in-Err.ensures.value) ∙ ap read c.cut-parts.ensures.table in
    if_made _ _ c.tell_table.result (λ s. untabled c.args.input.now (string_bytes s) w wished c.in-Err.refusal e) c.tell_table.ensures
