use Rattle.std.proofs.Common.{Some, Ok, Option, Result, sym, ap, ap₂, ◌∙◌}
use Rattle.program.specs.Tables.{program}
use Rattle.runs.specs.declared.questions.Question.{Question}
use Rattle.runs.specs.declared.questions.Unasked.{Unasked}
use Rattle.runs.proofs.Asked.{asked_by}
use Rattle.session.specs.Contents.{Inquiry, content}
use Rattle.session.specs.Outcomes.{put_with}
use Rattle.session.proofs.Values.{begun_is}
use Rattle.session.proofs.sessions.Session.do_put.Goals as goal

pub returns : goal.returns
returns g c =
    let t = program c.args.self.now.table in
    let q = c.in_ok-question.question in
    ap (λ (i : Inquiry). (Ok tt, record { table = t; inquiry = Some i })) (begun_is c.begin.result q c.begin.ensures.question c.begin.ensures.undecided c.begin.ensures.run)
    ∙ ap₂ (λ (r : Result (Unit {0}) Unasked) (o : Option Question). put_with (content c.args.self.now) r o) c.in_ok-question.ensures.outcome
    (sym (asked_by t c.args.steps c.args.switches c.args.targets q c.in_ok-question.ensures.asks))
