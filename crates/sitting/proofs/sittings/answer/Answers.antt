use Rattle.std.proofs.Common.{◌≡◌, ℕ, Ok, Err, Result, ap, ◌∙◌, rules}
use Rattle.session.specs.declared.refusals.Refusal.{Refusal}
use Rattle.session.specs.Contents.{Content, content}
use Rattle.session.specs.Outcomes.{reported_in}
use Rattle.session.specs.Series.{booked}
use Rattle.session.proofs.Shows.{report_value}
use Rattle.sitting.specs.Outputs.{calls, put_calls}
use Rattle.sitting.proofs.Endings.{answers_last, load_answers, load_holds, not_loaded, not_opened, put_holds}
use Rattle.sitting.proofs.sittings.answer.Goals as goal

pub returns-in_err-load-clause-outcome : goal.returns-in_err-load-clause-outcome
returns-in_err-load-clause-outcome g c =
    let text = c.args.text.now in
    let why = c.in_err-load.field-0.0 in
    let refused : c.from_residual.result ≡ Err why = search rules in
    ap (λ (r : Result ℕ Refusal). (r, c.args.out.now)) refused
    ∙ not_loaded g.M.Memory.machine c.args.wish text c.args.out.now why
    (load_answers (content c.args.session.now) (content c.load.new.self) text (Err why) c.in_err-load.ensures.outcome)

pub returns-in_err-put-clause-outcome : goal.returns-in_err-put-clause-outcome
returns-in_err-put-clause-outcome g c =
    let m = g.M.Memory.machine in
    let w = c.args.wish in
    let text = c.args.text.now in
    let load = c.in_ok-load.ensures.outcome in
    let holds = load_holds m w text (content c.args.session.now) (content c.load.new.self) load in
    let why = c.in_err-put.field-0.0 in
    let put = put_holds m w text (content c.load.new.self) (content c.put.new.self) (Err why) holds c.in_err-put.ensures.outcome in
    let refused : c.from_residual-in_err-put.result ≡ Err why = search rules in
    ap (λ (r : Result ℕ Refusal). (r, c.args.out.now)) refused
    ∙ not_opened m w text c.args.out.now why (load_answers (content c.args.session.now) (content c.load.new.self) text (Ok tt) load) put.0

pub returns-clause-outcome : goal.returns-clause-outcome
returns-clause-outcome g c =
    let m = g.M.Memory.machine in
    let w = c.args.wish in
    let text = c.args.text.now in
    let load = c.in_ok-load.ensures.outcome in
    let holds = load_holds m w text (content c.args.session.now) (content c.load.new.self) load in
    let put = put_holds m w text (content c.load.new.self) (content c.put.new.self) (Ok tt) holds c.in_ok-put.ensures.outcome in
    answers_last m w text c.args.out.now (c.report.result, c.report.new.out) (load_answers (content c.args.session.now) (content c.load.new.self) text (Ok tt) load) put.0
    (c.report.ensures.outcome ∙ ap (λ (x : Content). reported_in m x c.args.out.now) (c.search.ensures (booked (put_calls w text)) put.1)
    ∙ report_value m c.args.out.now (booked (calls w text)))
