use Rattle.std.proofs.Common.{◌≡◌, ℕ, Ok, Result, replicate, take, sym, ap, subst, ◌∙◌, arith}
use Rattle.std.proofs.lemmas.List.{length-replicate}
use Rattle.intake.proofs.Serving.{served}
use Rattle.session.specs.declared.refusals.Refusal.{Refusal}
use Rattle.sitting.specs.Outputs.{sat_in}
use Rattle.sitting.specs.Sits.{SittingSays, TooShort}
use Rattle.yuktrad.specs.Printing.{printed, written}
use Rattle.yuktrad.proofs.Most.{printed_alike}
use Rattle.yuktrad.proofs.serving.serve.Goals as goal

-- a buffer of 625 bytes is not refused
pub unreachable-requires : goal.unreachable-requires
unreachable-requires g c =
    let out = replicate 625 0 in
    let refused : TooShort c.in-Err.field-0 out c.sitting.new.out =
    subst (λ (r : Result ℕ Refusal). SittingSays c.as_slice.result.now out r c.sitting.new.out) c.in-Err.is c.sitting.ensures.words in
    absurd (omega (arith, refused.short, length-replicate {A = ℕ} 625 0))

pub returns-clause-serves : goal.returns-clause-serves
returns-clause-serves g c =
    let out = c.sitting.new.out in
    let n = c.in-Ok.written in
    let sat : (Ok n, out) ≡ sat_in c.in_ok-given.given.items (replicate 625 0) =
    ap (λ r. (r, out)) (sym c.in-Ok.is) ∙ c.sitting.ensures.outcome
    ∙ ap (λ xs. sat_in xs (replicate 625 0)) c.as_slice.ensures.value in
    served (take 4001) (λ given t. t ≡ printed given) (λ given t h. h ∙ printed_alike given) _ _ _ c.write_text.result c.in_ok-given.given.items
    (take n out) c.in_ok-given.ensures.all (ap written sat) c.write_text.ensures
