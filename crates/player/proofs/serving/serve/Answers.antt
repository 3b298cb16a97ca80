use Rattle.std.proofs.Common.{◌≡◌, ℕ, List, take, string_bytes, sym, subst}
use Rattle.intake.proofs.Serving.{served}
use Rattle.player.specs.Answers.{Answered}
use Rattle.player.proofs.Most.{answered_all}
use Rattle.player.proofs.serving.serve.Goals as goal

pub returns-clause-serves : goal.returns-clause-serves
returns-clause-serves g c =
    let input : c.as_slice.result.now ≡ c.in_ok-given.given.items = c.as_slice.ensures.value in
    let answered : Answered c.in_ok-given.given.items c.as_bytes.result.now =
    subst (λ (text : List ℕ). Answered c.in_ok-given.given.items text) (sym c.as_bytes.ensures.value)
    (subst (λ (xs : List ℕ). Answered xs (string_bytes c.in_ok-told.told)) input c.in_ok-told.ensures) in
    served (take 3856) Answered answered_all _ _ _ c.write_text.result c.in_ok-given.given.items c.as_bytes.result.now c.in_ok-given.ensures.all
    answered c.write_text.ensures
