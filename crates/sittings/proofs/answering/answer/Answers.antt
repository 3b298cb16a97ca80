use Rattle.std.proofs.Common.{◌≡◌, ℕ, ◌≤◌, List, replicate, take, subst, ap, ◌∙◌, arith}
use Rattle.std.proofs.lemmas.List.{take-replicate}
use Rattle.intake.specs.Serving.{Writes}
use Rattle.sitting.specs.Outputs.{sat_in}
use Rattle.sittings.specs.Batches.{outcome_text}
use Rattle.sittings.proofs.Rooms.{cut_room}
use Rattle.sittings.proofs.answering.answer.Goals as goal

pub returns : goal.returns
returns g c =
    let room = c.args.case.room in
    let n = c.min.result in
    let low : n ≤ 625 = omega arith in
    let input = c.args.case.input.now in
    let text : outcome_text (sat_in input (take n (replicate 625 0))) ≡ outcome_text (sat_in input (replicate room 0)) =
    ap (λ (l : List ℕ). outcome_text (sat_in input l)) (take-replicate n 625 0 low)
    ∙ ap (λ (k : ℕ). outcome_text (sat_in input (replicate k 0))) c.min.ensures
    ∙ cut_room input room in
    subst (λ (l : List ℕ). Writes (g.W.Write.contents c.args.output.now) (g.W.Write.contents c.sit.new.output) c.sit.result l) text
    c.sit.ensures
