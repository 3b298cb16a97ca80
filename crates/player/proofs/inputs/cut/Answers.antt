use Rattle.std.proofs.Common.{◌≡◌, ◌+◌, ◌-◌, ℕ, List, length, take, drop, true, ap, ◌∙◌, arith}
use Rattle.std.proofs.lemmas.List.{take_all, take_min, drop_min, length-drop}
use Rattle.player.specs.Parts.{after_blank, before_blank}
use Rattle.player.proofs.inputs.cut.Goals as goal

pub returns-clause-question : goal.returns-clause-question
returns-clause-question c = c.split_at.ensures.front ∙ ap (λ (n : ℕ). take n c.args.input.now) c.min.ensures ∙ take_min 29 c.args.input.now

pub returns-clause-table : goal.returns-clause-table
returns-clause-table c =
    let rest : c.split_at.result.1.now ≡ drop 29 c.args.input.now = c.split_at.ensures.back ∙ ap (λ (n : ℕ). drop n c.args.input.now) c.min.ensures ∙ drop_min 29 c.args.input.now in
    c.blank-at.ensures.before ∙ ap (before_blank true) rest

pub returns-clause-run : goal.returns-clause-run
returns-clause-run c =
    let rest : c.split_at.result.1.now ≡ drop 29 c.args.input.now = c.split_at.ensures.back ∙ ap (λ (n : ℕ). drop n c.args.input.now) c.min.ensures ∙ drop_min 29 c.args.input.now in
    let xs : List ℕ = c.split_at.result.1.now in
    let all = take_all (length xs - c.min-2.result) (drop c.min-2.result xs) (omega (arith, length-drop c.min-2.result xs)) in
    all ∙ ap (λ (n : ℕ). drop n xs) c.min-2.ensures ∙ drop_min (c.blank-at.result + 1) xs ∙ c.blank-at.ensures.after ∙ ap (after_blank true) rest
