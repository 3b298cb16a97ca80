use Rattle.std.proofs.Common.{◌≡◌, ◌++◌, List, ℕ, Ok, Result, IsErr, codes, decimal, take, sym, ap, subst, ◌∙◌, append_assoc, rules}
use Rattle.session.specs.declared.refusals.Refusal.{Refusal}
use Rattle.intake.specs.Serving.{AppendsFront, Writes}
use Rattle.intake.proofs.Serving.{front_of_first, writes_after}
use Rattle.sitting.specs.Outputs.{sat_in}
use Rattle.sittings.specs.Batches.{outcome_text}
use Rattle.sittings.proofs.Turns.{stopped, unwritten}
use Rattle.sittings.proofs.answering.sit.Goals as goal

pub returns-in_err-line-in-Ok : goal.returns-in_err-line-in-Ok
returns-in_err-line-in-Ok g c =
    let failed : IsErr c.from_residual.result = search rules in
    unwritten (g.W.Write.contents c.args.output.now) c.from_residual.result (outcome_text (sat_in c.args.input.now c.args.buffer.now)) failed

-- the line of the number, and then the bytes
module _ (n : ℕ) (out line : List ℕ) (x : Result ℕ Refusal × List ℕ) (is : (Ok n, out) ≡ x) (first : line ≡ decimal n ++ codes "\n") where
  whole : line ++ take n out ≡ outcome_text x
  whole = ap (λ (l : List ℕ). l ++ take n out) first ∙ append_assoc (decimal n) (codes "\n") (take n out) ∙ ap outcome_text is

pub returns-in_err-write_text-in-Ok : goal.returns-in_err-write_text-in-Ok
returns-in_err-write_text-in-Ok g c =
    let old = g.W.Write.contents c.args.output.now in
    let now = g.W.Write.contents c.write_text.new.writer in
    let out = c.sitting.new.out in
    let line = c.as_bytes.result.now in
    let x = sat_in c.args.input.now c.args.buffer.now in
    let text = whole c.in-Ok.written out line x (ap (λ r. (r, out)) (sym c.in-Ok.is) ∙ c.sitting.ensures.outcome)
    (c.as_bytes.ensures.value ∙ c.in_ok-line-in-Ok.ensures.ok) in
    stopped old now c.from_residual-in_err-write_text-in-Ok.result (outcome_text x) c.from_residual-in_err-write_text-in-Ok.ensures.0
    (subst (AppendsFront old now) text (front_of_first old now line (take c.in-Ok.written out) c.in_err-write_text-in-Ok.ensures))

pub returns-in_ok-write_text-in-Ok : goal.returns-in_ok-write_text-in-Ok
returns-in_ok-write_text-in-Ok g c =
    let old = g.W.Write.contents c.args.output.now in
    let now = g.W.Write.contents c.write_text.new.writer in
    let new = g.W.Write.contents c.write_text-in-Ok.new.writer in
    let out = c.sitting.new.out in
    let line = c.as_bytes.result.now in
    let x = sat_in c.args.input.now c.args.buffer.now in
    let text = whole c.in-Ok.written out line x (ap (λ r. (r, out)) (sym c.in-Ok.is) ∙ c.sitting.ensures.outcome)
    (c.as_bytes.ensures.value ∙ c.in_ok-line-in-Ok.ensures.ok) in
    subst (Writes old new c.write_text-in-Ok.result) text
    (writes_after old now new c.write_text-in-Ok.result line (take c.in-Ok.written out) c.in_ok-write_text-in-Ok.ensures c.write_text-in-Ok.ensures)
