-- What is written belongs to all that the reader had left, which was read.
use Rattle.std.proofs.Common.{◌≡◌, ℕ, List, ap, ◌∙◌}
use Rattle.intake.proofs.Serving.{served}
use Rattle.steps.specs.Answers.{answered}
use Rattle.steps.proofs.serving.serve.Goals as goal

pub returns : goal.returns
returns g c =
    served (λ (given : List ℕ). given) (λ given text. text ≡ answered given) (λ given text h. h)
    (g.R.Read.remaining c.args.input.now) (g.W.Write.contents c.args.output.now) (g.W.Write.contents c.write_text.new.writer)
    c.write_text.result c.in_ok-given.given.items c.as_bytes.result.now c.in_ok-given.ensures
    (c.as_bytes.ensures.value ∙ c.in_ok-text.ensures ∙ ap answered c.as_slice.ensures.value) c.write_text.ensures
