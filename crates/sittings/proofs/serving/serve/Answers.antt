use Rattle.std.proofs.Common.{◌≡◌, ℕ, List, ap}
use Rattle.intake.proofs.Serving.{served}
use Rattle.sittings.specs.Batches.{batch_text}
use Rattle.sittings.proofs.Words.{in_words}
use Rattle.sittings.proofs.serving.serve.Goals as goal

pub returns-clause-serves : goal.returns-clause-serves
returns-clause-serves g c =
    served (λ (given : List ℕ). given) (λ given text. text ≡ batch_text given) (λ given text h. h)
    (g.R.Read.remaining c.args.input.now) (g.W.Write.contents c.args.output.now) (g.W.Write.contents c.answer_all.new.output)
    c.answer_all.result c.in_ok-batch.batch.items (batch_text c.as_slice.result.now) c.in_ok-batch.ensures
    (ap batch_text c.as_slice.ensures.value) c.answer_all.ensures

pub returns-clause-words : goal.returns-clause-words
returns-clause-words g c =
    in_words (g.R.Read.remaining c.args.input.now) (g.W.Write.contents c.args.output.now) (g.W.Write.contents c.answer_all.new.output) c.answer_all.result
    (returns-clause-serves g c)
