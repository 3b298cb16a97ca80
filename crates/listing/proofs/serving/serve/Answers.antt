-- What is written belongs to all that the reader had left, of which the first bytes were read.
use Rattle.std.proofs.Common.{◌≡◌, take, ap, ◌∙◌}
use Rattle.intake.proofs.Serving.{served}
use Rattle.program.specs.Reading.{read}
use Rattle.listing.specs.Words.{answered}
use Rattle.listing.proofs.Longest.{first_read}
use Rattle.listing.proofs.serving.serve.Goals as goal

pub returns-clause-serves : goal.returns-clause-serves
returns-clause-serves g c =
    served (take 3226) (λ given text. text ≡ answered (read given)) (λ given text h. h ∙ ap answered (first_read given))
    (g.R.Read.remaining c.args.input.now) (g.W.Write.contents c.args.output.now) (g.W.Write.contents c.write_text.new.writer)
    c.write_text.result c.in_ok-given.given.items c.as_bytes.result.now c.in_ok-given.ensures.all
    (c.as_bytes.ensures.value ∙ c.in_ok-text.ensures ∙ ap (λ b. answered (read b)) c.as_slice.ensures.value) c.write_text.ensures
