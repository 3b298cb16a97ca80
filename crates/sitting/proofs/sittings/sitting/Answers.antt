use Rattle.std.proofs.Common.{Ok, sym, ap, ◌∙◌, arith}
use Rattle.program.specs.Reading.{then_do}
use Rattle.sitting.proofs.Inputs.{seats, tells}
use Rattle.sitting.proofs.sittings.sitting.Goals as goal

pub returns-in-Ok-clause-words : goal.returns-in-Ok-clause-words
returns-in-Ok-clause-words c =
    let request = c.in-Ok.request in
    seats c.args.input.now c.args.out.now c.seat.new.out c.seat.result request.wish request.text.now
    (sym c.cut.ensures ∙ ap (λ r. then_do r (λ x. Ok (x.wish, x.text.now))) c.in-Ok.is) c.seat.ensures.words

pub returns-in-Err-clause-words : goal.returns-in-Err-clause-words
returns-in-Err-clause-words c =
    tells c.args.input.now c.args.out.now c.tell.new.out c.tell.result c.in-Err.why
    (sym c.cut.ensures ∙ ap (λ r. then_do r (λ x. Ok (x.wish, x.text.now))) c.in-Err.is) (omega arith) c.tell.ensures
