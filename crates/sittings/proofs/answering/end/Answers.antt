use Rattle.std.proofs.Common.{IsErr, rules, subst, sym, ◌∙◌}
use Rattle.intake.specs.Serving.{Writes}
use Rattle.sittings.specs.Batches.{ending}
use Rattle.sittings.proofs.Turns.{ending_some, unwritten}
use Rattle.sittings.proofs.answering.end.Goals as goal

pub returns-in_err-line : goal.returns-in_err-line
returns-in_err-line g c =
    let failed : IsErr c.from_residual.result = search rules in
    unwritten (g.W.Write.contents c.args.output.now) c.from_residual.result (ending c.args.number c.args.rest.now) failed

pub returns : goal.returns
returns g c =
    let text = ending_some c.args.number c.args.rest.now (sym c.is_empty.ensures ∙ c.if-is_empty.false) in
    subst (Writes (g.W.Write.contents c.args.output.now) (g.W.Write.contents c.write_text.new.writer) c.write_text.result)
    (c.as_bytes.ensures.value ∙ c.in_ok-line.ensures.ok ∙ text) c.write_text.ensures
