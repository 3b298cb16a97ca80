use Rattle.std.proofs.Common.{◌∙◌, inl, inr, sym, rules, arith}
use Rattle.std.proofs.lemmas.Grind.{common_steps}
use Rattle.program.proofs.Ends.{ends_more}
use Rattle.program.proofs.reading.check_ends.Goals as goal
use Rattle.program.proofs.reading.check_ends.Goals.{else-above-below-via-then-above-below+else-not-is_term, else-above-below-via-else-above-below}

pub loop-i-preserved : goal.loop-i-preserved
loop-i-preserved c =
    let now = c.loop-i.invariant in
    let steps = c.in-Some.ensures.steps in
    let two = rw now.pairs at steps.0.1.1 in
    record {
      next = search rules;
      pairs = search rules;
      left = grind (arith, common_steps);
      place = grind (arith, common_steps);
      read = ends_more c.args.processes _ _ c.args.rows.now.items _ c.in-Some.field-0-1.now _ now.left two (omega arith) steps.2 (elim c.else-above-below.branch [
        | else-above-below-via-then-above-below+else-not-is_term w ↦ inr (sym w.is_term.ensures ∙ w.if-not-is_term.false)
        | else-above-below-via-else-above-below w ↦ inl w.if-above-below.false
      ]) ∙ now.read;
    }
