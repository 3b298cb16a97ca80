use Rattle.std.proofs.lemmas.Grind.{common_steps}
use Rattle.std.proofs.Common.{◌≡◌, ◌+◌, ◌-◌, length, take, drop, ◌++◌, arith, sym, ap, ◌∙◌, subst}
use Rattle.std.proofs.Math.Seq.{take-add}
use Rattle.std.proofs.lemmas.List.{take_rest}
use Rattle.std.specs.Io.KnownBytes.{Appends}
use Rattle.std.proofs.KnownBytes.{Appends-trans}
use Rattle.intake.proofs.writing.write_text.Goals as goal

pub loop-written-preserved : goal.loop-written-preserved
loop-written-preserved g c =
    let text = c.args.text.now in
    let n = c.loop-written.written in
    let m = c.in_ok-count.count in
    let joined : take n text ++ take m (take (length text - n) (drop n text)) ≡ take (n + m) text =
    ap (λ l. take n text ++ take m l) (take_rest text n) ∙ sym (take-add n m text) in
    record {
      fits = grind (arith, common_steps, c.in_ok-count.ensures.fits);
      appended = subst (Appends _ _) joined (Appends-trans _ _ _ _ _ c.loop-written.invariant.appended c.in_ok-count.ensures.written);
    }
