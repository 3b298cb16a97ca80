use Rattle.std.proofs.Common.{◌≡◌, ◌+◌, take, drop, ◌++◌, sym, ap, ◌∙◌, subst}
use Rattle.std.proofs.Math.Seq.{take-add}
use Rattle.std.specs.Io.KnownBytes.{Consumes}
use Rattle.std.proofs.KnownBytes.{Consumes-trans}
use Rattle.intake.proofs.filling.fill.Goals as goal

pub loop-filled-preserved : goal.loop-filled-preserved
loop-filled-preserved g c =
    let n = c.loop-filled.filled in
    let read = c.in_ok-count.ensures in
    let m = c.in_ok-count.count in
    let buffer = c.read_at.new.buffer in
    let joined : take n c.loop-filled.buffer ++ take m (drop n buffer) ≡ take (n + m) buffer =
    ap (λ l. l ++ take m (drop n buffer)) (sym read.front) ∙ sym (take-add n m buffer) in
    record {
      fits = read.fits;
      length = read.length ∙ c.loop-filled.invariant.length;
      read = subst (Consumes _ _) joined (Consumes-trans _ _ _ _ _ c.loop-filled.invariant.read read.read);
    }
