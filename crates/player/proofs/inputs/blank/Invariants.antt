use Rattle.std.proofs.Common.{◌≡◌, ◌++◌, true, take, drop}
use Rattle.player.specs.Parts.{before_blank, after_blank}
use Rattle.player.proofs.inputs.blank.Given as goal

abbrev pub invariant-loop-i : goal.invariant-loop-i
invariant-loop-i l =
    let text = l.fn.text in
    record {
      before : before_blank true text ≡ take l.i text ++ before_blank l.begins (drop l.i text);
      after : after_blank true text ≡ after_blank l.begins (drop l.i text);
    }
