use Rattle.steps.proofs.Cuts.{front_is, back_is}
use Rattle.steps.proofs.cutting.cut.Goals as goal

pub returns-clause-before : goal.returns-clause-before
returns-clause-before c = let h = front_is c.args.end c.args.text.now in cc

pub returns-clause-after : goal.returns-clause-after
returns-clause-after c = let h = back_is c.args.end c.args.text.now in cc
