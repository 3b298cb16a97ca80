use Rattle.sitting.proofs.Sits.{sits}
use Rattle.sitting.proofs.sittings.sit.Goals as goal

pub returns-clause-words : goal.returns-clause-words
returns-clause-words g c =
    sits g.M.Memory.machine g.M.Memory.WIDEST g.met.M.Memory.bounded c.args.wish c.args.text.now c.args.out.now c.write.result c.write.new.out c.write.ensures.outcome
