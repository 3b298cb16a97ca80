use Rattle.session.specs.Contents.{content}
use Rattle.session.proofs.Laws.{step_lawful}
use Rattle.session.proofs.Tellings.{step_says}
use Rattle.session.proofs.sessions.Session.step.Goals as goal

pub returns-clause-law : goal.returns-clause-law
returns-clause-law g c = step_lawful g.M.Memory.machine (content c.args.self.now) (content c.do_step.new.self) c.do_step.ensures.kept c.args.i c.do_step.result c.do_step.ensures.value

pub returns-clause-words : goal.returns-clause-words
returns-clause-words g c = λ h a.
    let law = step_lawful g.M.Memory.machine (content c.args.self.now) (content c.do_step.new.self) c.do_step.ensures.kept c.args.i c.do_step.result c.do_step.ensures.value in
    step_says g.M.Memory.machine g.M.Memory.WIDEST g.met.M.Memory.bounded h c.args.i c.do_step.result (law.answers h a)
