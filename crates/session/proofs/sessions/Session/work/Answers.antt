use Rattle.session.specs.Contents.{content}
use Rattle.session.proofs.Laws.{work_lawful}
use Rattle.session.proofs.Tellings.{work_says}
use Rattle.session.proofs.sessions.Session.work.Goals as goal

pub returns-clause-law : goal.returns-clause-law
returns-clause-law g c = work_lawful g.M.Memory.machine (content c.args.self.now) (content c.do_work.new.self) c.args.effort c.do_work.result c.do_work.ensures

pub returns-clause-words : goal.returns-clause-words
returns-clause-words g c = λ h a.
    let law = work_lawful g.M.Memory.machine (content c.args.self.now) (content c.do_work.new.self) c.args.effort c.do_work.result c.do_work.ensures in
    work_says g.M.Memory.machine g.M.Memory.WIDEST g.met.M.Memory.bounded h c.args.effort c.do_work.result (law.answers h a)
