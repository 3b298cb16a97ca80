use Rattle.session.specs.Contents.{content}
use Rattle.session.proofs.Laws.{standing_lawful}
use Rattle.session.proofs.Tellings.{standing_says}
use Rattle.session.proofs.sessions.Session.standing.Goals as goal

pub returns-clause-law : goal.returns-clause-law
returns-clause-law g c = standing_lawful g.M.Memory.machine (content c.args.self.now) (content c.args.self.now) c.do_standing.result c.do_standing.ensures

pub returns-clause-words : goal.returns-clause-words
returns-clause-words g c = λ h a.
    let law = standing_lawful g.M.Memory.machine (content c.args.self.now) (content c.args.self.now) c.do_standing.result c.do_standing.ensures in
    standing_says g.M.Memory.machine g.M.Memory.WIDEST g.met.M.Memory.bounded h c.do_standing.result (law.answers h a)
