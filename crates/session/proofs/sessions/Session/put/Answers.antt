use Rattle.session.specs.Contents.{content}
use Rattle.session.proofs.Laws.{put_lawful}
use Rattle.session.proofs.Tellings.{put_says}
use Rattle.session.proofs.sessions.Session.put.Goals as goal

pub returns-clause-law : goal.returns-clause-law
returns-clause-law g c =
    put_lawful g.M.Memory.machine (content c.args.self.now) (content c.do_put.new.self) c.args.steps c.args.switches c.args.targets c.do_put.result c.do_put.ensures

pub returns-clause-words : goal.returns-clause-words
returns-clause-words g c = λ h a.
    let law = put_lawful g.M.Memory.machine (content c.args.self.now) (content c.do_put.new.self) c.args.steps c.args.switches c.args.targets c.do_put.result c.do_put.ensures in
    put_says h c.args.steps c.args.switches c.args.targets c.do_put.result (law.answers h a)
