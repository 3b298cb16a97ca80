use Rattle.session.specs.Contents.{content}
use Rattle.session.proofs.Laws.{replay_lawful}
use Rattle.session.proofs.Tellings.{replay_says}
use Rattle.session.proofs.sessions.Session.replay.Goals as goal

pub returns-clause-law : goal.returns-clause-law
returns-clause-law g c = replay_lawful g.M.Memory.machine (content c.args.self.now) (content c.do_replay.new.self) c.do_replay.ensures.kept c.args.text.now c.do_replay.result c.do_replay.ensures.value

pub returns-clause-words : goal.returns-clause-words
returns-clause-words g c = λ h a.
    let law = replay_lawful g.M.Memory.machine (content c.args.self.now) (content c.do_replay.new.self) c.do_replay.ensures.kept c.args.text.now c.do_replay.result c.do_replay.ensures.value in
    replay_says g.M.Memory.machine g.M.Memory.WIDEST g.met.M.Memory.bounded h g.met.M.Memory.few g.met.M.Memory.bytes c.args.text.now c.do_replay.result (law.answers h a)
