use Rattle.session.specs.Contents.{content}
use Rattle.session.proofs.Laws.{load_lawful}
use Rattle.session.proofs.Loads.{load_says}
use Rattle.session.proofs.sessions.Session.load.Goals as goal

pub returns-clause-law : goal.returns-clause-law
returns-clause-law g c = load_lawful g.M.Memory.machine (content c.args.self.now) (content c.do_load.new.self) c.args.text.now c.do_load.result c.do_load.ensures

pub returns-clause-words : goal.returns-clause-words
returns-clause-words g c = load_says c.args.text.now (content c.args.self.now) (content c.do_load.new.self) c.do_load.result c.do_load.ensures
