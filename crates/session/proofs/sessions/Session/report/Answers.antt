use Rattle.session.specs.Contents.{content}
use Rattle.session.proofs.Laws.{report_lawful}
use Rattle.session.proofs.Tellings.{report_says}
use Rattle.session.proofs.sessions.Session.report.Goals as goal

pub returns-clause-law : goal.returns-clause-law
returns-clause-law g c = report_lawful g.M.Memory.machine (content c.args.self.now) (content c.do_report.new.self) c.do_report.ensures.kept c.args.out.now (c.do_report.result, c.do_report.new.out) c.do_report.ensures.value

pub returns-clause-words : goal.returns-clause-words
returns-clause-words g c = λ h a.
    let law = report_lawful g.M.Memory.machine (content c.args.self.now) (content c.do_report.new.self) c.do_report.ensures.kept c.args.out.now (c.do_report.result, c.do_report.new.out) c.do_report.ensures.value in
    report_says g.M.Memory.machine g.M.Memory.WIDEST g.met.M.Memory.bounded h c.args.out.now c.do_report.new.out c.do_report.result (law.answers h a)
