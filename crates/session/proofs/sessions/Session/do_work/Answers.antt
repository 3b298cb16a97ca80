use Rattle.std.proofs.Common.{◌≡◌, true, Some, rules}
use Rattle.program.specs.Program.{within}
use Rattle.program.specs.Tables.{program}
use Rattle.session.proofs.Values.{worked_is}
use Rattle.session.proofs.sessions.Session.do_work.Goals as goal

pub returns : goal.returns
returns g c =
    let held : c.args.self.now.search ≡ Some c.in_ok-search.search = search rules in
    let may : within 1 1000000 c.args.effort ≡ true = search rules in
    worked_is g.M.Memory.machine (program c.args.self.now.table) c.in_ok-search.search c.work-worked.new.search c.args.effort c.work-worked.result
    c.work-worked.ensures.works c.args.self.now.search held may
