use Rattle.program.specs.Tables.{program}
use Rattle.runs.specs.Asked.{system, root}
use Rattle.runs.specs.Paths.{path}
use Rattle.runs.specs.Runs.{rest}
use Rattle.runs.proofs.Walks.{advance_found, advance_again}
use Rattle.runs.proofs.cursors.Cursor.advance.Goals as goal

pub returns-then-resume-clause-next : goal.returns-then-resume-clause-next
returns-then-resume-clause-next g c =
    let m = g.M.Memory.machine in
    let t = program c.args.table.now in
    let S = system m t in
    let d = root m t c.args.question in
    let off = c.in-Some.ensures in
    advance_found S d (rest S d (path c.args.self.now.run)) (path c.loop-last.self.run) (path c.back.new.self.run) (path c.resume.new.self.run) c.in-Some.last c.loop-last.invariant.ahead off.was c.if-resume.ensures.goes

pub loop-last-preserved : goal.loop-last-preserved
loop-last-preserved g c =
    let m = g.M.Memory.machine in
    let t = program c.args.table.now in
    let S = system m t in
    let d = root m t c.args.question in
    let off = c.in-Some.ensures in
    record {
      sound = c.if-resume.ensures.sound;
      ahead = advance_again S d (rest S d (path c.args.self.now.run)) (path c.loop-last.self.run) (path c.back.new.self.run) (path c.resume.new.self.run) c.in-Some.last c.loop-last.invariant.ahead off.was c.if-resume.ensures.goes;
    }
