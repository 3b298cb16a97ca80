use Rattle.std.proofs.Common.{◌≡◌, Some, rules}
use Rattle.program.specs.Tables.{program}
use Rattle.memory.specs.Machine.{Accepted}
use Rattle.worlds.specs.Places.{action_of}
use Rattle.worlds.specs.Worlds.{places_of, At}
use Rattle.worlds.proofs.Steps.{went}
use Rattle.worlds.proofs.worlds.World.make.Goals as goal

pub returns : goal.returns
returns g c =
    let t = program c.args.table.now in
    let s = c.in_ok-standing.standing in
    let found : At t (places_of c.args.self.now.places) c.args.step.process s = search rules in
    let acts : Some c.in_ok-action.action ≡ action_of s.instruction s.place = search rules in
    let taken : Accepted g.M.Memory.machine (g.M.Memory.config c.args.self.now.memory) c.args.step.process c.in_ok-action.action c.args.step.choice (g.M.Memory.config c.take.new.self) c.in_ok-seen.seen = search rules in
    rw c.from.ensures (went g.M.Memory.machine t (g.M.Memory.config c.args.self.now.memory) c.args.self.now.places c.args.step s found c.in_ok-action.action (g.M.Memory.config c.take.new.self) c.in_ok-seen.seen c.after.result c.shown.result (search rules) acts taken c.after.ensures c.shown.ensures)
