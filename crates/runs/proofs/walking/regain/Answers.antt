use Rattle.std.proofs.Common.{◌≡◌, ◌-◌, cond, get_or, ap, rules, arith}
use Rattle.program.specs.Tables.{program}
use Rattle.worlds.specs.Worlds.{world as stand}
use Rattle.worlds.proofs.Steps.{refused}
use Rattle.runs.specs.Asked.{system, root}
use Rattle.runs.specs.Runs.{move}
use Rattle.runs.proofs.Walks.{here_start, offered_at, here_more}
use Rattle.runs.proofs.walking.regain.Goals as goal

pub loop-next-init : goal.loop-next-init
loop-next-init g c =
    let t = program c.args.table.now in
    let m = g.M.Memory.machine in
    here_start (system m t) (root m t c.args.question) (stand g.M.Memory.config c.start.new.self) (c.start.ensures t)

pub returns-in_default : goal.returns-in_default
returns-in_default g c o =
    let t = program c.args.table.now in
    let m = g.M.Memory.machine in
    let w = stand g.M.Memory.config c.loop-next.world in
    let low = refused m t w (get_or c.args.moves.now c.loop-next.next-index (move 0 0)) (stand g.M.Memory.config c.make.new.self) c.in_default.field-0 c.in_default.ensures in
    let high = offered_at (system m t) (root m t c.args.question) w c.loop-next.room c.args.moves.now c.loop-next.next-index (move 0 0) c.loop-next-test.true o c.loop-next.invariant in
    omega (arith, low, high)

pub loop-next-preserved : goal.loop-next-preserved
loop-next-preserved g c =
    let t = program c.args.table.now in
    let m = g.M.Memory.machine in
    let went = c.in-Ok.ensures in
    let room : c.saturating_sub-room.result ≡ c.loop-next.room - cond c.in-Ok.made.switch 1 0 = search rules in
    here_more (system m t) (root m t c.args.question) (stand g.M.Memory.config c.loop-next.world) (stand g.M.Memory.config c.make.new.self) c.loop-next.room c.saturating_sub-room.result c.args.moves.now c.loop-next.next-index (move 0 0) c.in-Ok.made.switch c.loop-next-test.true went.offered c.loop-next.invariant went.after (ap (λ z. z.switch) went.step_is) room
