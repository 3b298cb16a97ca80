use Rattle.memory.proofs.Leads.{leads_one, leads_next, leads_all}
use Rattle.memory.proofs.driving.drive.Goals as goal

pub loop-take-preserved : goal.loop-take-preserved
loop-take-preserved g c =
    leads_next g.M.Memory.machine (g.M.Memory.config c.start.new.self) c.args.takes.now c.loop-take.take-index _
    (g.M.Memory.config c.loop-take.memory) (g.M.Memory.config c.take.new.self) c.take.result
    c.loop-take-test.true c.loop-take.invariant c.take.ensures.outcome

pub returns : goal.returns
returns g c =
    let led = leads_all g.M.Memory.machine (g.M.Memory.config c.start.new.self) (g.M.Memory.machine.initial c.args.shape)
    c.args.takes.now c.loop-take.take-index (g.M.Memory.config c.loop-take.memory)
    c.loop-take-test.false c.start.ensures c.loop-take.invariant in
    record {
      led = led;
      one = λ t h. leads_one g.M.Memory.machine (g.M.Memory.machine.initial c.args.shape) c.args.takes.now
          t (g.M.Memory.config c.loop-take.memory) h led;
    }
