use Rattle.std.proofs.Common.{◌≡◌, Ok, Err, Result, arith}
use Rattle.program.specs.declared.refusals.Refusal.{Refusal}
use Rattle.program.specs.Reading.{read}
use Rattle.program.specs.Tables.{program, taken_in}
use Rattle.rereading.proofs.Turns.{one_more}
use Rattle.rereading.proofs.reread.Goals as goal
use Rattle.rereading.proofs.reread.Goals.{in-Ok, in-Err}

pub loop-turn-preserved : goal.loop-turn-preserved
loop-turn-preserved c =
    let step =
    λ (said : Result (Unit {0}) Refusal) (now : (said, program c.read.new.self) ≡ taken_in (program c.loop-turn.table) (read c.args.text.now)).
    one_more (program c.args.table.now) (program c.loop-turn.table) (program c.read.new.self) c.loop-turn.outcomes (read c.args.text.now) said c.loop-turn._turn c.loop-turn.invariant.so_far now
    in
    elim c.match-read.branch [
      | in-Ok w ↦ rw w.outcomes-is (record { few = (omega arith, omega arith); so_far = step (Ok tt) w.in-Ok.ensures.value })
      | in-Err w ↦ rw w.outcomes-is (record { few = (omega arith, omega arith); so_far = step (Err w.in-Err.refusal) w.in-Err.ensures.value })
    ]
