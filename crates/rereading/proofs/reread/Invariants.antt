use Rattle.std.proofs.Common.{◌≡◌, ◌≤◌}
use Rattle.program.specs.Reading.{read}
use Rattle.program.specs.Tables.{program}
use Rattle.rereading.specs.Turns.{repeated}
use Rattle.rereading.proofs.reread.Given as goal

abbrev pub invariant-loop-turn : goal.invariant-loop-turn
invariant-loop-turn l = record {
  few : (l.outcomes.accepted ≤ l._turn) × (l.outcomes.refused ≤ l._turn);
  so_far : (l.outcomes, program l.table) ≡ repeated (program l.initial.table) (read l.text) l._turn;
}
