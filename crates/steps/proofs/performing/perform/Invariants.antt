-- What was told so far, and what the lines that are left print, is what all lines print.
use Rattle.std.proofs.Common.{◌≡◌, ◌+◌, ◌≤◌, ◌++◌, length, string_bytes}
use Rattle.steps.specs.Answers.{performing}
use Rattle.steps.specs.Outcomes.{no_tally}
use Rattle.steps.specs.Reading.{left_of}
use Rattle.steps.proofs.performing.perform.Given as goal

abbrev pub invariant-loop-line : goal.invariant-loop-line
invariant-loop-line g l = record {
  can_next : (goal.iterator-loop-line g).can_next l.line-iterator;
  is_finite : (goal.iterator-loop-line g).is_finite l.line-iterator;
  prints : string_bytes l.told ++ performing g.M.Memory.machine (g.M.Memory.config l.memory) l.tally (left_of l.line-iterator) ≡
      performing g.M.Memory.machine (g.M.Memory.config l.fn.memory) no_tally (left_of l.fn.lines);
  few : l.tally.performed + length (left_of l.line-iterator) ≤ length (left_of l.fn.lines);
  fewer : l.tally.switches ≤ l.tally.performed;
}
