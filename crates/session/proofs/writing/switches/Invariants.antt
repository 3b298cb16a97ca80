use Rattle.std.proofs.Common.{◌≡◌, ◌+◌, ◌≤◌, drop}
use Rattle.session.specs.Reports.{switches_in}
use Rattle.session.proofs.writing.switches.Given as goal

abbrev pub invariant-loop-step : goal.invariant-loop-step
invariant-loop-step l = record {
  low : l.switches ≤ l.step-index;
  total : l.switches + switches_in (drop l.step-index l.records) ≡ switches_in l.fn.records;
}
