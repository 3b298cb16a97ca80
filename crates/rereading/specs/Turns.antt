-- Reading one text many times: each turn has the outcome of the first.
use Rattle.std.specs.Prelude.{ℕ, cond, Some, None, Ok, Err, Result, ◌==◌}
use Rattle.program.specs.declared.refusals.Refusal.{Refusal}
use Rattle.program.specs.Program.{Program}
use Rattle.rereading.specs.declared.Outcomes.{Outcomes}

-- the outcomes of n turns, and what a table that said old says then
abbrev pub repeated : Program → Result Program Refusal → ℕ → Outcomes × Program
repeated old (Ok p) n = (record { accepted = n; refused = 0; last = None }, cond (n == 0) old p)
repeated old (Err f) n = (record { accepted = 0; refused = n; last = cond (n == 0) None (Some f) }, old)
