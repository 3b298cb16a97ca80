-- When the works of a sitting are over.
use Rattle.std.specs.Prelude.{Bool, true, false, not, Ok, Err, Result}
use Rattle.runs.specs.declared.verdicts.Verdict.{Verdict}
use Rattle.runs.specs.declared.verdicts.Verdict.TheVariants.{More, Found, None}
use Rattle.runs.specs.declared.verdicts.Worked.{Worked as Answer}
use Rattle.session.specs.declared.refusals.Refusal.{Refusal}

abbrev pub is_open : Verdict → Bool
is_open More = true
is_open Found = false
is_open None = false

-- no further work will tell more
abbrev pub is_settled : Result Answer Refusal → Bool
is_settled (Ok w) = not (is_open w.verdict)
is_settled (Err why) = true
