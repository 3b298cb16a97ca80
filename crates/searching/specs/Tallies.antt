-- Searching for one question's targets many times: each search shows what the first does.
use Rattle.std.specs.Prelude.{ℕ, ◌*◌, cond, ◌==◌}
use Rattle.runs.specs.declared.verdicts.Verdict.TheVariants.{More}
use Rattle.runs.specs.Look.{Look}
use Rattle.searching.specs.declared.Tally.{Tally}

-- what came of n searches that each show the same
abbrev pub tallied : Look → ℕ → Tally
tallied l n = record { looked = n * l.units; verdict = cond (n == 0) More l.verdict }
