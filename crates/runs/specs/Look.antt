-- What a work with some effort does with the runs that are still to be looked at.
use Rattle.std.specs.Prelude.{ℕ, zero, suc, ◌+◌, Bool, true, false, List, [], ◌∷◌}
use Rattle.ceiling.specs.declared.moves.Move.{Move}
use Rattle.runs.specs.declared.verdicts.Verdict.{Verdict}
use Rattle.runs.specs.declared.verdicts.Verdict.TheVariants.{More, Found, None}

-- the runs looked at, what came of it, and the runs from the one where it stopped on
pub record Look : Type 0 where
  pub units : ℕ
  pub verdict : Verdict
  pub left : List (List Move)

abbrev pub ahead : ℕ → Look → Look
ahead n l = record { units = l.units + n; verdict = l.verdict; left = l.left }

-- One unit for each run, in order, until one passes the test, or the runs or the effort end.
abbrev pub look : (List Move → Bool) → ℕ → List (List Move) → Look
look t zero [] = record { units = 0; verdict = None; left = [] }
look t zero (r ∷ L) = record { units = 0; verdict = More; left = r ∷ L }
look t (suc e) [] = record { units = 0; verdict = None; left = [] }
look t (suc e) (r ∷ L) = elim (t r) [ true ↦ record { units = 1; verdict = Found; left = r ∷ L } | false ↦ ahead 1 (look t e L) ]

-- what a work answers where a verdict stands
abbrev pub answers : Verdict → (List Move → Bool) → ℕ → List (List Move) → Look
answers More t e L = look t e L
answers Found t e L = record { units = 0; verdict = Found; left = L }
answers None t e L = record { units = 0; verdict = None; left = L }
