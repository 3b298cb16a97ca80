-- What is printed for an input: what a sitting in a buffer of 625 zeros writes of it.
use Rattle.std.specs.Prelude.{ℕ, List, [], take, replicate, Ok, Err, Result}
use Rattle.session.specs.declared.refusals.Refusal.{Refusal}
use Rattle.sitting.specs.Outputs.{sat_in}

-- the bytes that were written at the front of the buffer; where a sitting refuses there are none
abbrev pub written : Result ℕ Refusal × List ℕ → List ℕ
written (Ok n, out) = take n out
written (Err why, out) = []

abbrev pub printed : List ℕ → List ℕ
printed input = written (sat_in input (replicate 625 0))
