-- What is printed of why a question is not asked.
use Rattle.std.specs.Prelude.{ℕ, List, ◌++◌, codes, decimal}
use Rattle.runs.specs.declared.questions.Unasked.{Unasked}
use Rattle.runs.specs.declared.questions.Unasked.TheVariants.{NoTable, Bounds, Target}

abbrev pub reason : Unasked → List ℕ
reason NoTable = codes "no table was read"
reason Bounds = codes "a bound is above 24"
reason (Target p) = codes "the target of process " ++ (decimal p ++ codes " is none of its labels")
