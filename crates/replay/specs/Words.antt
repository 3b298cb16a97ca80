-- What is printed of what is wrong with a run, and where.
use Rattle.std.specs.Prelude.{ℕ, List, ◌++◌, codes, decimal}
use Rattle.replay.specs.declared.faults.Fault.{Fault}
use Rattle.replay.specs.declared.faults.Fault.TheVariants.{Length, Field, Number, Process, NoMove, Choice, Seen, Bounds, Targets}

abbrev pub reason : Fault → List ℕ
reason Length = codes "the length is not that of 0 to 24 lines of 25 bytes"
reason (Field i) = codes "line " ++ (decimal i ++ codes " has a wrong field or a wrong end")
reason (Number i) = codes "line " ++ (decimal i ++ codes " has another step number")
reason (Process i) = codes "line " ++ (decimal i ++ codes " names no process that stands at its label")
reason (NoMove i) = codes "line " ++ (decimal i ++ codes ": the process has no move there: 0 offered")
reason (Choice i refused) = codes "line " ++ (decimal i ++ (codes " takes a choice that the memory does not offer: " ++ (decimal refused.offered ++ codes " offered")))
reason (Seen i) = codes "line " ++ (decimal i ++ codes " has another value or switch mark")
reason (Bounds i) = codes "line " ++ (decimal i ++ codes " passes the step bound or the switch bound")
reason (Targets i) = codes "after " ++ (decimal i ++ codes " lines the targets are not reached")
