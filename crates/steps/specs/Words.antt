-- What is printed of a line, of a setting that fails, and at the end.
use Rattle.std.specs.Prelude.{ℕ, cond, List, ◌++◌, Ok, Err, codes, decimal, Result}
use Rattle.wording.specs.Amounts.{amount_words}
use Rattle.memory.specs.declared.actions.Action.{Action}
use Rattle.memory.specs.declared.actions.Action.TheVariants.{Local, Read, Write, Swap, Fence}
use Rattle.memory.specs.declared.actions.Take.{Take}
use Rattle.steps.specs.declared.outcomes.Done.{Done}
use Rattle.steps.specs.declared.outcomes.Stop.{Stop}
use Rattle.steps.specs.declared.outcomes.Stop.TheVariants.{Refused, Wrong as Misread}
use Rattle.steps.specs.declared.outcomes.Tally.{Tally}
use Rattle.steps.specs.declared.settings.Failing.{Failing}
use Rattle.steps.specs.declared.settings.Failing.TheVariants.{NoMemory, NoShape, At}
use Rattle.steps.specs.declared.wrongs.Wrong.{Wrong}
use Rattle.steps.specs.declared.wrongs.Wrong.TheVariants.{Memory, Shape, Process, Action as NoAction, Variable, Value, Choice}

-- what is expected in place of what is wrong
abbrev pub expected : Wrong → List ℕ
expected Memory = codes "the memory is sequential or release-acquire"
expected Shape = codes "a shape is processes 1 to 4, variables 1 to 4, ceiling 0 to 24"
expected Process = codes "the process comes first, a number from 0 to 255"
expected NoAction = codes "an action is local, read, write, swap or fence"
expected Variable = codes "a variable is x and a number from 0 to 255"
expected Value = codes "a value is a number from 0 to 255"
expected Choice = codes "the choice comes last, as in choice 0"

abbrev pub action_words : Action → List ℕ
action_words Local = codes "local"
action_words (Read x) = codes "read x" ++ decimal x
action_words (Write x v) = codes "write x" ++ (decimal x ++ (codes " " ++ decimal v))
action_words (Swap x old new) = codes "swap x" ++ (decimal x ++ (codes " " ++ (decimal old ++ (codes " " ++ decimal new))))
action_words Fence = codes "fence"

-- the line as it is written in the input
abbrev pub take_words : Take → List ℕ
take_words k = decimal k.process ++ (codes " " ++ (action_words k.action ++ (codes " choice " ++ decimal k.choice)))

-- what came of a line that was performed, and of one that was not
abbrev pub done_words : Done → List ℕ
done_words d =
    take_words d.take ++ (codes ": " ++ (decimal d.offered ++ (codes " offered, saw " ++ (decimal d.seen.value ++
    cond d.seen.switch (codes ", a switch") (codes "")))))

abbrev pub stop_words : Stop → List ℕ
stop_words (Refused k offered) = take_words k ++ (codes ": refused, " ++ (decimal offered ++ codes " offered"))
stop_words (Misread w) = codes "wrong: " ++ expected w

abbrev pub outcome_words : Result Done Stop → List ℕ
outcome_words (Ok d) = done_words d
outcome_words (Err e) = stop_words e

-- what came of line n
abbrev pub report_words : ℕ → Result Done Stop → List ℕ
report_words n o = codes "line " ++ (decimal n ++ (codes ": " ++ (outcome_words o ++ codes "\n")))

abbrev pub wrong_words : ℕ → Wrong → List ℕ
wrong_words n w = report_words n (Err (Misread w))

abbrev pub failing_words : Failing → List ℕ
failing_words NoMemory = codes "wrong: the input ends before a memory is named\n"
failing_words NoShape = codes "wrong: the input ends before a shape is given\n"
failing_words (At n w) = wrong_words n w

-- the last line
abbrev pub tally_words : Tally → List ℕ
tally_words t =
    amount_words t.performed (codes "action") (codes "actions") ++ (codes " performed, " ++
    (amount_words t.switches (codes "switch") (codes "switches") ++ codes "\n"))
