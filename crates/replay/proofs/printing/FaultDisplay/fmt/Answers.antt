-- What was written is the text of the variant that the fault is.
use Rattle.replay.proofs.printing.FaultDisplay.fmt.Goals as goal

pub returns-in-Choice-clause-writes : goal.returns-in-Choice-clause-writes
returns-in-Choice-clause-writes g c = rw c.in-Choice.is c.write-in-Choice.ensures.writes
