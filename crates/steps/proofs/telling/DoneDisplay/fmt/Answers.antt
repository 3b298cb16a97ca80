use Rattle.steps.proofs.telling.DoneDisplay.fmt.Goals as goal

pub returns-clause-writes : goal.returns-clause-writes
returns-clause-writes g c = rw (← c.mark-mark.ensures) c.write.ensures.writes
