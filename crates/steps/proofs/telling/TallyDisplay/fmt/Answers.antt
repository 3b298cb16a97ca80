use Rattle.steps.proofs.telling.TallyDisplay.fmt.Goals as goal

pub returns-clause-writes : goal.returns-clause-writes
returns-clause-writes g c plain ok =
    simp (c.new-actions.ensures.count, c.new-actions.ensures.one, c.new-actions.ensures.many) at
    (simp (c.new-switches.ensures.count, c.new-switches.ensures.one, c.new-switches.ensures.many)
    at (c.writeln.ensures.writes plain ok))
