use Rattle.memory.proofs.Shapings.{by_its_numbers}
use Rattle.memory.proofs.shapes.Shape.new.Goals as goal

pub returns-then-ceiling-le24-clause-value : goal.returns-then-ceiling-le24-clause-value
returns-then-ceiling-le24-clause-value c = by_its_numbers _
