use Rattle.ceiling.proofs.Both.{enough}
use Rattle.ceiling.proofs.shape_for.Goals as goal

pub returns-clause-enough : goal.returns-clause-enough
returns-clause-enough g c = enough _ c.args.processes c.args.variables c.args.steps c.new.result c.new.ensures.words
