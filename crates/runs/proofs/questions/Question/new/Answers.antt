use Rattle.program.specs.Tables.{program}
use Rattle.runs.proofs.Judged.{told}
use Rattle.runs.proofs.questions.Question.new.Goals as goal

pub returns-clause-words : goal.returns-clause-words
returns-clause-words c = told (program c.args.table.now) c.args.steps c.args.switches c.args.targets c.judge.result c.judge.ensures.outcome
