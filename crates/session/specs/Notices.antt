-- A refusal as it is told: number, place and the part that found it.
use Rattle.std.specs.Prelude.{ℕ}
use Rattle.notice.specs.declared.Part.TheVariants as part
use Rattle.notice.specs.declared.Part.{Part}
use Rattle.notice.specs.declared.Notice.{Notice}
use Rattle.program.specs.Refusals as table
use Rattle.runs.specs.Notices as question
use Rattle.replay.specs.Notices as run
use Rattle.session.specs.declared.refusals.Refusal.{Refusal}
use Rattle.session.specs.declared.refusals.Refusal.TheVariants.{Table, Question, WorkUnasked, Effort, ReplayUnasked, Run, ReportUnasked, Short, Input, QuestionLine, Buffer}

abbrev pub placeless : ℕ → Part → Notice
placeless n p = record { number = n; place = 0; part = p }

abbrev pub notice : Refusal → Notice
notice (Table why) = table.notice why
notice (Question why) = question.notice why
notice WorkUnasked = placeless 31 part.Question
notice Effort = placeless 32 part.Question
notice ReplayUnasked = placeless 41 part.Question
notice (Run fault) = run.notice fault
notice ReportUnasked = placeless 61 part.Question
notice (Short needed) = placeless 62 part.Question
notice Input = placeless 71 part.Text
notice QuestionLine = placeless 72 part.Text
notice Buffer = placeless 73 part.Question
