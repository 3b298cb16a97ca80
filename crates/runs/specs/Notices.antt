-- Why a question is not asked, as it is told: number, place and the part that found it.
use Rattle.notice.specs.declared.Part.TheVariants as part
use Rattle.notice.specs.declared.Notice.{Notice}
use Rattle.runs.specs.declared.questions.Unasked.{Unasked}
use Rattle.runs.specs.declared.questions.Unasked.TheVariants.{NoTable, Bounds, Target}

abbrev pub notice : Unasked → Notice
notice NoTable = record { number = 21; place = 0; part = part.Question }
notice Bounds = record { number = 22; place = 0; part = part.Question }
notice (Target p) = record { number = 23; place = p; part = part.Question }
