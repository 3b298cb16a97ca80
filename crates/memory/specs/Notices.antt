-- A memory's own refusal, as it is told: the number under which playing a run tells it, no place, and the memory as the part.
use Rattle.notice.specs.declared.Part.TheVariants as part
use Rattle.notice.specs.declared.Notice.{Notice}
use Rattle.memory.specs.declared.actions.NotOffered.{NotOffered}

abbrev pub notice : NotOffered → Notice
notice refused = record { number = 53; place = 0; part = part.Memory }
