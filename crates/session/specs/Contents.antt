-- What a session holds, as a value. The configuration of its memory is no part of it.
use Rattle.std.specs.Prelude.{List, [], Some, None, Option}
use Rattle.memory.specs.Machine.{Machine}
use Rattle.ceiling.specs.declared.moves.Move.{Move}
use Rattle.ceiling.specs.Programs.{opening}
use Rattle.program.specs.Program.{Program}
use Rattle.program.specs.Tables.{program}
use Rattle.worlds.specs.declared.records.Record.{Record}
use Rattle.worlds.specs.Worlds.{over}
use Rattle.runs.specs.declared.questions.Question.{Question}
use Rattle.runs.specs.declared.searches.Search.{Search}
use Rattle.runs.specs.declared.verdicts.Verdict.{Verdict}
use Rattle.runs.specs.declared.verdicts.Verdict.TheVariants as verdict
use Rattle.runs.specs.First.{front}
use Rattle.runs.specs.Look.{Look}
use Rattle.runs.specs.Paths.{path}
use Rattle.session.specs.declared.sessions.Session.{Session}
use Rattle.session.specs.Recited.{recited}

-- A question that was put, what is known of it, and the run where its search stands: the next one to look at, or the one that
-- was found; after the last run it stands at the run of no moves.
pub record Inquiry : Type 0 where
  pub question : Question
  pub verdict : Verdict
  pub run : List Move

-- the program that was read, if one was, and the question, if there is one
pub record Content : Type 0 where
  pub table : Program
  pub inquiry : Option Inquiry

-- what a look shows of a question, and where it stops; after the last run that is the run of no moves
abbrev pub inquiry_at : Question → Look → Inquiry
inquiry_at q l = record { question = q; verdict = l.verdict; run = front l.left }

abbrev pub inquiry_of : Search → Inquiry
inquiry_of s = record { question = s.question; verdict = s.verdict; run = path s.run }

abbrev pub inquiry_in : Option Search → Option Inquiry
inquiry_in (Some s) = Some (inquiry_of s)
inquiry_in None = None

abbrev pub content : {X : Type 0} → Session X → Content
content s = record { table = program s.table; inquiry = inquiry_in s.search }

-- a run, where it is the found one
abbrev pub if_found : Verdict → List Move → List Move
if_found verdict.Found r = r
if_found verdict.None r = []
if_found verdict.More r = []

abbrev pub steps_by : {Config : Type 0} → Machine Config → Program → Option Inquiry → List Record
steps_by m t (Some i) = recited m t (opening m (over t) i.question.shape) (if_found i.verdict i.run)
steps_by m t None = []

-- the steps of the found run, none without one
abbrev pub steps_in : {Config : Type 0} → Machine Config → Content → List Record
steps_in m c = steps_by m c.table c.inquiry
