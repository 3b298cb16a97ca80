-- What each call answers, and what a session holds then, by what it held before.
use Rattle.std.specs.Prelude.{ℕ, cond, List, [], ◌∷◌, length, Some, None, Ok, Err, Option, Result, nat_le}
use Rattle.text.specs.Writing.{over as written_over}
use Rattle.memory.specs.Machine.{Machine}
use Rattle.ceiling.specs.declared.moves.Move.{Move}
use Rattle.program.specs.declared.refusals.Refusal.{Refusal as Unreadable}
use Rattle.program.specs.Program.{Program, is_nothing, within}
use Rattle.program.specs.Reading.{read}
use Rattle.worlds.specs.declared.records.Record.{Record}
use Rattle.runs.specs.declared.questions.Question.{Question}
use Rattle.runs.specs.declared.questions.Unasked.{Unasked}
use Rattle.runs.specs.declared.verdicts.Verdict.{Verdict}
use Rattle.runs.specs.declared.verdicts.Verdict.TheVariants as verdict
use Rattle.runs.specs.declared.verdicts.Worked.{Worked}
use Rattle.runs.specs.Asked.{judged, question_by, root, system}
use Rattle.runs.specs.Look.{Look, look}
use Rattle.runs.specs.Runs.{is_run, rest}
use Rattle.runs.specs.Searches.{hits}
use Rattle.replay.specs.declared.faults.Fault.{Fault}
use Rattle.replay.specs.declared.faults.Played.{Played}
use Rattle.replay.specs.Playing.{played}
use Rattle.session.specs.declared.refusals.Refusal.{Refusal}
use Rattle.session.specs.declared.refusals.Refusal.TheVariants as refusal
use Rattle.session.specs.declared.standings.Stage.{Stage}
use Rattle.session.specs.declared.standings.Stage.TheVariants as stage
use Rattle.session.specs.declared.standings.Standing.{Standing}
use Rattle.session.specs.Contents.{Content, Inquiry, if_found, inquiry_at, steps_in}
use Rattle.session.specs.declared.steps.Step.{Step}
use Rattle.session.specs.Recited.{nth}
use Rattle.session.specs.Reports.{report_text}
use Rattle.session.specs.Series as call

-- load: a table that was read, with no question; or a refusal and what was held before
abbrev pub taken : Content → Result Program Unreadable → Result (Unit {0}) Refusal × Content
taken c (Ok t) = (Ok tt, record { table = t; inquiry = None })
taken c (Err why) = (Err (refusal.Table why), c)

abbrev pub loaded_in : Content → List ℕ → Result (Unit {0}) Refusal × Content
loaded_in c text = taken c (read text)

-- what reading, asking and playing answer, as a session's answer
abbrev pub as_table : {A : Type 0} → Result A Unreadable → Result (Unit {0}) Refusal
as_table (Ok t) = Ok tt
as_table (Err why) = Err (refusal.Table why)

abbrev pub as_question : Result (Unit {0}) Unasked → Result (Unit {0}) Refusal
as_question (Ok u) = Ok tt
as_question (Err why) = Err (refusal.Question why)

abbrev pub as_run : Result Played Fault → Result Played Refusal
as_run (Ok p) = Ok p
as_run (Err fault) = Err (refusal.Run fault)

-- put: the question of these numbers, open, at the first run; or a refusal and what was held before. A table that was read has a
-- shape for every question that is judged right, so that there is none does not occur.
abbrev pub put_with : Content → Result (Unit {0}) Unasked → Option Question → Result (Unit {0}) Refusal × Content
put_with c (Ok u) (Some q) = (Ok tt, record { table = c.table; inquiry = Some (record { question = q; verdict = verdict.More; run = [] }) })
put_with c (Ok u) None = (Ok tt, c)
put_with c (Err why) q = (Err (refusal.Question why), c)

abbrev pub put_in : Content → ℕ → ℕ → List ℕ → Result (Unit {0}) Refusal × Content
put_in c n k targets = put_with c (judged c.table n k targets) (question_by c.table n k targets)

-- what a look answers, and where it stops
abbrev pub looked : Question → Look → Worked × Inquiry
looked q l = (record { units = l.units; verdict = l.verdict }, inquiry_at q l)

-- no run is looked at
abbrev pub unlooked : Verdict → Inquiry → Worked × Inquiry
unlooked v i = (record { units = 0; verdict = v }, i)

module _ {Config : Type 0} (m : Machine Config) where
  -- A work with the effort e: it looks at the runs of the list from the one where the search stands on. One that has its answer
  -- stays as it is, and so does one that stands at no run of the table, to which no calls lead.
  abbrev pub works_by : Verdict → Program → Inquiry → ℕ → Worked × Inquiry
  works_by verdict.More t i e =
      let d = root m t i.question in
      cond (is_run (system m t) d.world i.run) (looked i.question (look (hits m t i.question) e (i.run ∷ rest (system m t) d i.run))) (unlooked verdict.More i)
  works_by verdict.Found t i e = unlooked verdict.Found i
  works_by verdict.None t i e = unlooked verdict.None i

  abbrev pub worked_with : Program → Worked × Inquiry → Result Worked Refusal × Content
  worked_with t w = (Ok w.0, record { table = t; inquiry = Some w.1 })

  -- work: there is no question, or no such effort, and what was held before; or what the work answers and leaves
  abbrev pub worked_by : Content → Option Inquiry → ℕ → Result Worked Refusal × Content
  worked_by c None e = (Err refusal.WorkUnasked, c)
  worked_by c (Some i) e = cond (within 1 1000000 e) (worked_with c.table (works_by i.verdict c.table i e)) (Err refusal.Effort, c)

  abbrev pub worked_in : Content → ℕ → Result Worked Refusal × Content
  worked_in c e = worked_by c c.inquiry e

  -- step, counted from 1
  abbrev pub stepped_in : Content → ℕ → Option Step
  stepped_in c i = nth i (steps_in m c)

  -- replay
  abbrev pub replayed_by : Program → Option Inquiry → List ℕ → Result Played Refusal
  replayed_by t (Some i) text = as_run (played m t i.question text)
  replayed_by t None text = Err refusal.ReplayUnasked

  abbrev pub replayed_in : Content → List ℕ → Result Played Refusal
  replayed_in c text = replayed_by c.table c.inquiry text

-- a text at the front of a buffer, or a refusal and the buffer as it was
abbrev pub put_out : List ℕ → List ℕ → Result ℕ Refusal × List ℕ
put_out text out =
    cond (nat_le (length text) (length out)) (Ok (length text), written_over text out) (Err (refusal.Short (length text)), out)

-- report, where the found run has these steps
abbrev pub reported_by : Option Inquiry → List Record → List ℕ → Result ℕ Refusal × List ℕ
reported_by (Some i) records out = put_out (report_text i.verdict records) out
reported_by None records out = (Err refusal.ReportUnasked, out)

abbrev pub reported_in : {Config : Type 0} → Machine Config → Content → List ℕ → Result ℕ Refusal × List ℕ
reported_in m c out = reported_by c.inquiry (steps_in m c) out

-- standing
abbrev pub stage_by : Verdict → Stage
stage_by verdict.More = stage.Open
stage_by verdict.Found = stage.Found
stage_by verdict.None = stage.None

abbrev pub stand_by : Verdict → List Move → Standing
stand_by v r = record { stage = stage_by v; steps = length (if_found v r) }

abbrev pub standing_by : Program → Option Inquiry → Standing
standing_by t (Some i) = stand_by i.verdict i.run
standing_by t None = record { stage = cond (is_nothing t) stage.New stage.Table; steps = 0 }

abbrev pub standing_in : Content → Standing
standing_in c = standing_by c.table c.inquiry

-- what a session holds after a call; standing, step, replay and report leave it
abbrev pub content_next : {Config : Type 0} → Machine Config → Content → call.Call → Content
content_next m c (call.load text) = (loaded_in c text).1
content_next m c (call.put n k targets) = (put_in c n k targets).1
content_next m c (call.work e) = (worked_in m c e).1
content_next m c call.standing = c
content_next m c (call.step i) = c
content_next m c (call.replay text) = c
content_next m c (call.report out) = c

-- and after a series of calls
abbrev pub content_after : {Config : Type 0} → Machine Config → Content → List call.Call → Content
content_after m c [] = c
content_after m c (k ∷ h) = content_after m (content_next m c k) h
