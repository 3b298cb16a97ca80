-- What each call answers, by what the calls before it amount to.
use Rattle.std.specs.Prelude.{ℕ, ◌+◌, ◌-◌, cond, List, None, Ok, Err, Option, Result}
use Rattle.memory.specs.Machine.{Machine}
use Rattle.ceiling.specs.declared.moves.Move.{Move}
use Rattle.ceiling.specs.Programs.{opening}
use Rattle.program.specs.Program.{Program, within}
use Rattle.program.specs.Reading.{read}
use Rattle.worlds.specs.declared.records.Record.{Record}
use Rattle.worlds.specs.Worlds.{over}
use Rattle.runs.specs.declared.questions.Question.{Question}
use Rattle.runs.specs.declared.questions.Unasked.TheVariants.{NoTable}
use Rattle.runs.specs.declared.verdicts.Worked.{Worked}
use Rattle.runs.specs.Asked.{judged}
use Rattle.runs.specs.First.{front}
use Rattle.runs.specs.Look.{Look}
use Rattle.runs.specs.Searches.{shown}
use Rattle.replay.specs.declared.faults.Played.{Played}
use Rattle.replay.specs.Playing.{played}
use Rattle.session.specs.declared.refusals.Refusal.{Refusal}
use Rattle.session.specs.declared.refusals.Refusal.TheVariants as refusal
use Rattle.session.specs.declared.standings.Stage.TheVariants as stage
use Rattle.session.specs.declared.standings.Standing.{Standing}
use Rattle.session.specs.Contents.{if_found}
use Rattle.session.specs.Outcomes.{as_question, as_run, as_table, put_out, stand_by}
use Rattle.session.specs.declared.steps.Step.{Step}
use Rattle.session.specs.Recited.{records_of, nth}
use Rattle.session.specs.Reports.{report_text}
use Rattle.session.specs.Series.{Book, blank, held, asked}

abbrev pub loaded : Book → List ℕ → Result (Unit {0}) Refusal
loaded b text = as_table (read text)

abbrev pub opened : Book → ℕ → ℕ → List ℕ → Result (Unit {0}) Refusal
opened blank n k targets = Err (refusal.Question NoTable)
opened (held t) n k targets = as_question (judged t n k targets)
opened (asked t q E) n k targets = as_question (judged t n k targets)

-- the run that is found once so much is shown
abbrev pub found_run : Look → List Move
found_run l = if_found l.verdict (front l.left)

-- what works have shown since
abbrev pub added : Look → Look → Worked
added before after = record { units = after.units - before.units; verdict = after.verdict }

module _ {Config : Type 0} (m : Machine Config) where
  -- the steps of that run
  abbrev pub found_steps : Program → Question → Look → List Record
  found_steps t q l = records_of m t (opening m (over t) q.shape) (found_run l)

  abbrev pub worked : Book → ℕ → Result Worked Refusal
  worked blank e = Err refusal.WorkUnasked
  worked (held t) e = Err refusal.WorkUnasked
  worked (asked t q E) e = cond (within 1 1000000 e) (Ok (added (shown m t q E) (shown m t q (E + e)))) (Err refusal.Effort)

  abbrev pub stood : Book → Standing
  stood blank = record { stage = stage.New; steps = 0 }
  stood (held t) = record { stage = stage.Table; steps = 0 }
  stood (asked t q E) = let l = shown m t q E in stand_by l.verdict (front l.left)

  abbrev pub stepped : Book → ℕ → Option Step
  stepped blank i = None
  stepped (held t) i = None
  stepped (asked t q E) i = nth i (found_steps t q (shown m t q E))

  abbrev pub replayed : Book → List ℕ → Result Played Refusal
  replayed blank text = Err refusal.ReplayUnasked
  replayed (held t) text = Err refusal.ReplayUnasked
  replayed (asked t q E) text = as_run (played m t q text)

  -- the text of a report
  abbrev pub text_after : Program → Question → ℕ → List ℕ
  text_after t q E = let l = shown m t q E in report_text l.verdict (found_steps t q l)

  -- what is answered, and what the buffer holds then
  abbrev pub reported : Book → List ℕ → Result ℕ Refusal × List ℕ
  reported blank out = (Err refusal.ReportUnasked, out)
  reported (held t) out = (Err refusal.ReportUnasked, out)
  reported (asked t q E) out = put_out (text_after t q E) out
