-- What the calls tell after any series of them, in a reader's words: over the relation "is a run within bounds" and the
-- list of these runs.
use Rattle.std.specs.Prelude.{◌≡◌, ℕ, ◌+◌, ◌*◌, ◌<◌, ◌≤◌, ◌⊎◌, ◌↔◌, List, ◌++◌, length, None, Ok, Err, Option, Result}
use Rattle.text.specs.Lines.{line_text}
use Rattle.text.specs.Writing.{over as written_over}
use Rattle.memory.specs.Machine.{Machine}
use Rattle.ceiling.specs.declared.moves.Move.{Move}
use Rattle.ceiling.specs.Programs.{opening}
use Rattle.program.specs.declared.refusals.Refusal.{Refusal as Unreadable}
use Rattle.program.specs.Program.{Program, lines_text, nothing}
use Rattle.program.specs.Source.{SaysOf}
use Rattle.worlds.specs.Worlds.{over}
use Rattle.runs.specs.declared.questions.Question.{Question}
use Rattle.runs.specs.declared.questions.Unasked.{Unasked}
use Rattle.runs.specs.declared.verdicts.Verdict.{Verdict}
use Rattle.runs.specs.declared.verdicts.Verdict.TheVariants as verdict
use Rattle.runs.specs.declared.verdicts.Worked.{Worked}
use Rattle.runs.specs.Askable.{Judges}
use Rattle.runs.specs.Asked.{system}
use Rattle.runs.specs.Listed.{geometric}
use Rattle.runs.specs.Runs.{switches_of}
use Rattle.runs.specs.Searches.{HasList, Tells}
use Rattle.replay.specs.declared.faults.Fault.{Fault}
use Rattle.replay.specs.declared.faults.Played.{Played}
use Rattle.replay.specs.Fields.{run_fields}
use Rattle.replay.specs.Written.{Answers, Says}
use Rattle.session.specs.declared.refusals.Refusal.{Refusal}
use Rattle.session.specs.declared.refusals.Refusal.TheVariants.{WorkUnasked, Effort, ReplayUnasked, ReportUnasked, Short}
use Rattle.session.specs.declared.standings.Stage.{Stage}
use Rattle.session.specs.declared.standings.Stage.TheVariants as stage
use Rattle.session.specs.declared.standings.Standing.{Standing}
use Rattle.session.specs.Contents.{Content, if_found}
use Rattle.session.specs.declared.steps.Step.{Step}
use Rattle.session.specs.Recited.{records_of, nth}
use Rattle.session.specs.Reports.{verdict_fields}
use Rattle.session.specs.Series.{Call, Book, blank, held, asked, booked}
use Rattle.session.specs.Outcomes.{as_question, as_run, as_table}
use Rattle.session.specs.Spent.{spent}

-- what is answered to a text, and the table then
abbrev pub LoadSays : List ℕ → Result (Unit {0}) Refusal → Content → Type 0
LoadSays text r c = (x : Result (Unit {0}) Unreadable) × (r ≡ as_table x) × SaysOf text x c.table

-- the table that calls leave, of which nothing was read before the first load that was accepted
abbrev pub table_of : Book → Program
table_of blank = nothing
table_of (held t) = t
table_of (asked t q E) = t

-- A question is put just if it can be asked of the table that the calls h leave; else what is told of it is wrong with it.
abbrev pub PutSays : List Call → ℕ → ℕ → List ℕ → Result (Unit {0}) Refusal → Type 0
PutSays h n k targets r = (x : Result (Unit {0}) Unasked) × (r ≡ as_question x) × Judges (table_of (booked h)) n k targets x

-- there is a question, about the table t with the effort E, and this holds of it
abbrev pub OfQuestion : Book → (Program → Question → ℕ → Type 0) → Type 0
OfQuestion blank P = ⊥
OfQuestion (held t) P = ⊥
OfQuestion (asked t q E) P = P t q E

-- there is a table, but no question; there is neither
abbrev pub OfTable : Book → Type 0
OfTable blank = ⊥
OfTable (held t) = Unit {0}
OfTable (asked t q E) = ⊥

abbrev pub OfNothing : Book → Type 0
OfNothing blank = Unit {0}
OfNothing (held t) = ⊥
OfNothing (asked t q E) = ⊥

-- the text stands at the front of the buffer, which was long enough; or it was shorter, and is as it was
abbrev pub Fills : List ℕ → List ℕ → Result ℕ Refusal → List ℕ → Type 0
Fills text out r new =
    ((length text ≤ length out) × (r ≡ Ok (length text)) × (new ≡ written_over text out))
    ⊎ ((length out < length text) × (r ≡ Err (Short (length text))) × (new ≡ out))

module _ {Config : Type 0} (m : Machine Config) where
  -- The report of the verdict v: its line, with the steps and switches of the found run, and that run as it is written.
  abbrev pub report_of : Program → Question → Verdict → List Move → List ℕ
  report_of t q v r =
      let w = opening m (over t) q.shape in
      line_text (verdict_fields v (length r) (switches_of (system m t) w r)) ++ lines_text (run_fields m t w 1 r)

  module _ (widest : ℕ) where
    -- What is known of a question once the efforts add up to E and the units to U: the verdict v and the run r.
    pub record Known (t : Program) (q : Question) (E U : ℕ) (v : Verdict) (r : List Move) : Type 0 where
      -- it is what the first E runs of the list show, and once settled a matter of the runs alone
      pub tells : Tells m t q E U v r
      -- of which there is exactly one, with at most 1 + x + .. + x ^ n runs, x being the processes times the widest offer
      pub list : HasList m t widest q
      pub few : U ≤ geometric (t.counts.processes * widest) q.steps
      -- once settled it is found just if some run within both bounds reaches the targets
      pub some : (v ≡ verdict.More → ⊥) → (v ≡ verdict.Found) ↔ ((s : List Move) × Answers m t q s)

    module _ (h : List Call) where
      -- of the question that is put this holds, with a run
      abbrev Shown : (Program → Question → ℕ → List Move → Type 0) → Type 0
      Shown P = OfQuestion (booked h) (λ t q E. (r : List Move) × P t q E r)

      -- A work is taken with an effort from 1 to a million; its own effort and units count already.
      pub record Taken (t : Program) (q : Question) (E e : ℕ) (r : Result Worked Refusal) : Type 0 where
        pub effort : (1 ≤ e) × (e ≤ 1000000)
        pub worked : Worked
        pub is : r ≡ Ok worked
        pub run : List Move
        pub known : Known t q (E + e) (spent m h + worked.units) worked.verdict run

      -- without a question there is no work, and none with an effort of 0 or above a million
      abbrev pub WorkBy : Book → ℕ → Result Worked Refusal → Type 0
      WorkBy blank e r = r ≡ Err WorkUnasked
      WorkBy (held t) e r = r ≡ Err WorkUnasked
      WorkBy (asked t q E) e r = Taken t q E e r ⊎ (((e ≡ 0) ⊎ (1000000 < e)) × (r ≡ Err Effort))

      abbrev pub WorkSays : ℕ → Result Worked Refusal → Type 0
      WorkSays e r = WorkBy (booked h) e r

      abbrev pub StageSays : Stage → ℕ → Type 0
      StageSays stage.New steps = OfNothing (booked h) × (steps ≡ 0)
      StageSays stage.Table steps = OfTable (booked h) × (steps ≡ 0)
      StageSays stage.Open steps = Shown (λ t q E r. Known t q E (spent m h) verdict.More r × (steps ≡ 0))
      StageSays stage.Found steps = Shown (λ t q E r. Known t q E (spent m h) verdict.Found r × (steps ≡ length r))
      StageSays stage.None steps = Shown (λ t q E r. Known t q E (spent m h) verdict.None r × (steps ≡ 0))

      abbrev pub StandingSays : Standing → Type 0
      StandingSays s = StageSays s.stage s.steps

      -- the step of the found run, if there is one; else there is none
      abbrev pub StepBy : Book → ℕ → Option Step → Type 0
      StepBy blank i o = o ≡ None
      StepBy (held t) i o = o ≡ None
      StepBy (asked t q E) i o =
          (v : Verdict) × (r : List Move) × Known t q E (spent m h) v r
          × (o ≡ nth i (records_of m t (opening m (over t) q.shape) (if_found v r)))

      abbrev pub StepSays : ℕ → Option Step → Type 0
      StepSays i o = StepBy (booked h) i o

      -- what is known of the question, and its report in the buffer
      pub record Reported (t : Program) (q : Question) (E : ℕ) (out : List ℕ) (r : Result ℕ Refusal) (new : List ℕ) : Type 0 where
        pub verdict : Verdict
        pub run : List Move
        pub known : Known t q E (spent m h) verdict run
        pub written : Fills (report_of t q verdict (if_found verdict run)) out r new

      -- what the buffer held, and what is answered and what it holds then; without a question there is no report
      abbrev pub ReportBy : Book → List ℕ → Result ℕ Refusal → List ℕ → Type 0
      ReportBy blank out r new = (r ≡ Err ReportUnasked) × (new ≡ out)
      ReportBy (held t) out r new = (r ≡ Err ReportUnasked) × (new ≡ out)
      ReportBy (asked t q E) out r new = Reported t q E out r new

      abbrev pub ReportSays : List ℕ → Result ℕ Refusal → List ℕ → Type 0
      ReportSays out r new = ReportBy (booked h) out r new

  -- A text is accepted exactly as the written form of a run within bounds that reaches the targets; without a question none is.
  abbrev pub ReplayBy : Book → List ℕ → Result Played Refusal → Type 0
  ReplayBy blank text r = r ≡ Err ReplayUnasked
  ReplayBy (held t) text r = r ≡ Err ReplayUnasked
  ReplayBy (asked t q E) text r = (x : Result Played Fault) × (r ≡ as_run x) × Says m t q text x

  abbrev pub ReplaySays : List Call → List ℕ → Result Played Refusal → Type 0
  ReplaySays h text r = ReplayBy (booked h) text r
