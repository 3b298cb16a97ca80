-- A report: a verdict line, and then the lines of a run's steps.
use Rattle.std.specs.Prelude.{ℕ, ◌+◌, List, [], ◌∷◌, length}
use Rattle.program.specs.Program.{lines_text}
use Rattle.worlds.specs.declared.records.Record.{Record}
use Rattle.runs.specs.declared.verdicts.Verdict.{Verdict}
use Rattle.runs.specs.declared.verdicts.Verdict.TheVariants.{More, Found, None}
use Rattle.replay.specs.Playing.{mark_number, record_fields}

abbrev pub verdict_number : Verdict → ℕ
verdict_number Found = 1
verdict_number None = 2
verdict_number More = 3

-- how many of the steps are switches
abbrev pub switches_in : List Record → ℕ
switches_in [] = 0
switches_in (r ∷ rs) = mark_number r.switch + switches_in rs

-- the numbers of the lines of steps, from step i on
abbrev pub numbered : ℕ → List Record → List (List ℕ)
numbered i [] = []
numbered i (r ∷ rs) = record_fields i r ∷ numbered (i + 1) rs

abbrev pub verdict_fields : Verdict → ℕ → ℕ → List ℕ
verdict_fields v steps switches = 0 ∷ (verdict_number v ∷ (steps ∷ (switches ∷ (0 ∷ (0 ∷ [])))))

abbrev pub report_lines : Verdict → List Record → List (List ℕ)
report_lines v rs = verdict_fields v (length rs) (switches_in rs) ∷ numbered 1 rs

abbrev pub report_text : Verdict → List Record → List ℕ
report_text v rs = lines_text (report_lines v rs)
