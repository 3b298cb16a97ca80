-- The units that works have reported since the last question was put.
use Rattle.std.specs.Prelude.{ℕ, ◌+◌, List, [], ◌∷◌, Ok, Err, Result}
use Rattle.memory.specs.Machine.{Machine}
use Rattle.runs.specs.declared.verdicts.Worked.{Worked}
use Rattle.session.specs.declared.refusals.Refusal.{Refusal}
use Rattle.session.specs.Series.{Call, Book, load, put, work, standing, step, replay, report, next, blank}
use Rattle.session.specs.Answers.{loaded, opened, worked}

-- none where a table or a question is accepted
abbrev pub afresh : ℕ → Result (Unit {0}) Refusal → ℕ
afresh u (Ok x) = 0
afresh u (Err why) = u

abbrev pub reported_units : Result Worked Refusal → ℕ
reported_units (Ok w) = w.units
reported_units (Err why) = 0

module _ {Config : Type 0} (m : Machine Config) where
  -- after u units and a call more
  abbrev pub spends : Book → ℕ → Call → ℕ
  spends b u (load text) = afresh u (loaded b text)
  spends b u (put n k targets) = afresh u (opened b n k targets)
  spends b u (work e) = u + reported_units (worked m b e)
  spends b u standing = u
  spends b u (step i) = u
  spends b u (replay text) = u
  spends b u (report out) = u

  abbrev pub spent_from : Book → ℕ → List Call → ℕ
  spent_from b u [] = u
  spent_from b u (c ∷ h) = spent_from (next b c) (spends b u c) h

  abbrev pub spent : List Call → ℕ
  spent h = spent_from blank 0 h
