-- What is printed for an input.
use Rattle.std.specs.Prelude.{ℕ, List, [], ◌∷◌, ◌++◌, Ok, Err, Result}
use Rattle.memory.specs.declared.shapes.Shape.{Shape}
use Rattle.memory.specs.Machine.{Machine}
use Rattle.memory.specs.Fences.{fenced}
use Rattle.memory.specs.Sequential as sequential
use Rattle.memory.specs.ReleaseAcquire as release_acquire
use Rattle.steps.specs.declared.outcomes.Tally.{Tally}
use Rattle.memory.specs.declared.kinds.Kind.{Kind}
use Rattle.memory.specs.declared.kinds.Kind.TheVariants.{Sequential, ReleaseAcquire}
use Rattle.steps.specs.declared.settings.Setting.{Setting}
use Rattle.steps.specs.declared.settings.Failing.{Failing}
use Rattle.steps.specs.Asking.{take_of}
use Rattle.steps.specs.Cutting.{Numbered, lines_of, numbered}
use Rattle.steps.specs.Outcomes.{outcome_of, config_of, no_tally, tallied}
use Rattle.steps.specs.Settings.{setting_of}
use Rattle.steps.specs.Words.{report_words, failing_words, tally_words}

-- What the lines print over a machine in a configuration, after the actions that were counted: a report of each, up to the first
-- that is refused or wrong, and then the numbers. The lines after that one stand on it, so they are not read.
abbrev pub performing : {Config : Type 0} → Machine Config → Config → Tally → List Numbered → List ℕ
performing m s t [] = tally_words t
performing m s t (l ∷ ls) =
    let o = outcome_of m s (take_of l.bytes) in
    report_words l.number o ++
    elim o [ Ok d ↦ performing m (config_of m s (take_of l.bytes)) (tallied t d) ls | Err e ↦ tally_words t ]

-- over a machine, from its start at a shape
abbrev pub started : {Config : Type 0} → Machine Config → Shape → List Numbered → List ℕ
started m shape ls = performing m (m.initial shape) no_tally ls

abbrev pub over : Kind → Shape → List Numbered → List ℕ
over Sequential shape ls = started (fenced sequential.machine) shape ls
over ReleaseAcquire shape ls = started (fenced release_acquire.machine) shape ls

abbrev pub replied : Result (Setting × List Numbered) Failing → List ℕ
replied (Ok p) = over p.0.kind p.0.shape p.1
replied (Err f) = failing_words f ++ tally_words no_tally

abbrev pub answered : List ℕ → List ℕ
answered bytes = replied (setting_of (numbered 0 (lines_of bytes)))
