-- When a question can be asked of a table, and why it is not, in a reader's words.
use Rattle.std.specs.Prelude.{◌≡◌, ℕ, ◌-◌, ◌<◌, ◌≤◌, ◌⊎◌, true, false, List, Ok, Err, Result, slice_index}
use Rattle.program.specs.Program.{Program, is_nothing, labels_of}
use Rattle.runs.specs.declared.questions.Unasked.{Unasked}
use Rattle.runs.specs.declared.questions.Unasked.TheVariants.{NoTable, Bounds, Target}

module _ (t : Program) (n k : ℕ) (targets : List ℕ) where
  -- the target of process p
  abbrev pub target : ℕ → ℕ
  target p = slice_index targets (p - 1)

  -- It is 0 or one of the labels of p, which run 1, 2, 3 and so on; a process that the table does not have has none.
  abbrev pub Aims : ℕ → Type 0
  Aims p = target p ≤ labels_of t.rows p

  -- a table was read, the bounds are at most 24, and each target is right
  pub record Askable : Type 0 where
    pub read : is_nothing t ≡ false
    pub steps : n ≤ 24
    pub switches : k ≤ 24
    pub aims : (p : ℕ) → 1 ≤ p → Aims p

  -- all that is looked at before the bounds is right, and a bound is not
  pub record Beyond : Type 0 where
    pub read : is_nothing t ≡ false
    pub bound : (24 < n) ⊎ (24 < k)

  -- all that is looked at before the target of p is right, and that is above the labels of p
  pub record Astray (p : ℕ) : Type 0 where
    pub read : is_nothing t ≡ false
    pub steps : n ≤ 24
    pub switches : k ≤ 24
    pub lower : (q : ℕ) → 1 ≤ q → q < p → Aims q
    pub process : 1 ≤ p
    pub above : labels_of t.rows p < target p

  abbrev pub Wrong : Unasked → Type 0
  Wrong NoTable = is_nothing t ≡ true
  Wrong Bounds = Beyond
  Wrong (Target p) = Astray p

  -- what is answered says so
  abbrev pub Judges : {A : Type 0} → Result A Unasked → Type 0
  Judges (Ok x) = Askable
  Judges (Err why) = Wrong why
