-- A question line in a reader's words: what its seven numbers wish for.
use Rattle.std.specs.Prelude.{◌≡◌, ℕ, List, [], ◌∷◌, ◌++◌, length, Some, None, Option, ◌⊎◌}
use Rattle.text.specs.Lines.{field_text, line_text, Small}
use Rattle.memory.specs.declared.kinds.Kind.{Kind}
use Rattle.memory.specs.declared.kinds.Kind.TheVariants.{Sequential, ReleaseAcquire}
use Rattle.runs.specs.declared.lines.Wish.{Wish}

-- 0 is the sequential memory, 1 release-acquire
abbrev pub memory_number : Kind → ℕ
memory_number Sequential = 0
memory_number ReleaseAcquire = 1

-- the numbers of a wish, in the order of a line
abbrev pub numbers_of : Wish → List ℕ
numbers_of w = memory_number w.memory ∷ (w.steps ∷ (w.switches ∷ w.targets))

-- four targets, and every number is at most 9999
abbrev pub Fits : Wish → Type 0
Fits w = (length w.targets ≡ 4) × Small (numbers_of w)

-- the line of a wish: the fields of its seven numbers and a byte 10
abbrev pub full_line : Wish → List ℕ
full_line w = line_text (numbers_of w)

-- a field of four spaces
abbrev pub blank : List ℕ
blank = 32 ∷ (32 ∷ (32 ∷ (32 ∷ [])))

-- the same line with its third field blank
abbrev pub blank_line : Wish → List ℕ
blank_line w = field_text (memory_number w.memory) ++ (field_text w.steps ++ (blank ++ line_text w.targets))

-- The line is that of the wish; or its third field is blank, which stands for a switch bound of 2.
abbrev pub LineOf : Wish → List ℕ → Type 0
LineOf w line = Fits w × ((line ≡ full_line w) ⊎ ((w.switches ≡ 2) × (line ≡ blank_line w)))

-- A line that is read is that of the wish, and of no other; one that is not read is that of no wish.
abbrev pub Says : List ℕ → Option Wish → Type 0
Says line (Some w) = LineOf w line × ((v : Wish) → LineOf v line → v ≡ w)
Says line None = (w : Wish) → LineOf w line → ⊥
