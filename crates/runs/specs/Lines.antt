-- A question line: seven fields, the memory, the two bounds and the four targets.
use Rattle.std.specs.Prelude.{ℕ, Bool, cond, List, [], ◌∷◌, length, take, drop, set, Some, None, Option, ◌==◌, slice_index}
use Rattle.std.specs.List.{list_all}
use Rattle.text.specs.Lines.{line_numbers}
use Rattle.memory.specs.declared.kinds.Kind.{Kind}
use Rattle.memory.specs.declared.kinds.Kind.TheVariants.{Sequential, ReleaseAcquire}
use Rattle.runs.specs.declared.lines.Wish.{Wish}

-- 0 is the sequential memory, 1 release-acquire
abbrev pub kind_of : ℕ → Option Kind
kind_of n = cond (n == 0) (Some Sequential) (cond (n == 1) (Some ReleaseAcquire) None)

-- the third field is four spaces
abbrev pub is_blank : List ℕ → Bool
is_blank line = list_all (λ b. b == 32) (take 4 (drop 8 line))

-- such a field stands for the number 2
abbrev pub filled : List ℕ → List ℕ
filled line = cond (is_blank line) (set line 11 50) line

abbrev pub wish_for : Option Kind → List ℕ → Option Wish
wish_for (Some memory) ns = Some (record {
  memory = memory;
  steps = slice_index ns 1;
  switches = slice_index ns 2;
  targets = slice_index ns 3 ∷ (slice_index ns 4 ∷ (slice_index ns 5 ∷ (slice_index ns 6 ∷ [])));
})
wish_for None ns = None

abbrev pub wish_by : Option (List ℕ) → Option Wish
wish_by (Some ns) = wish_for (kind_of (slice_index ns 0)) ns
wish_by None = None

-- what the bytes wish for, if they are a question line
abbrev pub wish_of : List ℕ → Option Wish
wish_of line = cond (length line == 29) (wish_by (line_numbers 7 (filled line))) None
