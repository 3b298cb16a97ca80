-- Functions from numbers, changed at one number.
use Rattle.std.specs.Prelude.{ℕ, cond, ◌==◌}

-- f, but for a at i
abbrev pub update : {A : Type 0} → (ℕ → A) → ℕ → A → ℕ → A
update f i a = λ j. cond (j == i) a (f j)
