-- The parts of an input: a question line, a table, and after an empty line a written run.
use Rattle.std.specs.Prelude.{ℕ, Bool, true, cond, ◌&&◌, List, [], ◌∷◌, take, drop, ◌==◌}

-- what stands before the first empty line; the flag tells whether a line begins here
abbrev pub before_blank : Bool → List ℕ → List ℕ
before_blank begins [] = []
before_blank begins (c ∷ cs) = cond (begins && c == 10) [] (c ∷ before_blank (c == 10) cs)

-- and what follows it
abbrev pub after_blank : Bool → List ℕ → List ℕ
after_blank begins [] = []
after_blank begins (c ∷ cs) = cond (begins && c == 10) cs (after_blank (c == 10) cs)

abbrev pub question_part : List ℕ → List ℕ
question_part input = take 29 input

abbrev pub table_part : List ℕ → List ℕ
table_part input = before_blank true (drop 29 input)

abbrev pub run_part : List ℕ → List ℕ
run_part input = after_blank true (drop 29 input)
