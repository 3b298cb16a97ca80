-- A number of things, by their name for one and for more.
use Rattle.std.specs.Prelude.{ℕ, cond, List, ◌++◌, codes, decimal, ◌==◌}

abbrev pub amount_words : ℕ → List ℕ → List ℕ → List ℕ
amount_words n one many = decimal n ++ (codes " " ++ cond (n == 1) one many)
