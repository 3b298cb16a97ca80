-- A text cut at a byte: its lines, and the words of a line.
use Rattle.std.specs.Prelude.{ℕ, ◌+◌, cond, List, [], ◌∷◌, length, take, drop, Some, None, Option, ◌==◌}
use Rattle.std.specs.Str.{bytes_eq}
use Rattle.steps.specs.Chains.{then}

-- what stands before the first byte e
abbrev pub front : ℕ → List ℕ → List ℕ
front e [] = []
front e (c ∷ cs) = cond (c == e) [] (c ∷ front e cs)

-- what follows from there, with that byte
abbrev pub back : ℕ → List ℕ → List ℕ
back e [] = []
back e (c ∷ cs) = cond (c == e) (c ∷ cs) (back e cs)

-- what follows a beginning of the text
abbrev pub after : List ℕ → List ℕ → Option (List ℕ)
after start s = cond (bytes_eq (take (length start) s) start) (Some (drop (length start) s)) None

-- the word after a beginning, as it is read, and what follows it
abbrev pub word_after : {X : Type 0} → List ℕ → (List ℕ → Option X) → List ℕ → Option (X × List ℕ)
word_after start read s = then (after start s) (λ r. then (read (front 32 r)) (λ x. Some (x, back 32 r)))

-- a byte in front of the first line
abbrev pub begun : ℕ → List (List ℕ) → List (List ℕ)
begun c [] = (c ∷ []) ∷ []
begun c (l ∷ ls) = (c ∷ l) ∷ ls

-- the lines of a text: byte 10 ends each, and the last may lack it
abbrev pub lines_of : List ℕ → List (List ℕ)
lines_of [] = []
lines_of (c ∷ cs) = cond (c == 10) ([] ∷ lines_of cs) (begun c (lines_of cs))

-- a line with its number
pub record Numbered : Type 0 where
  pub number : ℕ
  pub bytes : List ℕ

-- the lines that are not empty, where n lines are before them
abbrev pub numbered : ℕ → List (List ℕ) → List Numbered
numbered n [] = []
numbered n ([] ∷ ls) = numbered (n + 1) ls
numbered n ((c ∷ cs) ∷ ls) = record { number = n + 1; bytes = c ∷ cs } ∷ numbered (n + 1) ls
