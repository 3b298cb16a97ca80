-- What a program does between a reader and a writer.
use Rattle.std.specs.Prelude.{◌≤◌, ◌⊎◌, List, length, take, ℕ, Option, Result, MatchResult, IfSome}
use Rattle.std.specs.Io.KnownBytes.{Appends, Consumes, Keeps}

-- Of the bytes that a reader says it has left, at most so many of the first were taken, and the others are left.
abbrev pub TakenAtMost : ℕ → Option (List ℕ) → Option (List ℕ) → Type 0
TakenAtMost most old new = (bytes : List ℕ) × (length bytes ≤ most) × Consumes old new bytes

-- The writer has grown by a front of a text, which may be nothing or all of it.
abbrev pub AppendsFront : Option (List ℕ) → Option (List ℕ) → List ℕ → Type 0
AppendsFront old new text = (n : ℕ) × Appends old new (take n text)

-- On Ok the writer has grown by a text, and at an error by a front of it.
abbrev pub Writes : {E : Type 0} → Option (List ℕ) → Option (List ℕ) → Result (Unit {0}) E → List ℕ → Type 0
Writes old new result text = MatchResult result (λ _. Appends old new text) (λ _. AppendsFront old new text)

-- Whatever bytes the reader says it has left, on Ok the writer has grown by a text that belongs to them, and by nothing else. At an
-- error it holds what it held, or has grown by a front of such a text.
abbrev pub Serves : {E : Type 0} → (List ℕ → List ℕ → Type 0) → Option (List ℕ) → Option (List ℕ) → Option (List ℕ) → Result (Unit {0}) E
    → Type 0
Serves Belongs left old new result = MatchResult result
    (λ _. IfSome left (λ given. (text : List ℕ) × Belongs given text × Appends old new text))
    (λ _. Keeps old new ⊎ IfSome left (λ given. (text : List ℕ) × Belongs given text × AppendsFront old new text))
