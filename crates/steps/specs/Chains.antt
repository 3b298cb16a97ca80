-- One step after another, where the first gives a value, and what the code's pairs of a value and a rest stand for.
use Rattle.std.specs.Prelude.{ℕ, List, Some, None, Ok, Err, Option, Result}
use Rattle.std.specs.Borrow.{Bor}

abbrev pub then : {X Y : Type 0} → Option X → (X → Option Y) → Option Y
then None f = None
then (Some x) f = f x

abbrev pub onward : {X Y E : Type 0} → Result X E → (X → Result Y E) → Result Y E
onward (Ok x) f = f x
onward (Err e) f = Err e

abbrev pub plain : {X : Type 0} → X × Bor (List ℕ) → X × List ℕ
plain p = (p.0, p.1.now)

abbrev pub same : {X : Type 0} → X → X
same x = x

-- a value, and what is left of a list after it was read
abbrev pub rejoined : {X Y E : Type 0} → Result X E → List Y → Result (X × List Y) E
rejoined (Ok x) ys = Ok (x, ys)
rejoined (Err e) ys = Err e
