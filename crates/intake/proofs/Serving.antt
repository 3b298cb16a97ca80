-- What is written for the bytes that were read belongs to all that the reader had left, wherever what belongs to such a front of them
-- belongs to them.
use Rattle.std.proofs.Common.{◌≡◌, ◌+◌, ℕ, List, ◌++◌, length, min, take, Ok, Err, inr, Option, Some, None, Result, IfSome, arith, sym, subst}
use Rattle.std.proofs.lemmas.Grind.{common_steps}
use Rattle.std.proofs.Math.Seq.{take-append-add}
use Rattle.std.specs.Io.KnownBytes.{Appends}
use Rattle.std.proofs.KnownBytes.{Appends-trans}
use Rattle.intake.specs.Serving.{AppendsFront, Serves, Writes}

pub served : {E : Type 0} (front : List ℕ → List ℕ) (Belongs : List ℕ → List ℕ → Type 0)
    → ((given text : List ℕ) → Belongs (front given) text → Belongs given text)
    → (left old new : Option (List ℕ)) (r : Result (Unit {0}) E) (items text : List ℕ)
    → IfSome left (λ given. items ≡ front given) → Belongs items text → Writes old new r text → Serves Belongs left old new r
served front Belongs all None old new (Err e) items text read told h = inr tt
served front Belongs all None old new (Ok u) items text read told h = tt
served front Belongs all (Some given) old new (Err e) items text read told h =
    inr (text, all given text (subst (λ xs. Belongs xs text) read told), h)
served front Belongs all (Some given) old new (Ok u) items text read told h =
    (text, all given text (subst (λ xs. Belongs xs text) read told), h)

-- ---- a text that is written piece by piece

pub front_of_first : (old new : Option (List ℕ)) (first rest : List ℕ) → AppendsFront old new first → AppendsFront old new (first ++ rest)
front_of_first old new first rest (n, h) =
    let same : take (min n (length first)) (first ++ rest) ≡ take n first = grind (arith, common_steps) in
    (min n (length first), subst (Appends old new) (sym same) h)

pub front_after : (old mid new : Option (List ℕ)) (first rest : List ℕ) → Appends old mid first → AppendsFront mid new rest
    → AppendsFront old new (first ++ rest)
front_after old mid new first rest h (n, more) =
    (length first + n, subst (Appends old new) (sym (take-append-add first rest n)) (Appends-trans old mid new first (take n rest) h more))

pub writes_after : {E : Type 0} (old mid new : Option (List ℕ)) (r : Result (Unit {0}) E) (first rest : List ℕ) → Appends old mid first
    → Writes mid new r rest → Writes old new r (first ++ rest)
writes_after old mid new (Ok u) first rest h more = Appends-trans old mid new first rest h more
writes_after old mid new (Err e) first rest h more = front_after old mid new first rest h more
