-- What was read so far, before what is still to be read. A loop that reads one element a turn keeps
-- `front read rest ≡ whole`, where rest is the definition at what is left.
use Rattle.std.proofs.Common.{◌≡◌, List, [], ◌∷◌, ◌++◌, Ok, Err, Result, sym, refl, ap, ◌∙◌, append_assoc, append-nil}
use Rattle.program.specs.Reading.{cons_to}

abbrev pub front : {A E : Type 0} → List A → Result (List A) E → Result (List A) E
front xs (Ok ys) = Ok (xs ++ ys)
front xs (Err e) = Err e

module _ {A E : Type 0} (xs : List A) where
  -- one element more
  pub front_push : (x : A) (rest : Result (List A) E) → front xs (cons_to (Ok x) rest) ≡ front (xs ++ (x ∷ [])) rest
  front_push x (Ok ys) = ap Ok (sym (append_assoc xs (x ∷ []) ys))
  front_push x (Err e) = refl

  pub front_more : (x : A) (r : Result A E) (rest : Result (List A) E) → Ok x ≡ r → front xs (cons_to r rest) ≡ front (xs ++ (x ∷ [])) rest
  front_more x r rest e = ap (λ (z : Result A E). front xs (cons_to z rest)) (sym e) ∙ front_push x rest

  -- a refusal, which ends it
  pub front_stop : (f : E) (r : Result A E) (rest : Result (List A) E) → Err f ≡ r → Err f ≡ front xs (cons_to r rest)
  front_stop f r rest e = ap (λ (z : Result A E). front xs (cons_to z rest)) e

  pub front_all : front {E = E} xs (Ok []) ≡ Ok xs
  front_all = ap Ok (append-nil xs)
