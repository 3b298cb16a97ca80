-- What an accepted outcome says of its parts.
use Rattle.std.proofs.Common.{◌≡◌, ℕ, Bool, true, false, cond, ◌⊎◌, List, ◌∷◌, Some, None, Ok, Err, Option, Result, sym, refl, inl, inr, arith}
use Rattle.std.specs.Option.{ok_or}
use Rattle.program.specs.Reading.{cons_to, then_do}

-- an outcome is not both
pub not_both : {A E Z : Type 0} (e : E) (a : A) → ◌≡◌ {A = Result A E} (Err e) (Ok a) → Z
not_both e a h = let z : ◌≡◌ {A = ℕ} 0 1 = cc in let y : ⊥ = omega arith in elim y [ ]

module _ {A E : Type 0} where
  pub cons_ok : (r : Result A E) (rs : Result (List A) E) (xs : List A) → cons_to r rs ≡ Ok xs → (x : A) × (ys : List A) × (r ≡ Ok x) × (rs ≡ Ok ys) × (xs ≡ x ∷ ys)
  cons_ok (Ok x) (Ok ys) xs h = (x, ys, refl, refl, cc)
  cons_ok (Ok x) (Err e) xs h = not_both e xs h
  cons_ok (Err e) rs xs h = not_both e xs h

  pub then_ok : {B : Type 0} (r : Result A E) (f : A → Result B E) (b : B) → then_do r f ≡ Ok b → (a : A) × (r ≡ Ok a) × (f a ≡ Ok b)
  then_ok (Ok a) f b h = (a, refl, h)
  then_ok (Err e) f b h = not_both e b h

  pub or_ok : (o : Option A) (e : E) (a : A) → ok_or o e ≡ Ok a → o ≡ Some a
  or_ok (Some x) e a h = cc
  or_ok None e a h = not_both e a h

  pub cond_ok : (t : Bool) (r : Result A E) (e : E) (a : A) → cond t r (Err e) ≡ Ok a → (t ≡ true) × (r ≡ Ok a)
  cond_ok true r e a h = (refl, h)
  cond_ok false r e a h = not_both e a h

  pub cond_else : (t : Bool) (e : E) (a b : A) → cond t (Err e) (Ok a) ≡ Ok b → t ≡ false
  cond_else true e a b h = not_both e b h
  cond_else false e a b h = refl

  -- what a refused outcome says of its parts
  pub cons_err : (r : Result A E) (rs : Result (List A) E) (e : E) → cons_to r rs ≡ Err e → (r ≡ Err e) ⊎ ((x : A) × (r ≡ Ok x) × (rs ≡ Err e))
  cons_err (Ok x) (Ok ys) e h = not_both e (x ∷ ys) (sym h)
  cons_err (Ok x) (Err f) e h = inr (x, refl, cc)
  cons_err (Err f) rs e h = inl (cc)

  pub then_err : {B : Type 0} (r : Result A E) (f : A → Result B E) (e : E) → then_do r f ≡ Err e → (r ≡ Err e) ⊎ ((a : A) × (r ≡ Ok a) × (f a ≡ Err e))
  then_err (Ok a) f e h = inr (a, refl, h)
  then_err (Err d) f e h = inl (cc)

  pub or_err : (o : Option A) (d e : E) → ok_or o d ≡ Err e → (o ≡ None) × (d ≡ e)
  or_err (Some x) d e h = not_both e x (sym h)
  or_err None d e h = (refl, cc)

  pub cond_err : (t : Bool) (r : Result A E) (d e : E) → cond t r (Err d) ≡ Err e → ((t ≡ false) × (d ≡ e)) ⊎ ((t ≡ true) × (r ≡ Err e))
  cond_err true r d e h = inr (refl, h)
  cond_err false r d e h = inl (refl, cc)

  pub cond_then : (t : Bool) (d e : E) (a : A) → cond t (Err d) (Ok a) ≡ Err e → (t ≡ true) × (d ≡ e)
  cond_then true d e a h = (refl, cc)
  cond_then false d e a h = not_both e a (sym h)
