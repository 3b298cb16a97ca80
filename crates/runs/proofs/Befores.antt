-- The order of the runs by clauses: it is the order as it is said, and it is total.
use Rattle.std.proofs.Common.{◌≡◌, ◌<◌, ◌⊎◌, List, [], ◌∷◌, ◌++◌, sym, refl, ap, ◌∙◌, subst, subst₂, inl, inr, arith}
use Rattle.std.proofs.lemmas.Bool.{cases_order}
use Rattle.ceiling.specs.declared.moves.Move.{Move}
use Rattle.runs.specs.Listed.{Lower, Before}

-- r comes before s, move by move
abbrev pub Sooner : List Move → List Move → Type 0
Sooner [] [] = ⊥
Sooner [] (b ∷ s) = Unit {0}
Sooner (a ∷ r) [] = ⊥
Sooner (a ∷ r) (b ∷ s) = Lower a b ⊎ ((a ≡ b) × Sooner r s)

pub sooner_extends : (r : List Move) (m : Move) (t : List Move) → Sooner r (r ++ (m ∷ t))
sooner_extends [] m t = tt
sooner_extends (x ∷ r) m t = inr (refl, sooner_extends r m t)

-- moves in common change nothing
pub sooner_common : (common r s : List Move) → Sooner r s → Sooner (common ++ r) (common ++ s)
sooner_common [] r s h = h
sooner_common (x ∷ common) r s h = inr (refl, sooner_common common r s h)

pub sooner_from_before : (r s : List Move) → Before r s → Sooner r s
sooner_from_before r s (inl (m, t, e)) = subst (Sooner r) (sym e) (sooner_extends r m t)
sooner_from_before r s (inr (common, a, t, b, u, e, f, l)) = subst₂ Sooner (sym e) (sym f) (sooner_common common (a ∷ t) (b ∷ u) (inl l))

-- behind one more move in common the order is as it was
before_more : (a b : Move) (r s : List Move) → a ≡ b → Before r s → Before (a ∷ r) (b ∷ s)
before_more a b r s e (inl (m, t, f)) = inl (m, t, cc)
before_more a b r s e (inr (common, x, t, y, u, f, g, l)) = inr (a ∷ common, x, t, y, u, ap (λ (k : List Move). a ∷ k) f, cc, l)

pub before_from_sooner : (r s : List Move) → Sooner r s → Before r s
before_from_sooner [] [] h = absurd h
before_from_sooner [] (b ∷ s) h = inl (b, s, refl)
before_from_sooner (a ∷ r) [] h = absurd h
before_from_sooner (a ∷ r) (b ∷ s) (inl l) = inr ([], a, r, b, s, refl, refl, l)
before_from_sooner (a ∷ r) (b ∷ s) (inr h) = before_more a b r s h.0 (before_from_sooner r s h.1)

lower_never : (m : Move) → Lower m m → ⊥
lower_never m h = omega arith

lower_through : (a b c : Move) → Lower a b → Lower b c → Lower a c
lower_through a b c (inl h) (inl k) = inl (omega arith)
lower_through a b c (inl h) (inr k) = inl (omega arith)
lower_through a b c (inr h) (inl k) = inl (omega arith)
lower_through a b c (inr h) (inr k) = inr (omega arith, omega arith)

pub sooner_never : (r : List Move) → Sooner r r → ⊥
sooner_never [] h = h
sooner_never (m ∷ r) (inl h) = lower_never m h
sooner_never (m ∷ r) (inr h) = sooner_never r h.1

pub sooner_through : (a b c : List Move) → Sooner a b → Sooner b c → Sooner a c
sooner_through [] [] c h k = absurd h
sooner_through [] (y ∷ b) [] h k = k
sooner_through [] (y ∷ b) (z ∷ c) h k = tt
sooner_through (x ∷ a) [] c h k = absurd h
sooner_through (x ∷ a) (y ∷ b) [] h k = k
sooner_through (x ∷ a) (y ∷ b) (z ∷ c) (inl h) (inl k) = inl (lower_through x y z h k)
sooner_through (x ∷ a) (y ∷ b) (z ∷ c) (inl h) (inr k) = inl (subst (Lower x) k.0 h)
sooner_through (x ∷ a) (y ∷ b) (z ∷ c) (inr h) (inl k) = inl (subst (λ (m : Move). Lower m z) (sym h.0) k)
sooner_through (x ∷ a) (y ∷ b) (z ∷ c) (inr h) (inr k) = inr (h.0 ∙ k.0, sooner_through a b c h.1 k.1)

-- of two moves one is lower, unless they are the same
lower_either : (a b : Move) → (a ≡ b) ⊎ Lower a b ⊎ Lower b a
lower_either a b = go (cases_order a.process b.process) (cases_order a.choice b.choice)
  where
    go : (a.process ≡ b.process) ⊎ (a.process < b.process) ⊎ (b.process < a.process)
        → (a.choice ≡ b.choice) ⊎ (a.choice < b.choice) ⊎ (b.choice < a.choice)
        → (a ≡ b) ⊎ Lower a b ⊎ Lower b a
    go (inl e) (inl f) = inl (λ i. record { process = e i; choice = f i })
    go (inl e) (inr (inl f)) = inr (inl (inr (e, f)))
    go (inl e) (inr (inr f)) = inr (inr (inr (sym e, f)))
    go (inr (inl e)) f = inr (inl (inl e))
    go (inr (inr e)) f = inr (inr (inl e))

pub sooner_either : (r s : List Move) → (r ≡ s) ⊎ Sooner r s ⊎ Sooner s r
sooner_either [] [] = inl refl
sooner_either [] (b ∷ s) = inr (inl tt)
sooner_either (a ∷ r) [] = inr (inr tt)
sooner_either (a ∷ r) (b ∷ s) = go (lower_either a b) (sooner_either r s)
  where
    go : (a ≡ b) ⊎ Lower a b ⊎ Lower b a → (r ≡ s) ⊎ Sooner r s ⊎ Sooner s r
        → ((a ∷ r) ≡ (b ∷ s)) ⊎ Sooner (a ∷ r) (b ∷ s) ⊎ Sooner (b ∷ s) (a ∷ r)
    go (inl e) (inl f) = inl (λ i. e i ∷ f i)
    go (inl e) (inr (inl f)) = inr (inl (inr (e, f)))
    go (inl e) (inr (inr f)) = inr (inr (inr (sym e, f)))
    go (inr (inl e)) f = inr (inl (inl e))
    go (inr (inr e)) f = inr (inr (inl e))
