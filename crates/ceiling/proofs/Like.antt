-- One store is another with its timestamps renamed: the relation, and that an added message keeps it.
use Rattle.std.proofs.Common.{◌≡◌, ℕ, ◌≤◌, Bool, true, ◌&&◌, eqb, ◌⊎◌, Some, sym, refl, ap, ◌∙◌, subst, ap₂, inl, inr}
use Rattle.std.proofs.lemmas.Bool.{cond_both}
use Rattle.memory.specs.Rules.{View, Message, Store, put, adds}
use Rattle.memory.specs.ReleaseAcquire.{held}
use Rattle.memory.specs.Timely.{either}
use Rattle.ceiling.proofs.Rank.{rank_inj}
use Rattle.ceiling.proofs.Views.{has, cases_place, put_here, put_else, at, ren, renamed, ren_turn}

-- at the variables 0 to V, every entry of a view is the timestamp of a message
pub record Sound (V : ℕ) (C : Store) : Type 0 where
  pub own : (p x : ℕ) → x ≤ V → has C x (C.views p x) ≡ true
  pub sent : (x t : ℕ) (m : Message) → C.pool x t ≡ Some m → (y : ℕ) → y ≤ V → has C y (m.view y) ≡ true

-- the message of a value and a view
abbrev added : ℕ → View → Message
added v w = record { value = v; view = w }

-- what a store has, it has after a message is added
module _ (C : Store) (p x t v : ℕ) (w : View) where
  abbrev D : Store
  D = adds C p x t v w

  pub has_new : has D x t ≡ true
  has_new = ap held (put_here C.pool x t (added v w) x t refl refl)

  pub has_grows : (y s : ℕ) → has C y s ≡ true → has D y s ≡ true
  has_grows y s h = cond_both (eqb y x && eqb s t) (Some (added v w)) (C.pool y s) (λ o. held o ≡ true) (λ _. refl) (λ _. h)

  pub has_old : (y s : ℕ) → has D y s ≡ true → (has C y s ≡ true) ⊎ (s ≡ t)
  has_old y s h = elim (cases_place y x s t) [
    | inl e ↦ inr e.1
    | inr n ↦ inl (ap held (sym (put_else C.pool x t (added v w) y s n)) ∙ h)
  ]

  pub adds_sound : (V : ℕ) → Sound V C → ((y : ℕ) → y ≤ V → has D y (w y) ≡ true) → Sound V D
  adds_sound V S fits = record {
    own = λ q y l. cond_both (eqb q p) w (C.views q) (λ u. has D y (u y) ≡ true)
        (λ _. fits y l) (λ _. has_grows y (C.views q y) (S.own q y l));
    sent = λ z s m e y l. either (λ o. has D y (o.view y) ≡ true) (eqb z x && eqb s t) (added v w) (C.pool z s)
        (λ _. fits y l) (λ o d. has_grows y (o.view y) (S.sent z s o d y l)) m e;
  }

module _ (H : ℕ → ℕ → Bool) where
  pub record Like (C C' : Store) : Type 0 where
    pub views : (p : ℕ) → C'.views p ≡ ren H (C.views p)
    pub there : (x t : ℕ) (m : Message) → C.pool x t ≡ Some m → C'.pool x (at H x t) ≡ Some (renamed H m)
    pub back : (x s : ℕ) (m : Message) → C'.pool x s ≡ Some m → (t : ℕ) × (s ≡ at H x t) × (has C x t ≡ true)

  -- all messages of C are among those that H counts
  abbrev pub Counted : Store → Type 0
  Counted C = (x t : ℕ) → has C x t ≡ true → H x t ≡ true

  module _ (C C' : Store) (L : Like C C') (p x t v : ℕ) (w : View) (cover : Counted (adds C p x t v w)) where
    -- two messages of x do not come to the same rank
    apart : (y s : ℕ) (m : Message) → C.pool y s ≡ Some m → y ≡ x → at H y s ≡ at H x t → s ≡ t
    apart y s m e d f = rank_inj (H x) s t
        (subst (λ z. H z s ≡ true) d (cover y s (has_grows C p x t v w y s (ap held e))))
        (cover x t (has_new C p x t v w))
        (ap (λ z. at H z s) (sym d) ∙ f)

    adds_there : (y s : ℕ) (m : Message) → put C.pool x t (added v w) y s ≡ Some m
        → put C'.pool x (at H x t) (renamed H (added v w)) y (at H y s) ≡ Some (renamed H m)
    adds_there y s m e = elim (cases_place y x s t) [
      | inl d ↦
          let k = put_here C.pool x t (added v w) y s d.0 d.1 in
          let same : added v w ≡ m = cc in
          put_here C'.pool x (at H x t) (renamed H (added v w)) y (at H y s) d.0 (ap₂ (at H) d.0 d.1)
          ∙ ap (λ u. Some (renamed H u)) same
      | inr n ↦
          let was : C.pool y s ≡ Some m = sym (put_else C.pool x t (added v w) y s n) ∙ e in
          put_else C'.pool x (at H x t) (renamed H (added v w)) y (at H y s) (λ d f. n d (apart y s m was d f))
          ∙ L.there y s m was
    ]

    adds_back : (y s : ℕ) (m : Message) → put C'.pool x (at H x t) (renamed H (added v w)) y s ≡ Some m
        → (u : ℕ) × (s ≡ at H y u) × (has (adds C p x t v w) y u ≡ true)
    adds_back y s m e = elim (cases_place y x s (at H x t)) [
      | inl d ↦ (
        t,
        d.1 ∙ ap (λ z. at H z t) (sym d.0),
        subst (λ z. has (adds C p x t v w) z t ≡ true) (sym d.0) (has_new C p x t v w),
      )
      | inr n ↦
          let k = L.back y s m (sym (put_else C'.pool x (at H x t) (renamed H (added v w)) y s n) ∙ e) in
          (k.0, k.1, has_grows C p x t v w y k.0 k.2)
    ]

    pub adds_like : Like (adds C p x t v w) (adds C' p x (at H x t) v (ren H w))
    adds_like = record {
      views = ren_turn H C.views C'.views p w (ren H w) L.views refl;
      there = adds_there;
      back = adds_back;
    }
