-- Each rule, taken at a timestamp, can be taken at the renamed one, and leads to the renamed store.
-- Rule by rule: ranks keep the order of what is counted, so what may be read, what is free and what comes next stay so.
use Rattle.std.proofs.Common.{◌≡◌, ℕ, ◌+◌, ◌<◌, ◌≤◌, max, Bool, true, eqb, Some, None, Option, sym, refl, ap, ◌∙◌, subst, ap₂, subst₂, inl, inr, arith}
use Rattle.std.proofs.lemmas.Bool.{cases_lt, cond_both, eqb-true}
use Rattle.memory.specs.declared.actions.Action.{Action}
use Rattle.memory.specs.declared.actions.Action.TheVariants.{Local, Read, Write, Swap}
use Rattle.memory.specs.declared.shapes.Shape.{Shape}
use Rattle.memory.specs.Shapes.{Names}
use Rattle.memory.specs.Rules.{View, Message, Store, join, raise, changes, or_first, message}
use Rattle.memory.specs.Rules.{reads, adds, after, May, Below, value, mark}
use Rattle.memory.specs.ReleaseAcquire.{held}
use Rattle.memory.specs.Passing.{count_yes}
use Rattle.ceiling.proofs.Rank.{rank_mono, rank_strict, rank_inj}
use Rattle.ceiling.proofs.Views.{has, held_none, none_since, at, ren, renamed, ren_join, ren_raise, ren_turn, changes_ren}
use Rattle.ceiling.proofs.Like.{Sound, Like, Counted, has_new, has_grows, adds_sound, adds_like}

-- messages stay
pub grows : (C : Store) (p : ℕ) (a : Action) (t : ℕ) (y s : ℕ) → has C y s ≡ true → has (after C p a t) y s ≡ true
grows C p Local t y s h = h
grows C p (Read x) t y s h = h
grows C p (Write x v) t y s h = has_grows C p x t v (raise (C.views p) x t) y s h
grows C p (Swap x old new) t y s h = has_grows C p x (t + 1) new (raise (reads C p x t) x (t + 1)) y s h
grows C p a t y s h = h

-- the maximum of two timestamps is one of them
has_max : (C : Store) (x a b : ℕ) → has C x a ≡ true → has C x b ≡ true → has C x (max a b) ≡ true
has_max C x a b ha hb = elim (cases_lt a b) [
  | inl l ↦ let e : b ≡ max a b = omega arith in subst (λ z. has C x z ≡ true) e hb
  | inr g ↦ let e : a ≡ max a b = omega arith in subst (λ z. has C x z ≡ true) e ha
]

module _ (V : ℕ) (C : Store) (S : Sound V C) where
  -- what is read is a timestamp
  read_has : (p x t : ℕ) (m : Message) → C.pool x t ≡ Some m → (y : ℕ) → y ≤ V → has C y (reads C p x t y) ≡ true
  read_has p x t m e y l = has_max C y (C.views p y) ((message C x t).view y) (S.own p y l)
      (subst (λ (o : Message). has C y (o.view y) ≡ true) (sym (ap or_first e)) (S.sent x t m e y l))

  -- a raised view in the store with the new message
  raise_has : (p x t v : ℕ) (u : View) → ((y : ℕ) → y ≤ V → has C y (u y) ≡ true)
      → (y : ℕ) → y ≤ V → has (adds C p x t v (raise u x t)) y (raise u x t y) ≡ true
  raise_has p x t v u each y l =
      let D : Store = adds C p x t v (raise u x t) in
      cond_both (eqb y x) t (u y) (λ s. has D y s ≡ true)
      (λ e. subst (λ z. has D z t ≡ true) (sym (eqb-true y x e)) (has_new C p x t v (raise u x t)))
      (λ e. has_grows C p x t v (raise u x t) y (u y) (each y l))

  -- each rule keeps soundness
  pub sound : (p : ℕ) (a : Action) (t : ℕ) → May C p a t → Sound V (after C p a t)
  sound p Local t h = S
  sound p (Read x) t h = record {
    own = λ q y l. cond_both (eqb q p) (reads C p x t) (C.views q) (λ u. has C y (u y) ≡ true)
        (λ _. read_has p x t h.1.0 h.1.1 y l) (λ _. S.own q y l);
    sent = S.sent;
  }
  sound p (Write x v) t h = adds_sound C p x t v (raise (C.views p) x t) V S (raise_has p x t v (C.views p) (S.own p))
  sound p (Swap x old new) t h =
      adds_sound C p x (t + 1) new (raise (reads C p x t) x (t + 1)) V S
      (raise_has p x (t + 1) new (reads C p x t) (read_has p x t h.1.0 h.1.1))
  sound p a t h = absurd h

module _ (H : ℕ → ℕ → Bool) where
  -- the renamed timestamp of a step
  abbrev pub moved : Action → ℕ → ℕ
  moved Local t = t
  moved (Read x) t = at H x t
  moved (Write x v) t = at H x t
  moved (Swap x old new) t = at H x t
  moved a t = t

  -- what follows at the renamed timestamp
  pub record Follows (shape : Shape) (C C' : Store) (p : ℕ) (a : Action) (t : ℕ) : Type 0 where
    pub may : May C' p a (moved a t)
    pub below : Below shape.ceiling a (moved a t)
    pub same_value : value C' a (moved a t) ≡ value C a t
    pub same_mark : mark shape.variables C' p a (moved a t) ≡ mark shape.variables C p a t
    pub like : Like H (after C p a t) (after C' p a (moved a t))

  module _ (shape : Shape) (C C' : Store) (L : Like H C C') (S : Sound shape.variables C) (cover : Counted H C) where
    message_like : (x t : ℕ) (m : Message) → C.pool x t ≡ Some m → message C' x (at H x t) ≡ renamed H (message C x t)
    message_like x t m e = ap or_first (L.there x t m e) ∙ ap (λ (o : Option Message). renamed H (or_first o)) (sym e)

    reads_like : (p x t : ℕ) (m : Message) → C.pool x t ≡ Some m → reads C' p x (at H x t) ≡ ren H (reads C p x t)
    reads_like p x t m e =
        ap₂ join (L.views p) (ap (λ (o : Message). o.view) (message_like x t m e))
        ∙ sym (ren_join H (C.views p) (message C x t).view)

    -- no message at a counted timestamp becomes no message at its rank
    free_like : (x t : ℕ) → H x t ≡ true → C.pool x t ≡ None → C'.pool x (at H x t) ≡ None
    free_like x t h e = none_since (C'.pool x (at H x t)) (λ m d.
        let k = L.back x (at H x t) m d in
        let q : t ≡ k.0 = rank_inj (H x) t k.0 h (cover x k.0 k.2) k.1 in
        held_none (C.pool x t) e (subst (λ s. has C x s ≡ true) (sym q) k.2))

    view_le : (p x t : ℕ) → C.views p x ≤ t → C'.views p x ≤ at H x t
    view_le p x t l = subst (λ (v : View). v x ≤ at H x t) (sym (L.views p)) (rank_mono (H x) (C.views p x) t l)

    view_lt : (p x t : ℕ) → x ≤ shape.variables → C.views p x < t → C'.views p x < at H x t
    view_lt p x t i l = subst (λ (v : View). v x < at H x t) (sym (L.views p))
        (rank_strict (H x) (C.views p x) t (cover x (C.views p x) (S.own p x i)) l)

    mark_like : (p x t : ℕ) (m : Message) → C.pool x t ≡ Some m
        → changes shape.variables (C'.views p) (message C' x (at H x t)).view
        ≡ changes shape.variables (C.views p) (message C x t).view
    mark_like p x t m e =
        ap₂ (changes shape.variables) (L.views p) (ap (λ (o : Message). o.view) (message_like x t m e))
        ∙ changes_ren H (shape.variables + 1) (C.views p) (message C x t).view
        (λ y l. cover y (C.views p y) (S.own p y (omega arith)))

    reading : (p x t : ℕ) → May C p (Read x) t → Follows shape C C' p (Read x) t
    reading p x t h = record {
      may = (view_le p x t h.0, (renamed H h.1.0, L.there x t h.1.0 h.1.1));
      below = tt;
      same_value = ap (λ (o : Message). o.value) (message_like x t h.1.0 h.1.1);
      same_mark = mark_like p x t h.1.0 h.1.1;
      like = record {
        views = ren_turn H C.views C'.views p (reads C p x t) (reads C' p x (at H x t)) L.views
            (reads_like p x t h.1.0 h.1.1);
        there = L.there;
        back = L.back;
      };
    }

    module _ (low : (y s : ℕ) → H y s ≡ true → at H y s ≤ shape.ceiling) where
      writing : (p x v t : ℕ) → x ≤ shape.variables → Counted H (after C p (Write x v) t) → May C p (Write x v) t
          → Follows shape C C' p (Write x v) t
      writing p x v t i all h =
          let counted : H x t ≡ true = all x t (has_new C p x t v (raise (C.views p) x t)) in
          record {
            may = (view_lt p x t i h.0, free_like x t counted h.1);
            below = low x t counted;
            same_value = refl;
            same_mark = refl;
            like = subst (λ (w : View). Like H (after C p (Write x v) t) (adds C' p x (at H x t) v w))
                (ren_raise H (C.views p) x t ∙ ap (λ (u : View). raise u x (at H x t)) (sym (L.views p)))
                (adds_like H C C' L p x t v (raise (C.views p) x t) all);
          }

      swapping : (p x old new t : ℕ) → Counted H (after C p (Swap x old new) t) → May C p (Swap x old new) t
          → Follows shape C C' p (Swap x old new) t
      swapping p x old new t all h =
          let m : Message = h.1.0 in
          let e : C.pool x t ≡ Some m = h.1.1 in
          let counted : H x (t + 1) ≡ true = all x (t + 1) (has_new C p x (t + 1) new (raise (reads C p x t) x (t + 1))) in
          let next : at H x (t + 1) ≡ at H x t + 1 = count_yes (H x) t (cover x t (ap held e)) in
          record {
            may = (
              view_le p x t h.0,
              (renamed H m, L.there x t m e, h.1.2),
              subst (λ s. C'.pool x s ≡ None) next (free_like x (t + 1) counted h.2),
            );
            below = subst (λ s. s ≤ shape.ceiling) next (low x (t + 1) counted);
            same_value = ap (λ (o : Message). o.value) (message_like x t m e);
            same_mark = mark_like p x t m e;
            like = subst₂ (λ (s : ℕ) (w : View). Like H (after C p (Swap x old new) t) (adds C' p x s new w)) next
                (ren_raise H (reads C p x t) x (t + 1)
                ∙ ap₂ (λ (u : View) (s : ℕ). raise u x s) (sym (reads_like p x t m e)) next)
                (adds_like H C C' L p x (t + 1) new (raise (reads C p x t) x (t + 1)) all);
          }

  -- any rule
  pub follows : (shape : Shape) (C C' : Store) (p : ℕ) (a : Action) (t : ℕ) → Like H C C' → Sound shape.variables C
      → ((y s : ℕ) → H y s ≡ true → at H y s ≤ shape.ceiling) → Counted H (after C p a t)
      → Names shape a → May C p a t → Follows shape C C' p a t
  follows shape C C' p Local t L S low all i h = record { may = h; below = tt; same_value = refl; same_mark = refl; like = L }
  follows shape C C' p (Read x) t L S low all i h = reading shape C C' L S all p x t h
  follows shape C C' p (Write x v) t L S low all i h =
      writing shape C C' L S (λ y s k. all y s (grows C p (Write x v) t y s k)) low p x v t i all h
  follows shape C C' p (Swap x old new) t L S low all i h =
      swapping shape C C' L S (λ y s k. all y s (grows C p (Swap x old new) t y s k)) low p x old new t all h
  follows shape C C' p a t L S low all i h = absurd h
