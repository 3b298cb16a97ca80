-- Views renamed by ranks, and what a store holds.
use Rattle.std.proofs.Common.{◌≡◌, ℕ, zero, suc, ◌<◌, Bool, true, false, cond, ◌&&◌, eqb, ltb, ◌⊎◌, Some, None, Option, sym, refl, ap, ◌∙◌, inl, inr, arith}
use mathlib.Core.Path.{fun_ext}
use Rattle.std.proofs.lemmas.Bool.{cases_lt, cases_eq, cond-true, cond-false, both_ways, eq-eqb, ne_eqb, lt-ltb, le-ltb, and_left, and_right, and_from}
use Rattle.memory.specs.Rules.{View, Message, Pool, Store, join, raise, turn, put, changes_below}
use Rattle.memory.specs.ReleaseAcquire.{held}
use Rattle.ceiling.proofs.Rank.{rank, rank_mono, rank_strict, rank_max}

-- x has a message at t
abbrev pub has : Store → ℕ → ℕ → Bool
has C x t = held (C.pool x t)

pub held_none : (o : Option Message) → o ≡ None → held o ≡ true → ⊥
held_none o e h = both_ways (held o) (ap held e) h

pub none_since : (o : Option Message) → ((m : Message) → o ≡ Some m → ⊥) → o ≡ None
none_since (Some m) f = absurd (f m refl)
none_since None f = refl

-- the entry of a pool after a put
pub cases_place : (y x s t : ℕ) → ((y ≡ x) × (s ≡ t)) ⊎ (y ≡ x → s ≡ t → ⊥)
cases_place y x s t = elim (cases_eq y x) [
  | inl e ↦ elim (cases_eq s t) [ inl d ↦ inl (e, d) | inr d ↦ inr (λ _ q. d q) ]
  | inr e ↦ inr (λ q _. e q)
]

pub put_here : (P : Pool) (x t : ℕ) (m : Message) (y s : ℕ) → y ≡ x → s ≡ t → put P x t m y s ≡ Some m
put_here P x t m y s e d =
    cond-true (eqb y x && eqb s t) (Some m) (P y s) (and_from (eqb y x) (eqb s t) (eq-eqb y x e) (eq-eqb s t d))

pub put_else : (P : Pool) (x t : ℕ) (m : Message) (y s : ℕ) → (y ≡ x → s ≡ t → ⊥) → put P x t m y s ≡ P y s
put_else P x t m y s n = cond-false (eqb y x && eqb s t) (Some m) (P y s) (elim (cases_eq y x) [
  | inl e ↦ and_right (eqb y x) (eqb s t) (ne_eqb s t (n e))
  | inr e ↦ and_left (eqb y x) (eqb s t) (ne_eqb y x e)
])

module _ (H : ℕ → ℕ → Bool) where
  -- the rank of a timestamp of x
  abbrev pub at : ℕ → ℕ → ℕ
  at x t = rank (H x) t

  abbrev pub ren : View → View
  ren v = λ x. at x (v x)

  abbrev pub renamed : Message → Message
  renamed m = record { value = m.value; view = ren m.view }

  pub ren_join : (v w : View) → ren (join v w) ≡ join (ren v) (ren w)
  ren_join v w = fun_ext (λ x. rank_max (H x) (v x) (w x))

  pub ren_raise : (v : View) (x t : ℕ) → ren (raise v x t) ≡ raise (ren v) x (at x t)
  ren_raise v x t = fun_ext one
    where
      one : (y : ℕ) → at y (cond (eqb y x) t (v y)) ≡ cond (eqb y x) (at x t) (at y (v y))
      one y = elim (cases_eq y x) [
        | inl e ↦ rw (eq-eqb y x e) (ap (λ z. at z t) e)
        | inr e ↦ rw (ne_eqb y x e) refl
      ]

  pub ren_turn : (vs vs' : ℕ → View) (p : ℕ) (w w' : View) → ((q : ℕ) → vs' q ≡ ren (vs q)) → w' ≡ ren w
      → (q : ℕ) → turn vs' p w' q ≡ ren (turn vs p w q)
  ren_turn vs vs' p w w' each e q = go (eqb q p)
    where
      go : (b : Bool) → cond b w' (vs' q) ≡ ren (cond b w (vs q))
      go true = e
      go false = each q

  ltb_ren : (x a b : ℕ) → H x a ≡ true → ltb (at x a) (at x b) ≡ ltb a b
  ltb_ren x a b h = elim (cases_lt a b) [
    | inl l ↦ lt-ltb (at x a) (at x b) (rank_strict (H x) a b h l) ∙ sym (lt-ltb a b l)
    | inr g ↦ le-ltb (at x a) (at x b) (rank_mono (H x) b a g) ∙ sym (le-ltb a b g)
  ]

  pub changes_ren : (n : ℕ) (v w : View) → ((x : ℕ) → x < n → H x (v x) ≡ true)
      → changes_below n (ren v) (ren w) ≡ changes_below n v w
  changes_ren zero v w h = refl
  changes_ren (suc n) v w h =
      let i = changes_ren n v w (λ x l. h x (omega arith)) in
      let j = ltb_ren n (v n) (w n) (h n (omega arith)) in
      cc
