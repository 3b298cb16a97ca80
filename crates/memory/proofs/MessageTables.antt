-- Lists of timestamps and messages as views and pools.
-- A table is an array of arrays; what a step writes is one place of it, so that each fact is about one index.
use Rattle.std.proofs.Common.{Bool, ◌≡◌, ℕ, zero, suc, ◌<◌, ◌≤◌, max, cond, ◌&&◌, eqb, ltb, leb, List, [], ◌∷◌, length, get_or, set, replicate, Some, None, Option, sym, refl, ap, ◌∙◌, ap₂, inl, inr, ⊎_elim, add-one, arith, length-take, take, ◌++◌, ◌||◌, get_or-set_other, get_or-set_same}
use mathlib.Core.Path.{fun_ext}
use Rattle.std.proofs.lemmas.Bool.{cases_lt, cases_eq, eq-eqb, ne_eqb, le-leb, lt-leb, cond-true, cond-false, and_right}
use Rattle.std.proofs.lemmas.List.{get_or_past, get_or-replicate, take_more}
use Rattle.memory.specs.declared.messages.Message.{Message as Kept}
use Rattle.memory.specs.declared.shapes.Shape.{Shape}
use Rattle.memory.specs.declared.views.View.{View as Times}
use Rattle.std.specs.List.{list_any, zip}
use Rattle.std.proofs.Math.Bool.{or-false}
use Rattle.std.proofs.lemmas.List.Folds.{list_any-append}
use Rattle.memory.specs.Rules.{View, Message, Pool, nought, first, first_pool, join, put, turn, changes_below, start, adds}
use Rattle.memory.specs.MessageTable.{view_of, message_of, slot_of, row_of, pool_of, views_of, upto}

-- an entry below another, among the first n of two lists
zip_push : (xs ys : List ℕ) (x : ℕ) → length xs < length ys → zip (xs ++ (x ∷ [])) ys ≡ zip xs ys ++ ((x, get_or ys (length xs) 0) ∷ [])
zip_push xs [] x h = absurd (omega arith)
zip_push [] (y ∷ ys) x h = refl
zip_push (w ∷ xs) (y ∷ ys) x h = ap (λ l. (w, y) ∷ l) (zip_push xs ys x (omega arith))

abbrev less : ℕ × ℕ → Bool
less p = ltb p.0 p.1

pub changes_zip : (n : ℕ) (a b : List ℕ) → n ≤ length a → n ≤ length b
    → list_any less (zip (take n a) b) ≡ changes_below n (λ x. get_or a x 0) (λ x. get_or b x 0)
changes_zip zero a b ha hb = refl
changes_zip (suc n) a b ha hb =
    let long : length (take n a) ≡ n = omega (arith, length-take n a) in
    let more : take (suc n) a ≡ take n a ++ (get_or a n 0 ∷ []) = rw (← add-one) (take_more a n 0 (omega arith)) in
    ap (λ l. list_any less (zip l b)) more
    ∙ (ap (list_any less) (zip_push (take n a) b (get_or a n 0) (omega (arith, long)))
    ∙ (list_any-append less (zip (take n a) b) ((get_or a n 0, get_or b (length (take n a)) 0) ∷ [])
    ∙ ap₂ (λ u w. u || w) (changes_zip n a b (omega arith) (omega arith))
    (or-false (less (get_or a n 0, get_or b (length (take n a)) 0)) ∙ ap (λ k. less (get_or a n 0, get_or b k 0)) long)))

-- five maxima are the join of two views
pub joined_view : (times a b : List ℕ) → length times ≡ 5 → length a ≡ 5 → length b ≡ 5
    → ((x : ℕ) → x < 5 → get_or times x 0 ≡ max (get_or a x 0) (get_or b x 0))
    → view_of (record { times = times }) ≡ join (view_of (record { times = a })) (view_of (record { times = b }))
joined_view times a b l la lb each = fun_ext (λ x. ⊎_elim
    (each x)
    (λ h. get_or_past times x 0 (omega (arith, l)) ∙ sym (ap₂ max (get_or_past a x 0 (omega (arith, la))) (get_or_past b x 0 (omega (arith, lb)))))
    (cases_lt x 5))

-- a write to the table is a put
module _ (table : List (List (Option Kept))) (x t : ℕ) (m : Kept) (row : x < length table) (column : t < length (get_or table x [])) where
  abbrev new : List (List (Option Kept))
  new = set table x (set (get_or table x []) t (Some m))

  put_at : (y u : ℕ) → pool_of new y u ≡ put (pool_of table) x t (message_of m) y u
  put_at y u = elim (cases_eq y x) [
    | inl e ↦ elim (cases_eq u t) [
      | inl f ↦
          let s : pool_of new x t ≡ Some (message_of m) = rw (get_or-set_same, get_or-set_same) in
          let l : pool_of new y u ≡ Some (message_of m) = ap₂ (pool_of new) e f ∙ s in
          rw (eq-eqb y x e, eq-eqb u t f) l
      | inr f ↦
          let s : pool_of new x u ≡ pool_of table x u = rw (get_or-set_same, get_or-set_other) in
          let l : pool_of new y u ≡ pool_of table y u = ap (λ z. pool_of new z u) e ∙ s ∙ ap (λ z. pool_of table z u) (sym e) in
          rw (eq-eqb y x e, ne_eqb u t f) l
    ]
    | inr e ↦
        let l : pool_of new y u ≡ pool_of table y u = rw get_or-set_other in
        rw (ne_eqb y x e) l
  ]

  pub table_put : pool_of new ≡ put (pool_of table) x t (message_of m)
  table_put = fun_ext (λ y. fun_ext (λ u. put_at y u))

none_in : (n t : ℕ) → slot_of (get_or (replicate n None) t None) ≡ None
none_in zero t = refl
none_in (suc n) zero = refl
none_in (suc n) (suc t) = none_in n t

pub row_first : (V x : ℕ) (v : Times) → view_of v ≡ nought → x ≤ V
    → row_of (Some (record { value = 0; view = v }) ∷ replicate 24 None) ≡ first_pool V x
row_first V x v z h = fun_ext at
  where
    at : (t : ℕ) → row_of (Some (record { value = 0; view = v }) ∷ replicate 24 None) t ≡ first_pool V x t
    at zero = rw (le-leb x V h) (ap (λ w. Some (record { value = 0; view = w })) z)
    at (suc t) = rw (le-leb x V h, ne_eqb (suc t) 0 (λ q. omega arith)) (none_in 24 t)

pub row_none : (V x : ℕ) → V < x → row_of (replicate 25 None) ≡ first_pool V x
row_none V x h = fun_ext (λ t. rw (lt-leb x V h) (none_in 25 t))

-- The first messages, row by row.
pub rows_first : (V : ℕ) (table : List (List (Option Kept))) → V ≤ 4 → length table ≡ 5
    → ((x : ℕ) → x < 5 → row_of (get_or table x []) ≡ first_pool V x) → pool_of table ≡ first_pool V
rows_first V table small long each = fun_ext (λ x. ⊎_elim
    (each x)
    (λ h. ap row_of (get_or_past table x [] (omega (arith, long)))
    ∙ fun_ext (λ t. sym (ap (λ b. cond (b && eqb t 0) (Some first) None) (lt-leb x V (omega arith)))))
    (cases_lt x 5))

-- what is cut off at a timestamp
pub upto_first : (n V : ℕ) → upto n (first_pool V) ≡ first_pool V
upto_first n V = fun_ext (λ x. fun_ext (λ t. at x t))
  where
    at : (x t : ℕ) → cond (leb t n) (first_pool V x t) None ≡ first_pool V x t
    at x zero = cond-true (leb 0 n) (first_pool V x 0) None (le-leb 0 n (omega arith))
    at x (suc t) = ⊎_elim
        (λ h. cond-true (leb (suc t) n) (first_pool V x (suc t)) None (le-leb (suc t) n h))
        (λ h. cond-false (leb (suc t) n) (first_pool V x (suc t)) None (lt-leb (suc t) n (omega arith))
        ∙ sym (cond-false (leb x V && eqb (suc t) 0) (Some first) None
        (and_right (leb x V) (eqb (suc t) 0) (ne_eqb (suc t) 0 (λ q. omega arith)))))
        (cases_lt t n)

pub upto_put : (n : ℕ) (pool : Pool) (x t : ℕ) (m : Message) → t ≤ n → upto n (put pool x t m) ≡ put (upto n pool) x t m
upto_put n pool x t m h = fun_ext (λ y. fun_ext (λ u. at y u))
  where
    at : (y u : ℕ) → cond (leb u n) (put pool x t m y u) None ≡ put (upto n pool) x t m y u
    at y u = ⊎_elim
        (λ e. ⊎_elim
        (λ f. rw (eq-eqb y x e, eq-eqb u t f, le-leb u n (omega arith)))
        (λ f. rw (eq-eqb y x e, ne_eqb u t f))
        (cases_eq u t))
        (λ e. rw (ne_eqb y x e))
        (cases_eq y x)

-- writes to the views
pub views_turn : (vs : List Times) (p : ℕ) (v : Times) → p < length vs → views_of (set vs p v) ≡ turn (views_of vs) p (view_of v)
views_turn vs p v h = fun_ext (λ q. at q)
  where
    at : (q : ℕ) → view_of (get_or (set vs p v) q (record { times = [] })) ≡ turn (views_of vs) p (view_of v) q
    at q = ⊎_elim
        (λ e. ap (λ k. view_of (get_or (set vs p v) k (record { times = [] }))) e
        ∙ (ap view_of (get_or-set_same vs p v (record { times = [] }) h) ∙ sym (cond-true (eqb q p) (view_of v) (views_of vs q) (eq-eqb q p e))))
        (λ n. ap view_of (get_or-set_other vs p q v (record { times = [] }) n) ∙ sym (cond-false (eqb q p) (view_of v) (views_of vs q) (ne_eqb q p n)))
        (cases_eq q p)

pub views_start : (v : Times) → view_of v ≡ nought → views_of (replicate 5 v) ≡ (λ p. nought)
views_start v e = fun_ext (λ p. ⊎_elim
    (λ h. ap view_of (get_or-replicate 5 p v (record { times = [] }) h) ∙ e)
    (λ h. ap view_of (get_or_past (replicate 5 v) p (record { times = [] }) h))
    (cases_lt p 5))

-- a new memory
pub started : (shape : Shape) (v : Times) (table : List (List (Option Kept))) → view_of v ≡ nought
    → pool_of table ≡ first_pool shape.variables
    → record { pool = upto shape.ceiling (pool_of table); views = views_of (replicate 5 v) } ≡ start shape.variables
started shape v table z e =
    ap₂ (λ (P : Pool) (ws : ℕ → View). record { pool = P; views = ws })
    (ap (upto shape.ceiling) e ∙ upto_first shape.ceiling shape.variables) (views_start v z)

-- a message posted in the table
pub post_store : (n : ℕ) (vs : List Times) (table : List (List (Option Kept))) (p x t : ℕ) (m : Kept)
    → p < length vs → x < length table → t < length (get_or table x []) → t ≤ n
    → record { pool = upto n (pool_of (set table x (set (get_or table x []) t (Some m)))); views = views_of (set vs p m.view) }
    ≡ adds (record { pool = upto n (pool_of table); views = views_of vs }) p x t m.value (view_of m.view)
post_store n vs table p x t m row line column low =
    ap₂ (λ (P : Pool) (ws : ℕ → View). record { pool = P; views = ws })
    (ap (upto n) (table_put table x t m line column) ∙ upto_put n (pool_of table) x t (message_of m) low)
    (views_turn vs p m.view row)
