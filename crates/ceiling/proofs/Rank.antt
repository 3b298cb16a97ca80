-- The rank of a number among those that pass a test: how many smaller ones pass.
use Rattle.std.proofs.Common.{◌≡◌, ℕ, zero, suc, ◌+◌, ◌<◌, ◌≤◌, max, Bool, true, false, ◌⊎◌, length, ap, ◌∙◌, subst, inl, inr, add-one, arith}
use Rattle.std.proofs.lemmas.Bool.{cases_lt, cases_order, cases_Bool}
use Rattle.memory.specs.ReleaseAcquire.{passing}
use Rattle.memory.specs.Passing.{count_yes, count_no, place}

abbrev pub rank : (ℕ → Bool) → ℕ → ℕ
rank h t = length (passing h t)

rank_yes : (h : ℕ → Bool) (t : ℕ) → h t ≡ true → rank h (suc t) ≡ suc (rank h t)
rank_yes h t e = subst (λ u. rank h u ≡ suc (rank h t)) (add-one t) (count_yes h t e ∙ add-one (rank h t))

pub rank_no : (h : ℕ → Bool) (t : ℕ) → h t ≡ false → rank h (suc t) ≡ rank h t
rank_no h t e = subst (λ u. rank h u ≡ rank h t) (add-one t) (count_no h t e)

rank_up : (h : ℕ → Bool) (t : ℕ) → rank h t ≤ rank h (suc t)
rank_up h t = elim (cases_Bool (h t)) [ inl e ↦ omega (arith, rank_yes h t e) | inr e ↦ omega (arith, rank_no h t e) ]

-- weakly increasing
pub rank_mono : (h : ℕ → Bool) (a b : ℕ) → a ≤ b → rank h a ≤ rank h b
rank_mono h a zero le = let e : a ≡ 0 = omega arith in omega (arith, ap (rank h) e)
rank_mono h a (suc b) le = elim (cases_lt a (suc b)) [
  | inl l ↦ omega (arith, rank_mono h a b (omega arith), rank_up h b)
  | inr g ↦ let e : a ≡ suc b = omega arith in omega (arith, ap (rank h) e)
]

-- strictly above what passes
pub rank_strict : (h : ℕ → Bool) (a b : ℕ) → h a ≡ true → a < b → rank h a < rank h b
rank_strict h a b e l = (place h b a l e).0

pub rank_inj : (h : ℕ → Bool) (a b : ℕ) → h a ≡ true → h b ≡ true → rank h a ≡ rank h b → a ≡ b
rank_inj h a b ea eb e = elim (cases_order a b) [
  | inl q ↦ q
  | inr d ↦ elim d [
    | inl l ↦ absurd (omega (arith, rank_strict h a b ea l))
    | inr l ↦ absurd (omega (arith, rank_strict h b a eb l))
  ]
]

pub rank_max : (h : ℕ → Bool) (a b : ℕ) → rank h (max a b) ≡ max (rank h a) (rank h b)
rank_max h a b = elim (cases_lt a b) [
  | inl l ↦ let e : max a b ≡ b = omega arith in omega (arith, ap (rank h) e, rank_mono h a b (omega arith))
  | inr g ↦ let e : max a b ≡ a = omega arith in omega (arith, ap (rank h) e, rank_mono h b a g)
]

-- a test that passes at one number more raises the rank by at most one
module _ (h k : ℕ → Bool) (u : ℕ) (more : (s : ℕ) → k s ≡ true → (h s ≡ true) ⊎ (s ≡ u)) where
  -- up to that number not at all
  rank_before : (t : ℕ) → t ≤ u → rank k t ≤ rank h t
  rank_before zero le = omega arith
  rank_before (suc t) le =
      let i = rank_before t (omega arith) in
      elim (cases_Bool (k t)) [
        | inl e ↦ elim (more t e) [ inl q ↦ omega (arith, rank_yes k t e, rank_yes h t q) | inr q ↦ absurd (omega arith) ]
        | inr e ↦ omega (arith, rank_no k t e, rank_up h t)
      ]

  pub rank_more : (t : ℕ) → rank k t ≤ rank h t + 1
  rank_more zero = omega arith
  rank_more (suc t) =
      let i = rank_more t in
      elim (cases_Bool (k t)) [
        | inl e ↦ elim (more t e) [
          | inl q ↦ omega (arith, rank_yes k t e, rank_yes h t q)
          | inr q ↦ omega (arith, rank_before t (omega arith), rank_yes k t e, rank_up h t)
        ]
        | inr e ↦ omega (arith, rank_no k t e, rank_up h t)
      ]
