-- The numbers below n that pass a test: how many they are, where each stands, and that they rise.
use Rattle.std.specs.Prelude.{◌≡◌, ℕ, zero, suc, ◌+◌, ◌<◌, ◌≤◌, Bool, true, false, cond, ◌⊎◌, [], ◌∷◌, ◌++◌, length, slice_index}
use Rattle.std.proofs.Math.Path.{ap}
use Rattle.std.proofs.Common.{subst, ◌∙◌, append-nil, add-one, arith}
use Rattle.std.proofs.Math.Logic.{inl, inr}
use Rattle.std.proofs.Math.ListN.{length-append, get_or-append}
use Rattle.std.proofs.Math.Seq.{get_or-append_seam}
use Rattle.std.proofs.lemmas.Bool.{cases_lt, cases_Bool}
use Rattle.memory.specs.ReleaseAcquire.{passing}
use Rattle.memory.specs.Choices.{Rising}

one_at_most : (b : Bool) (n : ℕ) → length (cond b (n ∷ []) []) ≤ 1
one_at_most true n = omega arith
one_at_most false n = omega arith

module _ (test : ℕ → Bool) where
  grown : (n : ℕ) → test n ≡ true → passing test (suc n) ≡ passing test n ++ (n ∷ [])
  grown n hit = ap (λ b. passing test n ++ cond b (n ∷ []) []) hit

  same : (n : ℕ) → test n ≡ false → passing test (suc n) ≡ passing test n
  same n miss = ap (λ b. passing test n ++ cond b (n ∷ []) []) miss ∙ append-nil (passing test n)

  pub passing_yes : (n : ℕ) → test n ≡ true → passing test (n + 1) ≡ passing test n ++ (n ∷ [])
  passing_yes n hit = rw add-one (grown n hit)

  pub passing_no : (n : ℕ) → test n ≡ false → passing test (n + 1) ≡ passing test n
  passing_no n miss = rw add-one (same n miss)

  pub count_yes : (n : ℕ) → test n ≡ true → length (passing test (n + 1)) ≡ length (passing test n) + 1
  count_yes n hit = ap length (passing_yes n hit) ∙ length-append (passing test n) (n ∷ [])

  pub count_no : (n : ℕ) → test n ≡ false → length (passing test (n + 1)) ≡ length (passing test n)
  count_no n miss = ap length (passing_no n miss)

  pub few : (n : ℕ) → length (passing test n) ≤ n
  few zero = omega arith
  few (suc n) = omega (arith, few n, length-append (passing test n) (cond (test n) (n ∷ []) []), one_at_most (test n) n)

  -- one of the numbers below suc n is one of those below n at the same place, or it is n, after all of those
  Old : ℕ → ℕ → Type 0
  Old n c = (c < length (passing test n)) × (slice_index (passing test (suc n)) c ≡ slice_index (passing test n) c)

  New : ℕ → ℕ → Type 0
  New n c = (c ≡ length (passing test n)) × (test n ≡ true) × (slice_index (passing test (suc n)) c ≡ n)

  old_or_new : (n c : ℕ) → c < length (passing test (suc n)) → Old n c ⊎ New n c
  unfolding Old New
  old_or_new n c lt = elim (cases_Bool (test n)) [
    | inr miss ↦ inl (rw (← same n miss) lt, ap (λ l. slice_index l c) (same n miss))
    | inl hit ↦ elim (cases_lt c (length (passing test n))) [
      | inl h ↦ inl (h, get_or-append (passing test n) (cond (test n) (n ∷ []) []) 0 c h)
      | inr h ↦
          let e : c ≡ length (passing test n) =
          omega (arith, ap length (grown n hit), length-append (passing test n) (n ∷ [])) in
          inr (
            e,
            hit,
            ap (λ l. slice_index l c) (grown n hit) ∙ ap (λ d. slice_index (passing test n ++ (n ∷ [])) d) e
                ∙ get_or-append_seam (passing test n) n [] 0,
          )
    ]
  ]

  -- what stands at a place passes, and is below n
  pub picked : (n c : ℕ) → c < length (passing test n)
      → (test (slice_index (passing test n) c) ≡ true) × (slice_index (passing test n) c < n)
  unfolding Old New
  picked zero c lt = absurd (omega arith)
  picked (suc n) c lt = elim (old_or_new n c lt) [
    | inl h ↦ let k = picked n c h.0 in (ap test h.1 ∙ k.0, omega (arith, h.1, k.1))
    | inr h ↦ (ap test h.2 ∙ h.1, omega (arith, h.2))
  ]

  pub rising : (n : ℕ) → Rising (passing test n)
  unfolding Old New
  rising zero c d before lt = absurd (omega arith)
  rising (suc n) c d before lt = elim (old_or_new n d lt) [
    | inl h ↦
        let e = get_or-append (passing test n) (cond (test n) (n ∷ []) []) 0 c (omega (arith, h.0)) in
        omega (arith, h.1, e, rising n c d before h.0)
    | inr h ↦
        let l : c < length (passing test n) = omega (arith, h.0) in
        omega (arith, h.2, get_or-append (passing test n) (cond (test n) (n ∷ []) []) 0 c l, (picked n c l).1)
  ]

  -- a number that passes comes after those below it
  pub place : (n t : ℕ) → t < n → test t ≡ true
      → (length (passing test t) < length (passing test n)) × (slice_index (passing test n) (length (passing test t)) ≡ t)
  place zero t lt hit = absurd (omega arith)
  place (suc n) t lt hit = elim (cases_lt t n) [
    | inl h ↦
        let k = place n t h hit in (
          omega (arith, k.0, length-append (passing test n) (cond (test n) (n ∷ []) [])),
          get_or-append (passing test n) (cond (test n) (n ∷ []) []) 0 (length (passing test t)) k.0 ∙ k.1,
        )
    | inr h ↦
        let e : t ≡ n = omega arith in
        let at : passing test (suc n) ≡ passing test t ++ (t ∷ []) =
        subst (λ m. passing test (suc m) ≡ passing test t ++ (t ∷ [])) e (grown t hit) in (
          omega (arith, ap length at, length-append (passing test t) (t ∷ [])),
          ap (λ l. slice_index l (length (passing test t))) at ∙ get_or-append_seam (passing test t) t [] 0,
        )
  ]
