-- What the first reason why a question is not asked says of the table and the numbers.
use Rattle.std.proofs.Common.{◌≡◌, ℕ, zero, suc, ◌+◌, ◌-◌, ◌<◌, ◌≤◌, inl, inr, Bool, true, false, cond, nat_le, ◌&&◌, List, [], ◌∷◌, Ok, Err, Result, refl, sym, ap, ◌∙◌, subst, slice_index, arith}
use Rattle.std.proofs.lemmas.Bool.{leb-true, leb-false}
use Rattle.program.specs.Program.{Program, is_nothing, labels_of}
use Rattle.program.specs.Reading.{then_do}
use Rattle.runs.specs.declared.questions.Unasked.{Unasked}
use Rattle.runs.specs.declared.questions.Unasked.TheVariants.{NoTable, Bounds, Target}
use Rattle.runs.specs.Asked.{judged, targets_judged}
use Rattle.runs.specs.Askable.{Aims, Judges}

module _ (t : Program) where
  -- the i-th of the targets from process p on is right
  abbrev Right : ℕ → List ℕ → ℕ → Type 0
  Right p xs i = slice_index xs i ≤ labels_of t.rows (p + i)

  -- the rest of the targets are those from the next process on
  on : (p : ℕ) (x : ℕ) (xs : List ℕ) (i : ℕ) → Right (p + 1) xs i → Right p (x ∷ xs) (suc i)
  on p x xs i h = let e : p + 1 + i ≡ p + suc i = omega arith in subst (λ (q : ℕ). slice_index xs i ≤ labels_of t.rows q) e h

  -- where x is at most the labels of p, the first is right
  first : (p x : ℕ) (xs : List ℕ) → nat_le x (labels_of t.rows p) ≡ true → Right p (x ∷ xs) 0
  first p x xs le = let z : p + 0 ≡ p = omega arith in subst (λ (q : ℕ). x ≤ labels_of t.rows q) (sym z) (leb-true x (labels_of t.rows p) le)

  -- where all are judged right, each is
  all_right : (p : ℕ) (xs : List ℕ) → targets_judged t p xs ≡ Ok tt → (i : ℕ) → Right p xs i
  all_right p [] e i = omega arith
  all_right p (x ∷ xs) e i = go (nat_le x (labels_of t.rows p)) refl e (λ e j. all_right (p + 1) xs e j) i
    where
      go : (b : Bool) → nat_le x (labels_of t.rows p) ≡ b → cond b (targets_judged t (p + 1) xs) (Err (Target p)) ≡ Ok tt
          → (targets_judged t (p + 1) xs ≡ Ok tt → (j : ℕ) → Right (p + 1) xs j) → (i : ℕ) → Right p (x ∷ xs) i
      go true le e rest zero = first p x xs le
      go true le e rest (suc i) = on p x xs i (rest e i)
      go false le e rest i = cc

  -- a target that is told is wrong, and those before it are right
  record WrongAt (p : ℕ) (xs : List ℕ) (why : Unasked) : Type 0 where
    at : ℕ
    is : why ≡ Target (p + at)
    above : labels_of t.rows (p + at) < slice_index xs at
    before : (i : ℕ) → i < at → Right p xs i

  -- a wrong one further on
  later : (p x : ℕ) (xs : List ℕ) (why : Unasked) → Right p (x ∷ xs) 0 → WrongAt (p + 1) xs why → WrongAt p (x ∷ xs) why
  later p x xs why here w =
      let e : p + 1 + w.at ≡ p + suc w.at = omega arith in
      record {
        at = suc w.at;
        is = w.is ∙ ap Target e;
        above = subst (λ (q : ℕ). labels_of t.rows q < slice_index xs w.at) e w.above;
        before = before;
      }
    where
      before : (i : ℕ) → i < suc w.at → Right p (x ∷ xs) i
      before zero h = here
      before (suc i) h = on p x xs i (w.before i (omega arith))

  told_is : {A : Type 0} {x y : Unasked} → ◌≡◌ {A = Result A Unasked} (Err x) (Err y) → y ≡ x
  told_is e = cc

  first_wrong : (p : ℕ) (xs : List ℕ) (why : Unasked) → targets_judged t p xs ≡ Err why → WrongAt p xs why
  first_wrong p [] why e = cc
  first_wrong p (x ∷ xs) why e = go (nat_le x (labels_of t.rows p)) refl e (first_wrong (p + 1) xs why)
    where
      go : (b : Bool) → nat_le x (labels_of t.rows p) ≡ b → cond b (targets_judged t (p + 1) xs) (Err (Target p)) ≡ Err why
          → (targets_judged t (p + 1) xs ≡ Err why → WrongAt (p + 1) xs why) → WrongAt p (x ∷ xs) why
      go true le e rest = later p x xs why (first p x xs le) (rest e)
      go false le e rest =
          let z : p + 0 ≡ p = omega arith in
          record {
            at = 0;
            is = told_is e ∙ ap Target (sym z);
            above = subst (λ (q : ℕ). labels_of t.rows q < x) (sym z) (leb-false x (labels_of t.rows p) le);
            before = λ i h. omega arith;
          }

  module _ (n k : ℕ) (targets : List ℕ) where
    -- processes count from 1, and places in a list from 0
    counted : (p : ℕ) → Right 1 targets p → Aims t n k targets (suc p)
    counted p h =
        let at : p ≡ suc p - 1 = omega arith in
        let process : 1 + p ≡ suc p = omega arith in
        subst (λ (i : ℕ). slice_index targets i ≤ labels_of t.rows (suc p)) at (subst (λ (q : ℕ). slice_index targets p ≤ labels_of t.rows q) process h)

    told_right : targets_judged t 1 targets ≡ Ok tt → (p : ℕ) → 1 ≤ p → Aims t n k targets p
    told_right e zero h = omega arith
    told_right e (suc p) h = counted p (all_right 1 targets e p)

    told_wrong : (why : Unasked) → targets_judged t 1 targets ≡ Err why → is_nothing t ≡ false → n ≤ 24 → k ≤ 24 → Judges t n k targets {A = Unit {0}} (Err why)
    told_wrong why e read steps switches =
        let w = first_wrong 1 targets why e in
        subst (λ (x : Unasked). Judges t n k targets {A = Unit {0}} (Err x)) (sym w.is)
        (record { read = read; steps = steps; switches = switches; lower = lower w; process = omega arith; above = above w })
      where
        lower : (w : WrongAt 1 targets why) (q : ℕ) → 1 ≤ q → q < 1 + w.at → Aims t n k targets q
        lower w zero h l = omega arith
        lower w (suc q) h l = counted q (w.before q (omega arith))

        above : (w : WrongAt 1 targets why) → labels_of t.rows (1 + w.at) < slice_index targets (1 + w.at - 1)
        above w = let at : w.at ≡ 1 + w.at - 1 = omega arith in subst (λ (i : ℕ). labels_of t.rows (1 + w.at) < slice_index targets i) at w.above

    pub judges : (r : Result (Unit {0}) Unasked) → judged t n k targets ≡ r → Judges t n k targets r
    judges r = go (is_nothing t) refl (nat_le n 24) refl (nat_le k 24) refl r
      where
        go : (b : Bool) → is_nothing t ≡ b → (l : Bool) → nat_le n 24 ≡ l → (m : Bool) → nat_le k 24 ≡ m → (r : Result (Unit {0}) Unasked)
            → cond b (Err NoTable) (cond (l && m) (targets_judged t 1 targets) (Err Bounds)) ≡ r → Judges t n k targets r
        go true there l ln m km r e = subst (Judges t n k targets) e there
        go false there true ln true km (Ok x) e = record { read = there; steps = leb-true n 24 ln; switches = leb-true k 24 km; aims = told_right e }
        go false there true ln true km (Err why) e = told_wrong why e there (leb-true n 24 ln) (leb-true k 24 km)
        go false there true ln false km r e = subst (Judges t n k targets) e (record { read = there; bound = inr (leb-false k 24 km) })
        go false there false ln m km r e = subst (Judges t n k targets) e (record { read = there; bound = inl (leb-false n 24 ln) })

    -- the same of any answer whose reason is that
    pub told : {A : Type 0} (r : Result A Unasked) → then_do r (λ q. Ok tt) ≡ judged t n k targets → Judges t n k targets r
    told (Ok q) e = judges (Ok tt) (sym e)
    told (Err why) e = judges (Err why) (sym e)
