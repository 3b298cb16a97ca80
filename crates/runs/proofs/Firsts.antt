-- What `look` answers, in a reader's words: the first run that reaches the targets, or that none does.
-- Along the list: the first that passes the test is the first of all such runs, since the list is in order and holds every run.
use Rattle.std.proofs.Common.{◌≡◌, ℕ, zero, suc, ◌<◌, ◌⊎◌, Bool, true, List, [], ◌∷◌, length, refl, sym, ap, ◌∙◌, subst, inl, inr, arith}
use Rattle.std.proofs.lemmas.Bool.{both_ways, cases_order}
use Rattle.ceiling.specs.declared.moves.Move.{Move}
use Rattle.runs.specs.declared.verdicts.Verdict.{Verdict}
use Rattle.runs.specs.declared.verdicts.Verdict.TheVariants.{More, Found, None}
use Rattle.runs.specs.Runs.{System, end_of}
use Rattle.runs.specs.Listed.{Before, Stands, Lists, TotalOrder}
use Rattle.runs.specs.Look.{look}
use Rattle.runs.specs.First.{First, Says, Decided, front}
use Rattle.runs.proofs.Sights.{Passed, Seen, seen}

stands_in : (L : List (List Move)) (i : ℕ) (r : List Move) → Stands L i r → i < length L
stands_in [] i r h = absurd h
stands_in (x ∷ L) zero r h = omega arith
stands_in (x ∷ L) (suc i) r h = let k = stands_in L i r h in omega arith

stands_one : (L : List (List Move)) (i : ℕ) (r s : List Move) → Stands L i r → Stands L i s → r ≡ s
stands_one [] i r s h k = absurd h
stands_one (x ∷ L) zero r s h k = sym h ∙ k
stands_one (x ∷ L) (suc i) r s h k = stands_one L i r s h k

module _ {W : Type 0} (S : System W) (w : W) (n k : ℕ) (hit : W → Bool) where
  -- the run is said only where one is found
  pub swap : (L : List (List Move)) (E : ℕ) (v : Verdict) (u : ℕ) (x y : List Move)
      → (v ≡ Found → x ≡ y) → Says S w n k hit L E v u x → Says S w n k hit L E v u y
  swap L E v u x y e a = record {
    found = a.found;
    run = λ i r. (
      λ f. (a.run i r).0 (f.0, f.1, e f.0 ∙ f.2),
      λ f. let z = (a.run i r).1 f in (z.0, z.1, sym (e z.0) ∙ z.2),
    );
    none = a.none;
    none_units = a.none_units;
    more = a.more;
    more_units = a.more_units;
  }

module _ (total : TotalOrder) {W : Type 0} (S : System W) (w : W) (n k : ℕ) (hit : W → Bool) where
  first_one : (r s : List Move) → First S w n k hit r → First S w n k hit s → r ≡ s
  first_one r s f g = go (f.others s g.within g.reaches) (g.others r f.within f.reaches)
    where
      go : (s ≡ r) ⊎ Before r s → (r ≡ s) ⊎ Before s r → r ≡ s
      go (inl e) b = sym e
      go (inr a) (inl e) = e
      go (inr a) (inr b) = absurd (total.never r (total.through r s r a b))

  abbrev test : List Move → Bool
  test r = hit (end_of S w r)

  module _ (L : List (List Move)) (lists : Lists S w n k L) where
    abbrev Answer : ℕ → Verdict → ℕ → List Move → Type 0
    Answer = Says S w n k hit L

    is_first : (i : ℕ) (r : List Move) → Stands L i r → test r ≡ true → Passed test L i → First S w n k hit r
    is_first i r h y p = record {
      within = (lists.exactly r).0 (i, h);
      reaches = y;
      others = λ s ws rs. let q = (lists.exactly s).1 ws in by_place s rs q.0 q.1 (cases_order i q.0);
    }
      where
        by_place : (s : List Move) → test s ≡ true → (j : ℕ) → Stands L j s
            → (i ≡ j) ⊎ (i < j) ⊎ (j < i) → (s ≡ r) ⊎ Before r s
        by_place s rs j q (inl e) = inl (stands_one L j s r q (subst (λ (x : ℕ). Stands L x r) e h))
        by_place s rs j q (inr (inl l)) = inr (lists.ordered i j r s l h q)
        by_place s rs j q (inr (inr l)) = absurd (both_ways (test s) (p j s l q) rs)

    says_by : (E u : ℕ) (M : List (List Move)) (v : Verdict) → Seen test E L u M v → Answer E v u (front M)
    says_by E u M Found (i, r, later, l, h, y, eu, eM, p) =
        let f = is_first i r h y p in
        record {
          found = (λ _. (i, r, l, h, y), λ _. refl);
          run = λ j s. (
            λ x.
                let e : i ≡ j = omega arith in
                let e' : r ≡ s = sym (ap front eM) ∙ x.2 in (
                  subst (First S w n k hit) e' f,
                  subst (λ (z : List Move). Stands L j z) e' (subst (λ (z : ℕ). Stands L z r) e h),
                  omega arith,
                ),
            λ x.
                let e = first_one r s f x.0 in
                let e' = lists.once i j r h (subst (Stands L j) (sym e) x.1) in
                (refl, omega arith, ap front eM ∙ e),
          );
          none = (λ e. cc, λ x. absurd (x.0 r f.within f.reaches));
          none_units = λ e. cc;
          more = (λ e. cc, λ x. absurd (x.0 i r l h f.reaches));
          more_units = λ e. cc;
        }
    says_by E u M None (p, l, eu) =
        let no : (i : ℕ) (r : List Move) → Stands L i r → test r ≡ true → ⊥ =
        λ i r h. both_ways (test r) (p i r (stands_in L i r h) h) in
        record {
          found = (λ e. cc, λ x. absurd (no x.0 x.1 x.3 x.4));
          run = λ i r. (λ x. cc, λ x. absurd (no i r x.1 x.0.reaches));
          none = (λ _. (λ r wr. let q = (lists.exactly r).1 wr in no q.0 r q.1, l), λ _. refl);
          none_units = λ _. eu;
          more = (λ e. cc, λ x. absurd (omega arith));
          more_units = λ e. cc;
        }
    says_by E u M More (p, l, eu) =
        let no : (i : ℕ) (r : List Move) → i < E → Stands L i r → test r ≡ true → ⊥ =
        λ i r j h. both_ways (test r) (p i r j h) in
        record {
          found = (λ e. cc, λ x. absurd (no x.0 x.1 x.2 x.3 x.4));
          run = λ i r. (λ x. cc, λ x. absurd (no i r x.2 x.1 x.0.reaches));
          none = (λ e. cc, λ x. absurd (omega arith));
          none_units = λ e. cc;
          more = (λ _. (no, l), λ _. refl);
          more_units = λ _. eu;
        }

    pub says : (E : ℕ) → let l = look (λ r. hit (end_of S w r)) E L in Says S w n k hit L E l.verdict l.units (front l.left)
    says E = let l = look test E L in says_by E l.units l.left l.verdict (seen test E L)

    -- what is said leaves what was seen
    says_seen : (E u : ℕ) (M : List (List Move)) (v v' : Verdict) (u' : ℕ) (x : List Move)
        → Seen test E L u M v → Answer E v' u' x → (v' ≡ v) × (u' ≡ u) × (v' ≡ Found → x ≡ front M)
    says_seen E u M Found v' u' x (i, r, later, l, h, y, eu, eM, p) a =
        let q = (a.run i r).1 (is_first i r h y p, h, l) in
        (q.0, q.1 ∙ sym eu, λ _. q.2 ∙ sym (ap front eM))
    says_seen E u M None v' u' x h a =
        let e = a.none.1 ((says_by E u M None h).none.0 refl) in
        (e, a.none_units e ∙ sym h.2, λ f. cc)
    says_seen E u M More v' u' x h a =
        let e = a.more.1 ((says_by E u M More h).more.0 refl) in
        (e, a.more_units e ∙ sym h.2, λ f. cc)

    -- no other answer can be given
    pub says_one : (E : ℕ) (v v' : Verdict) (u u' : ℕ) (x x' : List Move)
        → Says S w n k hit L E v u x → Says S w n k hit L E v' u' x' → (v ≡ v') × (u ≡ u') × (v ≡ Found → x ≡ x')
    says_one E v v' u u' x x' a b =
        let l = look test E L in
        let p = says_seen E l.units l.left l.verdict v u x (seen test E L) a in
        let q = says_seen E l.units l.left l.verdict v' u' x' (seen test E L) b in
        (p.0 ∙ sym q.0, p.1 ∙ sym q.1, λ e. p.2 e ∙ sym (q.2 (q.0 ∙ sym p.0 ∙ e)))

    found_first : (E u : ℕ) (M : List (List Move)) (v v' : Verdict) (u' : ℕ) (x : List Move)
        → Seen test E L u M v → Answer E v' u' x → v' ≡ Found → First S w n k hit x
    found_first E u M Found v' u' x (i, r, later, l, h, y, eu, eM, p) a f =
        let z = is_first i r h y p in
        subst (First S w n k hit) (sym ((a.run i r).1 (z, h, l)).2) z
    found_first E u M None v' u' x h a f = let e = (says_seen E u M None v' u' x h a).0 in cc
    found_first E u M More v' u' x h a f = let e = (says_seen E u M More v' u' x h a).0 in cc

    -- once settled, the answer is a matter of the runs alone
    pub settles : (E : ℕ) (v : Verdict) (u : ℕ) (x : List Move)
        → Says S w n k hit L E v u x → (v ≡ More → ⊥) → Decided S w n k hit v x
    settles E v u x a closed = go v refl
      where
        first : v ≡ Found → First S w n k hit x
        first e = let l = look test E L in found_first E l.units l.left l.verdict v u x (seen test E L) a e

        go : (verdict : Verdict) → v ≡ verdict → Decided S w n k hit v x
        go Found e = record {
          found = λ r. (λ f. subst (First S w n k hit) f.1 (first e), λ f. (e, first_one x r (first e) f));
          none = (λ f. cc, λ no. absurd (no x (first e).within (first e).reaches));
        }
        go None e = record {
          found = λ r. (λ f. cc, λ f. absurd ((a.none.0 e).0 r f.within f.reaches));
          none = (λ f. (a.none.0 e).0, λ no. e);
        }
        go More e = absurd (closed e)
