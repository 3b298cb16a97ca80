-- The sequential memory's definitions say what its rules say.
use Rattle.std.specs.Prelude.{◌≡◌, ℕ, ◌<◌, Bool, true, false, ◌&&◌, ◌↔◌, List, [], ◌∷◌, Some, None, Ok, Err, Option, Result, ◌==◌, ◌≢◌, nat_le, refl}
use Rattle.std.proofs.Common.{sym, ap, subst, ◌∙◌, ⊎_elim, arith}
use Rattle.std.proofs.lemmas.Bool.{cases_Bool, and_parts, and_from, leb-true, eqb-true, eqb-false, le-leb, eq-eqb, ne_eqb, both_ways, cond-true, cond-false, not-true, not_from_false}
use Rattle.memory.specs.declared.actions.Action.{Action}
use Rattle.memory.specs.declared.actions.Action.TheVariants.{Local, Read, Write, Swap, Fence}
use Rattle.memory.specs.declared.actions.NotOffered.{NotOffered}
use Rattle.memory.specs.declared.actions.Seen.{Seen}
use Rattle.memory.specs.declared.actions.Take.{Take}
use Rattle.memory.specs.declared.shapes.Shape.{Shape}
use Rattle.memory.specs.Shapes.{Inside, Names, is_process}
use Rattle.memory.specs.Updates.{update}
use Rattle.memory.specs.Machine.{Taken, Leads}
use Rattle.memory.specs.Sequential.{Config, initial, allowed, offer, written, seen, is_others, machine}
use Rattle.memory.specs.SequentialWords.{Ready, May, Offers, Does, Keeps, Gets, Takes}

-- the test of the rule, both ways
ready : (s : Config) (a : Action) → allowed s a ≡ true → Names s.shape a × Ready s a
ready s Local h = (tt, tt)
ready s (Read x) h = (leb-true x s.shape.variables h, tt)
ready s (Write x v) h = (leb-true x s.shape.variables h, tt)
ready s (Swap x old new) h =
    let k = and_parts (nat_le x s.shape.variables) (s.values x == old) h in
    (leb-true x s.shape.variables k.0, eqb-true (s.values x) old k.1)
ready s Fence h = absurd (both_ways false refl h)

readied : (s : Config) (a : Action) → Names s.shape a → Ready s a → allowed s a ≡ true
readied s Local n r = refl
readied s (Read x) n r = le-leb x s.shape.variables n
readied s (Write x v) n r = le-leb x s.shape.variables n
readied s (Swap x old new) n r =
    and_from (nat_le x s.shape.variables) (s.values x == old) (le-leb x s.shape.variables n) (eq-eqb (s.values x) old r)
readied s Fence n r = absurd r

may_from : (s : Config) (p : ℕ) (a : Action) → (is_process s.shape p && allowed s a) ≡ true → May s p a
may_from s p a h =
    let k = and_parts (is_process s.shape p) (allowed s a) h in
    let i = and_parts (nat_le 1 p) (nat_le p s.shape.processes) k.0 in
    let r = ready s a k.1 in
    (((leb-true 1 p i.0, leb-true p s.shape.processes i.1), r.0), r.1)

from_may : (s : Config) (p : ℕ) (a : Action) → May s p a → (is_process s.shape p && allowed s a) ≡ true
from_may s p a h =
    and_from (is_process s.shape p) (allowed s a)
    (and_from (nat_le 1 p) (nat_le p s.shape.processes) (le-leb 1 p h.0.0.0) (le-leb p s.shape.processes h.0.0.1))
    (readied s a h.0.1 h.1)

none_of : (s : Config) (p : ℕ) (a : Action) → (May s p a → ⊥) → offer s p a ≡ 0
none_of s p a out = ⊎_elim
    (λ e. absurd (out (may_from s p a e)))
    (λ e. cond-false (is_process s.shape p && allowed s a) 1 0 e)
    (cases_Bool (is_process s.shape p && allowed s a))

pub offers_told : (s : Config) (p : ℕ) (a : Action) → Offers s p a (offer s p a)
offers_told s p a = record {
  one = λ h. cond-true (is_process s.shape p && allowed s a) 1 0 (from_may s p a h);
  none = none_of s p a;
}

some_of : (s : Config) (p : ℕ) (a : Action) (c : ℕ) → c < offer s p a → May s p a × (c ≡ 0)
some_of s p a c l = ⊎_elim
    (λ e. let one : offer s p a ≡ 1 = cond-true (is_process s.shape p && allowed s a) 1 0 e in (may_from s p a e, omega arith))
    (λ e. let none : offer s p a ≡ 0 = cond-false (is_process s.shape p && allowed s a) 1 0 e in absurd (omega arith))
    (cases_Bool (is_process s.shape p && allowed s a))

-- a write to one variable
gets : (s u : Config) (x v : ℕ) → u.values ≡ update s.values x v → Gets s x v u
gets s u x v e = (
  ap (λ (f : ℕ → ℕ). f x) e ∙ cond-true (x == x) v (s.values x) (eq-eqb x x refl),
  λ y ne. ap (λ (f : ℕ → ℕ). f y) e ∙ cond-false (y == x) v (s.values y) (ne_eqb y x ne),
)

keeps : (s u : Config) → u.values ≡ s.values → Keeps s u
keeps s u e = λ y. ap (λ (f : ℕ → ℕ). f y) e

does : (s u : Config) (a : Action) → Ready s a → u.values ≡ written s a → Does s a u (seen s a)
does s u Local r e = (keeps s u e, refl)
does s u (Read x) r e = (keeps s u e, refl)
does s u (Write x v) r e = (gets s u x v e, refl)
does s u (Swap x old new) r e = (r, gets s u x new e, r)
does s u Fence r e = absurd r

switch_told : (last : Option ℕ) (p : ℕ) → (is_others last p ≡ true) ↔ ((q : ℕ) × (last ≡ Some q) × (q ≢ p))
switch_told (Some q) p = (
  λ h. (q, refl, eqb-false q p (not-true (q == p) h)),
  λ h. let e : q ≡ h.0 = cc in not_from_false (q == p) (ne_eqb q p (λ f. h.2 (sym e ∙ f))),
)
switch_told None p = (
  λ h. absurd (both_ways false refl h),
  λ h. let z : ◌≡◌ {A = ℕ} 0 1 = cc in absurd (omega arith),
)

pub takes_told : (s : Config) (p : ℕ) (a : Action) (c : ℕ) (u : Config) (r : Result Seen NotOffered)
    → Taken machine s p a c u r → Takes s p a c u r
takes_told s p a c u (Ok w) h =
    let k = some_of s p a c h.offered in
    record {
      may = k.0;
      only = k.1;
      does = subst (λ (v : ℕ). Does s a u v) (sym h.value) (does s u a k.0.1 (ap (λ (t : Config). t.values) h.after));
      shape = ap (λ (t : Config). t.shape) h.after;
      last = ap (λ (t : Config). t.last) h.after;
      switch = subst (λ (b : Bool). (b ≡ true) ↔ ((q : ℕ) × (s.last ≡ Some q) × (q ≢ p))) (sym h.mark) (switch_told s.last p);
    }
takes_told s p a c u (Err f) h = record {
  told = subst (λ (n : ℕ). Offers s p a n) (sym h.offer) (offers_told s p a);
  beyond = omega (arith, h.offer, h.beyond);
  same = h.same;
}

-- takes leave the shape
stays_shaped : (s : Config) (p : ℕ) (a : Action) (c : ℕ) (u : Config) (r : Result Seen NotOffered)
    → Taken machine s p a c u r → u.shape ≡ s.shape
stays_shaped s p a c u (Ok w) h = ap (λ (t : Config). t.shape) h.after
stays_shaped s p a c u (Err f) h = ap (λ (t : Config). t.shape) h.same

shaped : (s : Config) (ks : List Take) (t : Config) → Leads machine s ks t → t.shape ≡ s.shape
shaped s [] t h = ap (λ (u : Config). u.shape) h
shaped s (k ∷ ks) t h =
    shaped h.0 ks t h.2 ∙ stays_shaped s k.process k.action k.choice h.0 h.1.0 h.1.1

pub outside : (shape : Shape) (ks : List Take) (s : Config) → Leads machine (initial shape) ks s
    → (p : ℕ) (a : Action) → (Inside shape p a → ⊥) → offer s p a ≡ 0
outside shape ks s h p a out = none_of s p a (λ m. out (subst (λ (q : Shape). Inside q p a) (shaped (initial shape) ks s h) m.0))
