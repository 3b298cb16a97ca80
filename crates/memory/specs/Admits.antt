-- The rules as a test say what the rules say.
use Rattle.std.specs.Prelude.{◌≡◌, ℕ, ◌+◌, ◌≤◌, true, false, not, ◌&&◌, Some, None, Option, nat_le, nat_lt, refl}
use Rattle.std.proofs.Common.{ap, ◌∙◌, arith}
use Rattle.std.proofs.lemmas.Bool.{and_parts, and_from, leb-true, ltb-true, eqb-true, le-leb, lt-ltb, eq-eqb, both_ways}
use Rattle.memory.specs.declared.actions.Action.{Action}
use Rattle.memory.specs.declared.actions.Action.TheVariants.{Local, Read, Write, Swap, Fence}
use Rattle.memory.specs.declared.shapes.Shape.{Shape}
use Rattle.memory.specs.Shapes.{Names, is_process, is_variable}
use Rattle.memory.specs.Rules.{Message, Store, May, Below}
use Rattle.memory.specs.ReleaseAcquire.{Config, held, holds, may, fits, admitted}
use Rattle.memory.specs.Choices.{Allowed}

pub get_held : (o : Option Message) → held o ≡ true → (m : Message) × (o ≡ Some m)
get_held (Some m) h = (m, refl)
get_held None h = absurd (both_ways false refl h)

get_holds : (o : Option Message) (v : ℕ) → holds o v ≡ true → (m : Message) × (o ≡ Some m) × (m.value ≡ v)
get_holds (Some m) v h = (m, refl, eqb-true m.value v h)
get_holds None v h = absurd (both_ways false refl h)

get_none : (o : Option Message) → not (held o) ≡ true → o ≡ None
get_none (Some m) h = absurd (both_ways false refl h)
get_none None h = refl

may_true : (C : Store) (p : ℕ) (a : Action) (t : ℕ) → may C p a t ≡ true → May C p a t
may_true C p Local t h = eqb-true t 0 h
may_true C p (Read x) t h =
    let k = and_parts (held (C.pool x t)) (nat_le (C.views p x) t) h in
    (leb-true (C.views p x) t k.1, get_held (C.pool x t) k.0)
may_true C p (Write x v) t h =
    let k = and_parts (nat_lt (C.views p x) t) (not (held (C.pool x t))) h in
    (ltb-true (C.views p x) t k.0, get_none (C.pool x t) k.1)
may_true C p (Swap x old new) t h =
    let k = and_parts (holds (C.pool x t) old) (nat_le (C.views p x) t && not (held (C.pool x (t + 1)))) h in
    let j = and_parts (nat_le (C.views p x) t) (not (held (C.pool x (t + 1)))) k.1 in
    (leb-true (C.views p x) t j.0, get_holds (C.pool x t) old k.0, get_none (C.pool x (t + 1)) j.1)
may_true C p Fence t h = absurd (both_ways false refl h)

true_may : (C : Store) (p : ℕ) (a : Action) (t : ℕ) → May C p a t → may C p a t ≡ true
true_may C p Local t h = eq-eqb t 0 h
true_may C p (Read x) t h =
    and_from (held (C.pool x t)) (nat_le (C.views p x) t) (ap held h.1.1) (le-leb (C.views p x) t h.0)
true_may C p (Write x v) t h =
    and_from (nat_lt (C.views p x) t) (not (held (C.pool x t))) (lt-ltb (C.views p x) t h.0) (ap (λ o. not (held o)) h.1)
true_may C p (Swap x old new) t h =
    and_from (holds (C.pool x t) old) (nat_le (C.views p x) t && not (held (C.pool x (t + 1))))
    (ap (λ o. holds o old) h.1.1 ∙ eq-eqb h.1.0.value old h.1.2)
    (and_from (nat_le (C.views p x) t) (not (held (C.pool x (t + 1)))) (le-leb (C.views p x) t h.0)
    (ap (λ o. not (held o)) h.2))
true_may C p Fence t h = absurd h

fits_true : (shape : Shape) (a : Action) (t : ℕ) → t ≤ shape.ceiling → fits shape a t ≡ true
    → Names shape a × Below shape.ceiling a t
fits_true shape Local t low h = (tt, tt)
fits_true shape (Read x) t low h = (leb-true x shape.variables h, tt)
fits_true shape (Write x v) t low h = (leb-true x shape.variables h, low)
fits_true shape (Swap x old new) t low h =
    let k = and_parts (is_variable shape x) (nat_lt t shape.ceiling) h in
    (leb-true x shape.variables k.0, omega (arith, ltb-true t shape.ceiling k.1))
fits_true shape Fence t low h = (tt, tt)

true_fits : (shape : Shape) (a : Action) (t : ℕ) → Names shape a → Below shape.ceiling a t → fits shape a t ≡ true
true_fits shape Local t n b = refl
true_fits shape (Read x) t n b = le-leb x shape.variables n
true_fits shape (Write x v) t n b = le-leb x shape.variables n
true_fits shape (Swap x old new) t n b =
    and_from (is_variable shape x) (nat_lt t shape.ceiling) (le-leb x shape.variables n)
    (lt-ltb t shape.ceiling (omega arith))
true_fits shape Fence t n b = refl

-- the bound on t is what keeps a Write below the ceiling
pub admits : (s : Config) (p : ℕ) (a : Action) (t : ℕ) → t ≤ s.shape.ceiling → admitted s p a t ≡ true → Allowed s p a t
admits s p a t low h =
    let k = and_parts (is_process s.shape p) (fits s.shape a t && may s.store p a t) h in
    let i = and_parts (nat_le 1 p) (nat_le p s.shape.processes) k.0 in
    let j = and_parts (fits s.shape a t) (may s.store p a t) k.1 in
    let f = fits_true s.shape a t low j.0 in
    (((leb-true 1 p i.0, leb-true p s.shape.processes i.1), f.0), may_true s.store p a t j.1, f.1)

pub allows : (s : Config) (p : ℕ) (a : Action) (t : ℕ) → Allowed s p a t → admitted s p a t ≡ true
allows s p a t h =
    and_from (is_process s.shape p) (fits s.shape a t && may s.store p a t)
    (and_from (nat_le 1 p) (nat_le p s.shape.processes) (le-leb 1 p h.0.0.0) (le-leb p s.shape.processes h.0.0.1))
    (and_from (fits s.shape a t) (may s.store p a t)
    (true_fits s.shape a t h.0.1 h.2) (true_may s.store p a t h.1))
