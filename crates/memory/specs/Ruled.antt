-- The choices are by the rules, and a mark tells what a switch is.
use Rattle.std.specs.Prelude.{◌≡◌, ℕ, zero, suc, ◌+◌, ◌<◌, ◌≤◌, max, Bool, true, false, ◌↔◌, length, Some, ◌≢◌, nat_lt, slice_index}
use Rattle.std.proofs.Common.{subst, inl, inr, arith}
use Rattle.std.proofs.lemmas.Bool.{cases_lt, or_cases, or_left, or_right, ltb-true, lt-ltb, false≢true}
use Rattle.memory.specs.declared.actions.Action.{Action}
use Rattle.memory.specs.declared.actions.Action.TheVariants.{Local, Read, Write, Swap, Fence}
use Rattle.memory.specs.Rules.{View, Message, Store, join, message, May, Below, mark, changes_below, changes, Alters, Switches}
use Rattle.memory.specs.ReleaseAcquire.{Config, passing, admitted, choices}
use Rattle.memory.specs.Choices.{Allowed, Among, ByTheRules}
use Rattle.memory.specs.Passing.{picked, rising, place}
use Rattle.memory.specs.Admits.{admits, allows}

-- no message is above n
abbrev pub Low : ℕ → Store → Type 0
Low n C = (x t : ℕ) (m : Message) → C.pool x t ≡ Some m → t ≤ n

-- so nor is a timestamp that may be taken
low_time : (n : ℕ) (C : Store) (p : ℕ) (a : Action) (t : ℕ) → Low n C → May C p a t → Below n a t → t ≤ n
low_time n C p Local t low h b = omega arith
low_time n C p (Read x) t low h b = low x t h.1.0 h.1.1
low_time n C p (Write x v) t low h b = b
low_time n C p (Swap x old new) t low h b = omega arith
low_time n C p Fence t low h b = absurd h

pub ruled : (s : Config) → Low s.shape.ceiling s.store → (p : ℕ) (a : Action) → ByTheRules s p a (choices s p a)
ruled s low p a = record { rises = rising test (n + 1); exactly = λ t. (only t, all t) }
  where
    n : ℕ
    n = s.shape.ceiling

    test : ℕ → Bool
    test = admitted s p a

    only : (t : ℕ) → Among (choices s p a) t → Allowed s p a t
    only t h = subst (Allowed s p a) h.1.1
        (let k = picked test (n + 1) h.0 h.1.0 in
        admits s p a (slice_index (choices s p a) h.0) (omega (arith, k.1)) k.0)

    all : (t : ℕ) → Allowed s p a t → Among (choices s p a) t
    all t h =
        let l : t < n + 1 = omega (arith, low_time n s.store p a t low h.1 h.2) in
        (length (passing test t), place test (n + 1) t l (allows s p a t h))

-- a change below n
tells_from : (n : ℕ) (v w : View) → changes_below n v w ≡ true → (x : ℕ) × (x < n) × (join v w x ≢ v x)
tells_from zero v w h = absurd (false≢true h)
tells_from (suc n) v w h = elim (or_cases (changes_below n v w) (nat_lt (v n) (w n)) h) [
  | inl k ↦ let i = tells_from n v w k in (i.0, omega (arith, i.1), i.2)
  | inr k ↦ (n, omega arith, λ e. omega (arith, ltb-true (v n) (w n) k))
]

apart : (a b : ℕ) → (max a b ≢ a) → a < b
apart a b n = elim (cases_lt a b) [ inl l ↦ l | inr g ↦ absurd (n (omega arith)) ]

tells_to : (n : ℕ) (v w : View) (x : ℕ) → x < n → (join v w x ≢ v x) → changes_below n v w ≡ true
tells_to zero v w x l d = absurd (omega arith)
tells_to (suc n) v w x l d = elim (cases_lt x n) [
  | inl k ↦ or_left (changes_below n v w) (nat_lt (v n) (w n)) (tells_to n v w x k d)
  | inr k ↦
      let e : x ≡ n = omega arith in
      or_right (changes_below n v w) (nat_lt (v n) (w n)) (lt-ltb (v n) (w n) (subst (λ y. v y < w y) e (apart (v x) (w x) d)))
]

tells : (V : ℕ) (v w : View) → (changes V v w ≡ true) ↔ Alters V v w
tells V v w = (
  λ h. let k = tells_from (V + 1) v w h in (k.0, omega (arith, k.1), k.2),
  λ h. tells_to (V + 1) v w h.0 (omega (arith, h.1)) h.2,
)

never : (false ≡ true) ↔ ⊥
never = (false≢true, λ h. absurd h)

pub switch_told : (V : ℕ) (C : Store) (p : ℕ) (a : Action) (t : ℕ) → (mark V C p a t ≡ true) ↔ Switches V C p a t
switch_told V C p Local t = never
switch_told V C p (Read x) t = tells V (C.views p) (message C x t).view
switch_told V C p (Write x v) t = never
switch_told V C p (Swap x old new) t = tells V (C.views p) (message C x t).view
switch_told V C p Fence t = never
