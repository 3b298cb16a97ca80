-- From the start, no timestamp passes the ceiling, and each message knows its own.
use Rattle.std.specs.Prelude.{◌≡◌, ℕ, ◌+◌, ◌≤◌, Bool, true, false, cond, ◌&&◌, List, [], ◌∷◌, Some, None, Ok, Err, Option, Result, ◌==◌, nat_le, slice_index, refl}
use Rattle.std.proofs.Common.{sym, ap, subst, ◌∙◌, arith}
use Rattle.std.proofs.lemmas.Bool.{cond-true, cond_both, and_parts, eqb-true, eq-eqb}
use Rattle.memory.specs.declared.actions.Action.{Action}
use Rattle.memory.specs.declared.actions.Action.TheVariants.{Local, Read, Write, Swap, Fence}
use Rattle.memory.specs.declared.actions.NotOffered.{NotOffered}
use Rattle.memory.specs.declared.actions.Seen.{Seen}
use Rattle.memory.specs.declared.actions.Take.{Take}
use Rattle.memory.specs.declared.shapes.Shape.{Shape}
use Rattle.memory.specs.Machine.{Leads, Taken}
use Rattle.memory.specs.Rules.{View, Message, first, first_pool, or_first, message, raise, reads, adds}
use Rattle.memory.specs.ReleaseAcquire.{Config, initial, machine, choices, admitted, step}
use Rattle.memory.specs.Choices.{Allowed, Timely, AlwaysTimely}
use Rattle.memory.specs.Passing.{picked}
use Rattle.memory.specs.Admits.{admits}

-- what holds of a new message and of an entry's message holds of the choice between them
pub either : (P : Message → Type 0) (b : Bool) (new : Message) (o : Option Message)
    → (b ≡ true → P new) → ((m : Message) → o ≡ Some m → P m) → (m : Message) → cond b (Some new) o ≡ Some m → P m
either P true new o here there m e = let same : new ≡ m = cc in subst P same (here refl)
either P false new o here there m e = there m e

-- at the start a message is the first one, at 0
pub first_at : (V x t : ℕ) (m : Message) → first_pool V x t ≡ Some m → (t ≡ 0) × (m ≡ first)
first_at V x t = either (λ o. (t ≡ 0) × (o ≡ first)) (nat_le x V && t == 0) first None
    (λ h. (eqb-true t 0 (and_parts (nat_le x V) (t == 0) h).1, refl))
    (λ o d. let z : ◌≡◌ {A = ℕ} 0 1 = cc in absurd (omega arith))

pub initial_timely : (shape : Shape) → Timely (initial shape)
initial_timely shape = record {
  low = λ x t m e. omega (arith, (first_at shape.variables x t m e).0);
  stamped = λ x t m e. let k = first_at shape.variables x t m e in ap (λ (o : Message). o.view x) k.1 ∙ sym k.0;
  sent = λ x t m e y. omega (arith, ap (λ (o : Message). o.view y) (first_at shape.variables x t m e).1);
  seen = λ p x. omega arith;
}

module _ (s : Config) (timely : Timely s) where
  -- a message added at t, whose view has t at its variable
  adds_timely : (p x t v : ℕ) (w : View) → t ≤ s.shape.ceiling → w x ≡ t → ((y : ℕ) → w y ≤ s.shape.ceiling)
      → Timely (record { shape = s.shape; store = adds s.store p x t v w })
  adds_timely p x t v w le own all = record {
    low = λ y u. either (λ m. u ≤ s.shape.ceiling) (here y u) new (s.store.pool y u)
        (λ h. omega (arith, (both y u h).1)) (timely.low y u);
    stamped = λ y u. either (λ m. m.view y ≡ u) (here y u) new (s.store.pool y u)
        (λ h. ap w (both y u h).0 ∙ (own ∙ sym (both y u h).1)) (timely.stamped y u);
    sent = λ y u m e z. either (λ o. o.view z ≤ s.shape.ceiling) (here y u) new (s.store.pool y u)
        (λ h. all z) (λ o d. timely.sent y u o d z) m e;
    seen = λ q y. cond_both (q == p) w (s.store.views q) (λ u. u y ≤ s.shape.ceiling) (λ h. all y) (λ h. timely.seen q y);
  }
    where
      new : Message
      new = record { value = v; view = w }

      here : ℕ → ℕ → Bool
      here y u = y == x && u == t

      both : (y u : ℕ) → here y u ≡ true → (y ≡ x) × (u ≡ t)
      both y u h = let k = and_parts (y == x) (u == t) h in (eqb-true y x k.0, eqb-true u t k.1)

  -- what is read, and a view raised to a timestamp
  reads_low : (p x t : ℕ) (m : Message) → s.store.pool x t ≡ Some m → (y : ℕ) → reads s.store p x t y ≤ s.shape.ceiling
  reads_low p x t m e y =
      let k : (message s.store x t).view y ≡ m.view y = ap (λ (o : Option Message). (or_first o).view y) e in
      omega (arith, timely.seen p y, timely.sent x t m e y)

  raise_low : (v : View) (x t : ℕ) → ((y : ℕ) → v y ≤ s.shape.ceiling) → t ≤ s.shape.ceiling
      → (y : ℕ) → raise v x t y ≤ s.shape.ceiling
  raise_low v x t all le y = cond_both (y == x) t (v y) (λ u. u ≤ s.shape.ceiling) (λ h. le) (λ h. all y)

  raise_own : (v : View) (x t : ℕ) → raise v x t x ≡ t
  raise_own v x t = cond-true (x == x) t (v x) (eq-eqb x x refl)

  pub kept : (p : ℕ) (a : Action) (t : ℕ) → Allowed s p a t → Timely (step s p a t).next
  kept p Local t h = timely
  kept p (Read x) t h = record {
    low = timely.low;
    stamped = timely.stamped;
    sent = timely.sent;
    seen = λ q y. cond_both (q == p) (reads s.store p x t) (s.store.views q) (λ u. u y ≤ s.shape.ceiling)
        (λ k. reads_low p x t h.1.1.0 h.1.1.1 y) (λ k. timely.seen q y);
  }
  kept p (Write x v) t h =
      adds_timely p x t v (raise (s.store.views p) x t) h.2 (raise_own (s.store.views p) x t)
      (raise_low (s.store.views p) x t (timely.seen p) h.2)
  kept p (Swap x old new) t h =
      let v : View = reads s.store p x t in
      adds_timely p x (t + 1) new (raise v x (t + 1)) h.2 (raise_own v x (t + 1))
      (raise_low v x (t + 1) (reads_low p x t h.1.1.0 h.1.1.1) h.2)
  kept p Fence t h = absurd h.1

-- one take, accepted or refused
taken_timely : (s : Config) → Timely s → (p : ℕ) (a : Action) (c : ℕ) (u : Config) (r : Result Seen NotOffered)
    → Taken machine s p a c u r → (u.shape ≡ s.shape) × Timely u
taken_timely s timely p a c u (Ok seen) h =
    let k = picked (admitted s p a) (s.shape.ceiling + 1) c h.offered in
    let t : ℕ = slice_index (choices s p a) c in (
      ap (λ (w : Config). w.shape) h.after,
      subst Timely (sym h.after) (kept s timely p a t (admits s p a t (omega (arith, k.1)) k.0)),
    )
taken_timely s timely p a c u (Err f) h = (ap (λ (w : Config). w.shape) h.same, subst Timely (sym h.same) timely)

leads_timely : (s : Config) → Timely s → (ks : List Take) (u : Config) → Leads machine s ks u → (u.shape ≡ s.shape) × Timely u
leads_timely s timely [] u h = (ap (λ (w : Config). w.shape) h, subst Timely (sym h) timely)
leads_timely s timely (k ∷ ks) u h =
    let j = taken_timely s timely k.process k.action k.choice h.0 h.1.0 h.1.1 in
    let i = leads_timely h.0 j.1 ks u h.2 in
    (i.0 ∙ j.0, i.1)

pub always_timely : AlwaysTimely
always_timely shape ks s h = leads_timely (initial shape) (initial_timely shape) ks s h
