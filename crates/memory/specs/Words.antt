-- The release-acquire memory as its struct stands: what it answers is what the rules say.
use Rattle.std.specs.Prelude.{◌≡◌, ℕ, ◌+◌, ◌≤◌, Bool, true, ◌↔◌, List, length, Some, None, Ok, Err, Result, nat_le, slice_index, refl}
use Rattle.std.proofs.Common.{sym, ap, subst, ◌∙◌, ⊎_elim, arith}
use Rattle.std.proofs.lemmas.Bool.{cases_Bool, cases_lt, leb-true, cond-false}
use Rattle.memory.specs.declared.actions.Action.{Action}
use Rattle.memory.specs.declared.actions.NotOffered.{NotOffered}
use Rattle.memory.specs.declared.actions.Seen.{Seen}
use Rattle.memory.specs.declared.actions.Take.{Take}
use Rattle.memory.specs.declared.release_acquire.ReleaseAcquire.{ReleaseAcquire}
use Rattle.memory.specs.declared.shapes.Shape.{Shape}
use Rattle.memory.specs.Shapes.{Inside}
use Rattle.memory.specs.Machine.{Taken, Leads}
use Rattle.memory.specs.Rules.{Message, Pool, Switches}
use Rattle.memory.specs.ReleaseAcquire.{Config, initial, admitted, choices, machine}
use Rattle.memory.specs.Choices.{ByTheRules, Offers, Takes}
use Rattle.memory.specs.MessageTable.{config, upto, pool_of}
use Rattle.memory.specs.Passing.{few}
use Rattle.memory.specs.Ruled.{ruled, switch_told}
use Rattle.memory.specs.Timely.{always_timely}

-- what is cut off at a timestamp has none above it
cut : (n : ℕ) (pool : Pool) (x t : ℕ) (m : Message) → upto n pool x t ≡ Some m → t ≤ n
cut n pool x t m e = ⊎_elim
    (λ h. leb-true t n h)
    (λ h. let k : None ≡ Some m = sym (cond-false (nat_le t n) (pool x t) None h) ∙ e in
    let z : ◌≡◌ {A = ℕ} 0 1 = cc in absurd (omega arith))
    (cases_Bool (nat_le t n))

rules_of : (r : ReleaseAcquire) (p : ℕ) (a : Action) → ByTheRules (config r) p a (choices (config r) p a)
rules_of r p a = ruled (config r) (cut r.shape.ceiling (pool_of r.messages)) p a

pub offers_told : (r : ReleaseAcquire) (p : ℕ) (a : Action) (n : ℕ) → n ≡ length (choices (config r) p a) → Offers (config r) p a n
offers_told r p a n e = record { times = choices (config r) p a; rules = rules_of r p a; count = e }

pub takes_told : (r : ReleaseAcquire) (p : ℕ) (a : Action) (c : ℕ) (u : Config) (answer : Result Seen NotOffered)
    → Taken machine (config r) p a c u answer → Takes (config r) p a c u answer
takes_told r p a c u (Ok seen) h = record {
  times = choices (config r) p a;
  rules = rules_of r p a;
  time = slice_index (choices (config r) p a) c;
  chosen = (h.offered, refl);
  shape = ap (λ (s : Config). s.shape) h.after;
  store = ap (λ (s : Config). s.store) h.after;
  sees = h.value;
  switch = subst
      (λ (b : Bool). (b ≡ true) ↔ Switches r.shape.variables (config r).store p a (slice_index (choices (config r) p a) c)) (sym h.mark)
      (switch_told r.shape.variables (config r).store p a (slice_index (choices (config r) p a) c));
}
takes_told r p a c u (Err f) h = record {
  times = choices (config r) p a;
  rules = rules_of r p a;
  told = h.offer;
  beyond = h.beyond;
  same = h.same;
}

-- the timestamps up to the highest ceiling are 25
pub at_most : (s : Config) (p : ℕ) (a : Action) → length (choices s p a) ≤ 25
at_most s p a = omega (arith, few (admitted s p a) (s.shape.ceiling + 1), s.shape.low)

-- no timestamp is allowed to a process or for a variable outside the shape
nothing : (s : Config) (p : ℕ) (a : Action) → ByTheRules s p a (choices s p a) → (Inside s.shape p a → ⊥)
    → length (choices s p a) ≡ 0
nothing s p a rules out = ⊎_elim
    (λ h. absurd (out ((rules.exactly (slice_index (choices s p a) 0)).0 (0, (h, refl))).0))
    (λ h. omega arith)
    (cases_lt 0 (length (choices s p a)))

pub outside : (shape : Shape) (ks : List Take) (s : Config) → Leads machine (initial shape) ks s
    → (p : ℕ) (a : Action) → (Inside shape p a → ⊥) → length (choices s p a) ≡ 0
outside shape ks s h p a out =
    let k = always_timely shape ks s h in
    nothing s p a (ruled s k.1.low p a) (λ i. out (subst (λ (q : Shape). Inside q p a) k.0 i))
