-- The values that steps see stay within 0 to 255: the law of a memory, and its proof for each.
use Rattle.std.specs.Prelude.{ℕ, ◌+◌, ◌≤◌, ◌&&◌, List, [], ◌∷◌, Some, None, Ok, Err, Result, ◌==◌, nat_le, slice_index}
use Rattle.std.proofs.Common.{sym, subst, arith}
use Rattle.std.proofs.lemmas.Bool.{cond_both}
use Rattle.memory.specs.declared.actions.Action.{Action}
use Rattle.memory.specs.declared.actions.Action.TheVariants.{Local, Read, Write, Swap, Fence}
use Rattle.memory.specs.declared.actions.NotOffered.{NotOffered}
use Rattle.memory.specs.declared.actions.Seen.{Seen}
use Rattle.memory.specs.declared.actions.Take.{Take}
use Rattle.memory.specs.declared.shapes.Shape.{Shape}
use Rattle.memory.specs.Machine.{Machine, Taken, Leads, InBytes, AllInBytes}
use Rattle.memory.specs.Sequential as seq
use Rattle.memory.specs.Rules.{Store, View, first, or_first, message, start, adds, after, value}
use Rattle.memory.specs.ReleaseAcquire as ra
use Rattle.memory.specs.Fences.{fenced, lowered}
use Rattle.memory.specs.Fenced.{leads_below, lowered_takes}

-- where takes of actions in bytes have led from the start of a shape, a step of such an action sees a byte
abbrev pub SeesBytes : {Config : Type 0} → Machine Config → Type 0
SeesBytes {Config = Config} m =
    (shape : Shape) (ks : List Take) (s : Config) → Leads m (m.initial shape) ks s → AllInBytes ks
    → (p : ℕ) (a : Action) (c : ℕ) → InBytes a → (m.step s p a c).value ≤ 255

-- what every step keeps whose action is in bytes, takes of such actions keep
module _ {Config : Type 0} (m : Machine Config) (Holds : Config → Type 0)
    (kept : (s : Config) (p : ℕ) (a : Action) (c : ℕ) → Holds s → InBytes a → Holds (m.step s p a c).next) where
  taken_holds : (s : Config) (p : ℕ) (a : Action) (c : ℕ) (u : Config) (r : Result Seen NotOffered)
      → Holds s → InBytes a → Taken m s p a c u r → Holds u
  taken_holds s p a c u (Ok seen) holds small h = subst Holds (sym h.after) (kept s p a c holds small)
  taken_holds s p a c u (Err f) holds small h = subst Holds (sym h.same) holds

  leads_holds : (s : Config) (ks : List Take) (t : Config) → Holds s → AllInBytes ks → Leads m s ks t → Holds t
  leads_holds s [] t holds small h = subst Holds (sym h) holds
  leads_holds s (k ∷ ks) t holds small h =
      leads_holds h.0 ks t (taken_holds s k.process k.action k.choice h.0 h.1.0 holds small.0 h.1.1) small.1 h.2

-- sequential: the value of each variable
abbrev SmallValues : seq.Config → Type 0
SmallValues s = (x : ℕ) → s.values x ≤ 255

sequential_kept : (s : seq.Config) (p : ℕ) (a : Action) (c : ℕ) → SmallValues s → InBytes a → SmallValues (seq.step s p a c).next
sequential_kept s p Local c holds small = holds
sequential_kept s p (Read x) c holds small = holds
sequential_kept s p (Write x v) c holds small = λ y. cond_both (y == x) v (s.values y) (λ n. n ≤ 255) (λ h. small) (λ h. holds y)
sequential_kept s p (Swap x old new) c holds small = λ y. cond_both (y == x) new (s.values y) (λ n. n ≤ 255) (λ h. small.1) (λ h. holds y)
sequential_kept s p Fence c holds small = holds

sequential_sees : (s : seq.Config) (a : Action) → SmallValues s → seq.seen s a ≤ 255
sequential_sees s Local holds = omega arith
sequential_sees s (Read x) holds = holds x
sequential_sees s (Write x v) holds = omega arith
sequential_sees s (Swap x old new) holds = holds x
sequential_sees s Fence holds = omega arith

pub sequential : SeesBytes seq.machine
sequential shape ks s h small p a c asked =
    sequential_sees s a (leads_holds seq.machine SmallValues sequential_kept (seq.initial shape) ks s (λ x. omega arith) small h)

-- release-acquire: the value of each message
abbrev SmallMessages : Store → Type 0
SmallMessages C = (x t : ℕ) → (message C x t).value ≤ 255

adds_small : (C : Store) (p x t v : ℕ) (w : View) → SmallMessages C → v ≤ 255 → SmallMessages (adds C p x t v w)
adds_small C p x t v w holds small = λ y u.
    cond_both (y == x && u == t) (Some (record { value = v; view = w })) (C.pool y u) (λ o. (or_first o).value ≤ 255) (λ h. small) (λ h. holds y u)

rules_kept : (C : Store) (p : ℕ) (a : Action) (t : ℕ) → SmallMessages C → InBytes a → SmallMessages (after C p a t)
rules_kept C p Local t holds small = holds
rules_kept C p (Read x) t holds small = holds
rules_kept C p (Write x v) t holds small = adds_small C p x t v _ holds small
rules_kept C p (Swap x old new) t holds small = adds_small C p x (t + 1) new _ holds small.1
rules_kept C p Fence t holds small = holds

rules_see : (C : Store) (a : Action) (t : ℕ) → SmallMessages C → value C a t ≤ 255
rules_see C Local t holds = omega arith
rules_see C (Read x) t holds = holds x t
rules_see C (Write x v) t holds = omega arith
rules_see C (Swap x old new) t holds = holds x t
rules_see C Fence t holds = omega arith

starts_small : (V : ℕ) → SmallMessages (start V)
starts_small V = λ x t. cond_both (nat_le x V && t == 0) (Some first) None (λ o. (or_first o).value ≤ 255) (λ h. omega arith) (λ h. omega arith)

pub release_acquire : SeesBytes ra.machine
release_acquire shape ks s h small p a c asked =
    let kept : (u : ra.Config) (q : ℕ) (b : Action) (d : ℕ) → SmallMessages u.store → InBytes b → SmallMessages (ra.machine.step u q b d).next.store =
    λ u q b d. rules_kept u.store q b (slice_index (ra.choices u q b) d) in
    rules_see s.store a (slice_index (ra.choices s p a) c)
    (leads_holds ra.machine (λ (u : ra.Config). SmallMessages u.store) kept (ra.initial shape) ks s (starts_small shape.variables) small h)

-- through the fence layer: a fence asks for 0
lowered_small : (a : Action) → InBytes a → InBytes (lowered a)
lowered_small Local small = tt
lowered_small (Read x) small = tt
lowered_small (Write x v) small = small
lowered_small (Swap x old new) small = small
lowered_small Fence small = (omega arith, omega arith)

takes_small : {Config : Type 0} (m : Machine Config) (ks : List Take) → AllInBytes ks → AllInBytes (lowered_takes m ks)
takes_small m [] small = tt
takes_small m (k ∷ ks) small = (lowered_small k.action small.0, takes_small m ks small.1)

pub fences : {Config : Type 0} (m : Machine Config) → SeesBytes m → SeesBytes (fenced m)
fences m below shape ks s h small p a c asked =
    below shape (lowered_takes m ks) s (leads_below m (m.initial shape) ks s h) (takes_small m ks small) p (lowered a) c (lowered_small a asked)
