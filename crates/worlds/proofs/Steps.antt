-- A move that the code makes is the step of the program over the memory.
use Rattle.std.proofs.Common.{◌≡◌, ℕ, ◌<◌, ◌≤◌, Err, List, length, set, Some, Option, sym, ap, ◌∙◌, subst, inl, inr, get_or-set_same, get_or-set_other, arith}
use mathlib.Core.Path.{fun_ext}
use Rattle.std.proofs.lemmas.Bool.{cases_eq, eq-eqb, ne_eqb}
use Rattle.memory.specs.declared.actions.Action.{Action}
use Rattle.memory.specs.declared.actions.Seen.{Seen}
use Rattle.memory.specs.Machine.{Machine, Accepted}
use Rattle.ceiling.specs.declared.moves.Move.{Move}
use Rattle.ceiling.specs.Programs.{World, offers, deed, offer_of, made, led, step_of}
use Rattle.program.specs.Program as table
use Rattle.worlds.specs.declared.places.Place.{Place}
use Rattle.worlds.specs.declared.records.Unmade.{Unmade}
use Rattle.worlds.specs.declared.records.Unmade.TheVariants.{NoMove, Refused}
use Rattle.worlds.specs.declared.standing.Standing.{Standing}
use Rattle.worlds.specs.Places.{beginning, action_of, moved, shown}
use Rattle.worlds.specs.Worlds.{instruction_in, action_by, moved_by, shown_by, over, places_of, At, Made, Went}

-- writing a place is where a process is led
led_to : (t : table.Program) (places : List Place) (p v : ℕ) (s : Standing) → p < length places → At t (places_of places) p s
    → (q : ℕ) → places_of (set places p (moved s.values s.instruction s.place v)) q ≡ led (over t) (places_of places) p v q
led_to t places p v s l h q =
    let x = moved s.values s.instruction s.place v in
    elim (cases_eq q p) [
      | inl e ↦
          let wrote : places_of (set places p x) q ≡ x = ap (places_of (set places p x)) e ∙ get_or-set_same places p x beginning l in
          let leads : (over t).leads p (places_of places p) v ≡ x =
          ap (λ i. moved_by t.counts.values i (places_of places p) v) h.instruction
          ∙ ap (λ n. moved n s.instruction (places_of places p) v) (sym h.values)
          ∙ ap (λ z. moved s.values s.instruction z v) (sym h.place) in
          rw (eq-eqb q p e, led) (wrote ∙ sym leads ∙ ap (λ z. (over t).leads z (places_of places z) v) (sym e))
      | inr n ↦ rw (ne_eqb q p n, led) (get_or-set_other places p q x beginning n)
    ]

module _ {Config : Type 0} (m : Machine Config) (t : table.Program) (c : Config) (places : List Place) (k : Move) (s : Standing)
    (found : At t (places_of places) k.process s) where
  abbrev here : World Config Place
  here = record { config = c; places = places_of places }

  -- what the process does, as the code looks it up
  pub asks : (o : Option Action) → o ≡ action_of s.instruction s.place → deed m (over t) here k.process ≡ o
  asks o e =
      ap (λ i. action_by i (places_of places k.process)) found.instruction
      ∙ ap (action_of s.instruction) (sym found.place) ∙ sym e

  pub went : (a : Action) (u : Config) (seen : Seen) (to : Place) (value : ℕ) → length places ≡ 5
      → Some a ≡ action_of s.instruction s.place → Accepted m c k.process a k.choice u seen
      → to ≡ moved s.values s.instruction s.place seen.value → value ≡ shown s.instruction seen.value
      → Went m t here k (record { config = u; places = places_of (set places k.process to) })
      (record { process = k.process; label = s.place.label; choice = k.choice; value = value; switch = seen.switch })
  went a u seen to value long act taken moves tells =
      let d = asks (Some a) act in
      let l : k.process < length places = omega (arith, found.low) in
      let step : made m (over t) here k ≡ m.step c k.process a k.choice = ap (λ o. step_of m (over t) c k.process o k.choice) d in
      let saw : seen.value ≡ (made m (over t) here k).value = taken.value ∙ sym (ap (λ z. z.value) step) in
      record {
        offered = subst (λ (o : Option Action). k.choice < offer_of m (over t) c k.process o) (sym d) taken.offered;
        after = λ i. record {
          config = (taken.after ∙ sym (ap (λ z. z.next) step)) i;
          places = (ap (λ z. places_of (set places k.process z)) moves
              ∙ fun_ext (led_to t places k.process seen.value s l found)
              ∙ ap (led (over t) (places_of places) k.process) saw) i;
        };
        step_is = λ i. record {
          process = k.process;
          label = ap (λ (z : Place). z.label) found.place i;
          choice = k.choice;
          value = (tells ∙ sym (ap (λ o. shown_by o seen.value) found.instruction)
              ∙ ap (shown_by (instruction_in t k.process (places_of places k.process))) saw) i;
          switch = (taken.mark ∙ sym (ap (λ z. z.mark) step)) i;
        };
      }

-- a choice that is refused is not below the offer
pub refused : {Config : Type 0} (m : Machine Config) (t : table.Program) (w : World Config Place) (k : Move) (v : World Config Place)
    (why : Unmade) → Made m t w k v (Err why) → offers m (over t) w k.process ≤ k.choice
refused m t w k v NoMove h = let e : offers m (over t) w k.process ≡ 0 = ap (offer_of m (over t) w.config k.process) h.none in omega arith
refused m t w k v (Refused f) h = h.beyond
