-- What comes of a line that has its number and whose process stands at its label: by its choice, and then by its step.
use Rattle.std.proofs.Common.{◌≡◌, ℕ, ◌+◌, ◌<◌, ◌≤◌, Bool, true, false, cond, ◌&&◌, eqb, List, get_or, Some, None, Ok, Err, Option, Result, sym, refl, ap, ◌∙◌, subst, arith}
use Rattle.std.proofs.lemmas.Bool.{eq-eqb, lt-ltb, le-ltb}
use Rattle.memory.specs.Machine.{Machine}
use Rattle.ceiling.specs.declared.moves.Move.{Move}
use Rattle.ceiling.specs.Programs.{World, offers}
use Rattle.program.specs.Program.{Program}
use Rattle.worlds.specs.declared.places.Place.{Place}
use Rattle.worlds.specs.declared.records.Record.{Record}
use Rattle.worlds.specs.Worlds.{over, label_in, record_of, Went}
use Rattle.runs.specs.declared.questions.Question.{Question}
use Rattle.replay.specs.declared.faults.Fault.{Fault}
use Rattle.replay.specs.declared.faults.Fault.TheVariants.{Seen, Bounds}
use Rattle.replay.specs.Playing.{mark_number, move_of, is_label, line_fault}
use Rattle.replay.specs.Turns.{allowed, judged, Turned, Stepped}

module _ {Config : Type 0} (m : Machine Config) (t : Program) (q : Question) (w v : World Config Place) (i s : ℕ) (f : List ℕ)
    (number : get_or f 0 0 ≡ i) (label : is_label (label_in t w.places (get_or f 1 0)) (get_or f 2 0) ≡ true) where
  abbrev p : ℕ
  p = get_or f 1 0

  -- the move with the choice c
  abbrev k : ℕ → Move
  k c = record { process = p; choice = c }

  pub not_made : (c : ℕ) (fault : Fault) → c ≡ get_or f 3 0 → Stepped m t w i (k c) v (Err fault) → line_fault m t q w i s f ≡ Some fault
  not_made c fault e h =
      let beyond : offers m (over t) w p ≤ get_or f 3 0 = omega (arith, h.0) in
      rw (eq-eqb (get_or f 0 0) i number, label, le-ltb (get_or f 3 0) (offers m (over t) w p) beyond) (ap Some (sym h.1))

  abbrev step : Record
  step = record_of m t w (move_of f)

  -- what is wrong with the line is what is wrong with its step
  abbrev step_fault : Bool → Bool → Option Fault
  step_fault same within = cond same (cond within None (Some (Bounds i))) (Some (Seen i))

  abbrev as_told : Bool
  as_told = eqb (get_or f 4 0) step.value && eqb (get_or f 5 0) (mark_number step.switch)

  line_is : get_or f 3 0 < offers m (over t) w p → line_fault m t q w i s f ≡ step_fault as_told (allowed q i (s + mark_number step.switch))
  line_is h = rw (eq-eqb (get_or f 0 0) i number, label, lt-ltb (get_or f 3 0) (offers m (over t) w p) h) refl

  -- and what the step is judged to be is what comes of the line
  pub is_judged : (c : ℕ) (made : Record) (o : Result ℕ Fault) → c ≡ get_or f 3 0 → Went m t w (k c) v made
      → o ≡ judged q i s made (get_or f 4 0) (get_or f 5 0) → Turned m t q w i s f v o
  is_judged c made o same h e =
      go as_told (allowed q i n) (line_is named.offered) (e ∙ ap (λ r. judged q i s r (get_or f 4 0) (get_or f 5 0)) named.step_is)
    where
      named : Went m t w (move_of f) v made
      named = subst (λ z. Went m t w (k z) v made) same h

      n : ℕ
      n = s + mark_number step.switch

      go : (same within : Bool) → line_fault m t q w i s f ≡ step_fault same within → o ≡ cond same (cond within (Ok n) (Err (Bounds i))) (Err (Seen i))
          → Turned m t q w i s f v o
      go true true l r = rw r (record { right = l; after = named.after; switches = refl })
      go true false l r = rw r l
      go false _ l r = rw r l
