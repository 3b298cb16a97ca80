-- A line has no fault exactly if it is that of a move that can be made, and within the bounds.
use Rattle.std.proofs.Common.{◌≡◌, ℕ, ◌+◌, ◌<◌, ◌≤◌, Bool, true, false, cond, ◌&&◌, eqb, leb, ltb, List, [], ◌∷◌, length, get_or, Some, None, Option, sym, refl, ap, ◌∙◌, arith}
use Rattle.std.proofs.lemmas.Bool.{and_parts, and_from, eqb-true, eq-eqb, leb-true, le-leb, ltb-true, lt-ltb}
use Rattle.memory.specs.Machine.{Machine}
use Rattle.ceiling.specs.declared.moves.Move.{Move}
use Rattle.ceiling.specs.Programs.{World, deed, offers}
use Rattle.program.specs.Program.{Program, within}
use Rattle.program.proofs.RowTexts.{six_are}
use Rattle.worlds.specs.declared.places.Place.{Place}
use Rattle.worlds.specs.Worlds.{over, label_in, record_of}
use Rattle.runs.specs.declared.questions.Question.{Question}
use Rattle.runs.specs.Insides.{inside_of}
use Rattle.replay.specs.declared.faults.Fault.{Fault}
use Rattle.replay.specs.declared.faults.Fault.TheVariants.{Number, Process, Seen, Bounds}
use Rattle.replay.specs.Playing.{mark_number, record_fields, move_of, is_label, unoffered, line_fault}

-- where nothing is wrong, the test passed, and nothing is wrong after it
passed : (b : Bool) (o : Option Fault) (f : Fault) → cond b o (Some f) ≡ None → (b ≡ true) × (o ≡ None)
passed true o f e = (refl, e)
passed false o f e = let z : ◌≡◌ {A = ℕ} 0 1 = cc in let y : ⊥ = omega arith in elim y [ ]

passes : (b : Bool) (o : Option Fault) (f : Fault) → b ≡ true → o ≡ None → cond b o (Some f) ≡ None
passes b o f h e = ap (λ c. cond c o (Some f)) h ∙ e

labelled : (b : Bool) (l n : ℕ) → is_label (cond b (Some l) None) n ≡ true → n ≡ l
labelled true l n e = sym (eqb-true l n e)
labelled false l n e = let z : ◌≡◌ {A = ℕ} 0 1 = cc in let y : ⊥ = omega arith in elim y [ ]

pub label_there : (b : Bool) (l : ℕ) → b ≡ true → is_label (cond b (Some l) None) l ≡ true
label_there b l h = ap (λ c. is_label (cond c (Some l) None) l) h ∙ eq-eqb l l refl

module _ {Config : Type 0} (m : Machine Config) (t : Program) (q : Question) (w : World Config Place) (i s : ℕ) where
  -- The numbers of line i are those of the move k, which can be made, and the line and the switches are within the
  -- bounds.
  pub record Right (k : Move) (f : List ℕ) : Type 0 where
    pub fields : f ≡ record_fields i (record_of m t w k)
    pub offered : k.choice < offers m (over t) w k.process
    pub short : i ≤ q.steps
    pub few : s + mark_number (record_of m t w k).switch ≤ q.switches

  pub right : (f : List ℕ) → length f ≡ 6 → line_fault m t q w i s f ≡ None → Right (move_of f) f
  right f six e =
      let k = move_of f in
      let step = record_of m t w k in
      let a = passed (eqb (get_or f 0 0) i) _ (Number i) e in
      let b = passed (is_label (label_in t w.places k.process) (get_or f 2 0)) _ (Process i) a.1 in
      let c = passed (ltb k.choice (offers m (over t) w k.process)) _ (unoffered i (deed m (over t) w k.process) (offers m (over t) w k.process)) b.1 in
      let d = passed (eqb (get_or f 4 0) step.value && eqb (get_or f 5 0) (mark_number step.switch)) _ (Seen i) c.1 in
      let g = passed (leb i q.steps && leb (s + mark_number step.switch) q.switches) None (Bounds i) d.1 in
      let seen = and_parts (eqb (get_or f 4 0) step.value) (eqb (get_or f 5 0) (mark_number step.switch)) d.0 in
      let bounds = and_parts (leb i q.steps) (leb (s + mark_number step.switch) q.switches) g.0 in
      let number = eqb-true (get_or f 0 0) i a.0 in
      let label = labelled (within 1 t.counts.processes k.process) (w.places k.process).label (get_or f 2 0) b.0 in
      let value = eqb-true (get_or f 4 0) step.value seen.0 in
      let mark = eqb-true (get_or f 5 0) (mark_number step.switch) seen.1 in
      record {
        fields = six_are f six ∙ (λ j. number j ∷ (get_or f 1 0 ∷ (label j ∷ (get_or f 3 0 ∷ (value j ∷ (mark j ∷ []))))));
        offered = ltb-true k.choice (offers m (over t) w k.process) c.0;
        short = leb-true i q.steps bounds.0;
        few = leb-true (s + mark_number step.switch) q.switches bounds.1;
      }

  -- and there is no fault with such a line
  pub unfaulted : (k : Move) (f : List ℕ) → Right k f → line_fault m t q w i s f ≡ None
  unfaulted k f r =
      let p = k.process in
      let l = (w.places p).label in
      let step = record_of m t w k in
      let marked = mark_number step.switch in
      let inside = inside_of m t w p (omega (arith, r.offered)) in
      let there = label_there (within 1 t.counts.processes p) l (and_from (leb 1 p) (leb p t.counts.processes) (le-leb 1 p inside.0) (le-leb p t.counts.processes inside.1)) in
      let may = lt-ltb k.choice (offers m (over t) w p) r.offered in
      let seen = and_from (eqb step.value step.value) (eqb marked marked) (eq-eqb step.value step.value refl) (eq-eqb marked marked refl) in
      let bounds = and_from (leb i q.steps) (leb (s + marked) q.switches) (le-leb i q.steps r.short) (le-leb (s + marked) q.switches r.few) in
      ap (line_fault m t q w i s) r.fields
      ∙ passes (eqb i i) _ (Number i) (eq-eqb i i refl)
      (passes (is_label (label_in t w.places p) l) _ (Process i) there
      (passes (ltb k.choice (offers m (over t) w p)) _ (unoffered i (deed m (over t) w p) (offers m (over t) w p)) may
      (passes (eqb step.value step.value && eqb marked marked) _ (Seen i) seen
      (passes (leb i q.steps && leb (s + marked) q.switches) None (Bounds i) bounds refl))))
