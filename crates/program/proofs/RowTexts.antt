-- Rows that are read are those whose numbers the lines have, and they fit; rows that fit are read back.
use Rattle.std.proofs.Common.{◌≡◌, ℕ, ◌+◌, ◌≤◌, Bool, true, cond, ◌&&◌, ◌||◌, eqb, ltb, leb, List, [], ◌∷◌, map, length, get_or, Some, None, Ok, Err, Option, Result, sym, refl, ap, ◌∙◌, subst, ap₂, arith}
use Rattle.std.proofs.lemmas.Bool.{and_parts, and_from, le-ltb, le-leb, leb-true, ltb-false}
use Rattle.std.specs.List.{AllByRecursion}
use Rattle.program.specs.declared.refusals.Refusal.{Refusal}
use Rattle.program.specs.declared.refusals.Refusal.TheVariants.{Order, Operand, NoTerm, NoProcess}
use Rattle.program.specs.declared.rows.Row.{Row}
use Rattle.program.specs.declared.rows.Counts.{Counts}
use Rattle.program.specs.declared.rows.Instruction.{Instruction}
use Rattle.program.specs.Program.{row_fields, instruction_fields, operands_fit, follows, rows_fit, ends_fit, is_term, Six}
use Rattle.program.specs.Reading.{cons_to, instruction_of, row_with, row_read, rows_read, ends_read}
use Rattle.program.proofs.Follows.{next}
use Rattle.program.proofs.Instructions.{instruction_back, instruction_is}
use Rattle.program.proofs.Outcomes.{cons_ok, cond_ok, cond_else, not_both}

-- six numbers, one by one
pub six_are : (f : List ℕ) → length f ≡ 6 → f ≡ get_or f 0 0 ∷ (get_or f 1 0 ∷ (get_or f 2 0 ∷ (get_or f 3 0 ∷ (get_or f 4 0 ∷ (get_or f 5 0 ∷ [])))))
six_are [] e = let z : ⊥ = omega arith in elim z [ ]
six_are (a ∷ []) e = let z : ⊥ = omega arith in elim z [ ]
six_are (a ∷ (b ∷ [])) e = let z : ⊥ = omega arith in elim z [ ]
six_are (a ∷ (b ∷ (c ∷ []))) e = let z : ⊥ = omega arith in elim z [ ]
six_are (a ∷ (b ∷ (c ∷ (d ∷ [])))) e = let z : ⊥ = omega arith in elim z [ ]
six_are (a ∷ (b ∷ (c ∷ (d ∷ (g ∷ []))))) e = let z : ⊥ = omega arith in elim z [ ]
six_are (a ∷ (b ∷ (c ∷ (d ∷ (g ∷ (h ∷ [])))))) e = refl
six_are (a ∷ (b ∷ (c ∷ (d ∷ (g ∷ (h ∷ (k ∷ fs))))))) e = let z : ⊥ = omega arith in elim z [ ]

with_is : (i p l : ℕ) (o : Option Instruction) (r : Row) → row_with i p l o ≡ Ok r → (x : Instruction) × (o ≡ Some x) × (r ≡ record { process = p; label = l; instruction = x })
with_is i p l (Some x) r e = (x, refl, cc)
with_is i p l None r e = not_both (Operand i) r e

module _ (c : Counts) (L : ℕ → ℕ) where
  -- what a row that was read keeps
  abbrev pub Fits : ℕ → ℕ → List ℕ → Row → Type 0
  Fits p l f r = (follows c p l r.process r.label ≡ true) × (operands_fit c (L r.process) r.instruction ≡ true) × (f ≡ row_fields r)

  pub row_is : (p l i : ℕ) (f : List ℕ) (r : Row) → length f ≡ 6 → row_read c L p l i f ≡ Ok r → Fits p l f r
  row_is p l i f r six e =
      let t = cond_ok (follows c p l (get_or f 0 0) (get_or f 1 0)) _ (Order i) r e in
      let w = with_is i (get_or f 0 0) (get_or f 1 0) _ r t.1 in
      let x = w.0 in
      let k = instruction_is c (L (get_or f 0 0)) (get_or f 3 0) (get_or f 4 0) (get_or f 5 0) x (get_or f 2 0) w.1 in
      let whole : f ≡ get_or f 0 0 ∷ (get_or f 1 0 ∷ instruction_fields x) = six_are f six ∙ ap (λ (s : List ℕ). get_or f 0 0 ∷ (get_or f 1 0 ∷ s)) k.0 in
      subst (Fits p l f) (sym w.2) (t.0, k.1, whole)

  pub rows_are : (p l i : ℕ) (fs : List (List ℕ)) (rows : List Row) → AllByRecursion Six fs → rows_read c L p l i fs ≡ Ok rows → (rows_fit c L p l rows ≡ true) × (fs ≡ map row_fields rows)
  rows_are p l i [] rows six e =
      let none : [] ≡ rows = cc in
      subst (λ (z : List Row). (rows_fit c L p l z ≡ true) × ([] ≡ map row_fields z)) none (refl, refl)
  rows_are p l i (f ∷ fs) rows six e =
      let s = cons_ok (row_read c L p l i f) (rows_read c L (get_or f 0 0) (get_or f 1 0) (i + 1) fs) rows e in
      let r = s.0 in
      let one = row_is p l i f r six.0.0 s.2 in
      let at : (get_or f 0 0 ≡ r.process) × (get_or f 1 0 ≡ r.label) = (ap (λ (g : List ℕ). get_or g 0 0) one.2, ap (λ (g : List ℕ). get_or g 1 0) one.2) in
      let more = rows_are (get_or f 0 0) (get_or f 1 0) (i + 1) fs s.1 six.1 s.3 in
      let below : rows_fit c L r.process r.label s.1 ≡ true = ap₂ (λ (q m : ℕ). rows_fit c L q m s.1) (sym at.0) (sym at.1) ∙ more.0 in
      let fit = and_from (follows c p l r.process r.label) (operands_fit c (L r.process) r.instruction && rows_fit c L r.process r.label s.1) one.0 (and_from (operands_fit c (L r.process) r.instruction) (rows_fit c L r.process r.label s.1) one.1 below) in
      subst (λ (z : List Row). (rows_fit c L p l z ≡ true) × (f ∷ fs ≡ map row_fields z)) (sym s.4) (fit, ap₂ (λ (g : List ℕ) (gs : List (List ℕ)). g ∷ gs) one.2 more.1)

  pub rows_back : (p l i : ℕ) (rows : List Row) → rows_fit c L p l rows ≡ true → rows_read c L p l i (map row_fields rows) ≡ Ok rows
  rows_back p l i [] e = refl
  rows_back p l i (r ∷ rows) e =
      let n = next c L p l r rows e in
      let f = row_fields r in
      let one : row_read c L p l i f ≡ Ok r =
      ap (λ (b : Bool). cond b (row_with i r.process r.label (instruction_of c (L r.process) (get_or f 2 0) (get_or f 3 0) (get_or f 4 0) (get_or f 5 0))) (Err (Order i))) n.follow
      ∙ ap (λ (o : Option Instruction). row_with i r.process r.label o) (instruction_back c (L r.process) r.instruction n.operands) in
      ap₂ (λ (a : Result Row Refusal) (b : Result (List Row) Refusal). cons_to a b) one (rows_back r.process r.label (i + 1) rows n.below)

-- the ends of the processes
pub ends_are : (P i : ℕ) (rows : List Row) → 1 ≤ length rows → ends_read P i rows ≡ Ok tt → ends_fit P rows ≡ true
ends_are P i [] h e = let z : ⊥ = omega arith in elim z [ ]
ends_are P i (r ∷ []) h e =
    let t = cond_ok (is_term r.instruction) _ (NoTerm i) tt e in
    let low = ltb-false r.process P (cond_else (ltb r.process P) (NoProcess i) tt tt t.1) in
    and_from (is_term r.instruction) (leb P r.process) t.0 (le-leb P r.process low)
ends_are P i (r ∷ (s ∷ rows)) h e =
    let t = cond_ok (eqb r.process s.process || is_term r.instruction) _ (NoTerm i) tt e in
    and_from (eqb r.process s.process || is_term r.instruction) (ends_fit P (s ∷ rows)) t.0 (ends_are P (i + 1) (s ∷ rows) (omega arith) t.1)

pub ends_back : (P i : ℕ) (rows : List Row) → ends_fit P rows ≡ true → ends_read P i rows ≡ Ok tt
ends_back P i [] e = let z : ◌≡◌ {A = ℕ} 0 1 = cc in let y : ⊥ = omega arith in elim y [ ]
ends_back P i (r ∷ []) e =
    let t = and_parts (is_term r.instruction) (leb P r.process) e in
    ap (λ (b : Bool). cond b (cond (ltb r.process P) (Err (NoProcess i)) (Ok tt)) (Err (NoTerm i))) t.0
    ∙ ap (λ (b : Bool). cond b (Err (NoProcess i)) (Ok tt)) (le-ltb r.process P (leb-true P r.process t.1))
ends_back P i (r ∷ (s ∷ rows)) e =
    let t = and_parts (eqb r.process s.process || is_term r.instruction) (ends_fit P (s ∷ rows)) e in
    ap (λ (b : Bool). cond b (ends_read P (i + 1) (s ∷ rows)) (Err (NoTerm i))) t.0 ∙ ends_back P (i + 1) (s ∷ rows) t.1
