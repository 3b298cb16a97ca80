-- What is refused is wrong in the way that the refusal says: the rows.
-- Along the rows: what is right up to here is kept, and the first row that is not gives the reason and its line.
use Rattle.std.proofs.Common.{◌≡◌, ℕ, suc, ◌+◌, ◌<◌, Bool, true, false, cond, ◌&&◌, ◌||◌, eqb, ltb, ◌⊎◌, List, [], ◌∷◌, ◌++◌, map, length, get_or, Some, None, Ok, Err, Option, sym, refl, ap, ◌∙◌, subst, ap₂, inl, inr, arith}
use Rattle.std.proofs.lemmas.Bool.{and_from, or_parts, eqb-false, ltb-true}
use Rattle.std.specs.List.{AllByRecursion}
use Rattle.program.specs.declared.refusals.Refusal.{Refusal}
use Rattle.program.specs.declared.refusals.Refusal.TheVariants.{Order, Operand, NoTerm, NoProcess}
use Rattle.program.specs.declared.rows.Row.{Row}
use Rattle.program.specs.declared.rows.Counts.{Counts}
use Rattle.program.specs.declared.rows.Instruction.{Instruction}
use Rattle.program.specs.Faults.{Headed, Reached, Judged, Faulty, process_at, label_at, terms, EndsProcess}
use Rattle.program.specs.Program.{Six, row_fields, instruction_fields, operands_fit, follows, rows_fit, is_term}
use Rattle.program.specs.Reading.{instruction_of, row_with, row_read, rows_read, ends_read, named}
use Rattle.program.proofs.Instructions.{instruction_back}
use Rattle.program.proofs.Outcomes.{cons_err, cond_err, cond_then, not_both}
use Rattle.program.proofs.RowTexts.{row_is}

with_err : (i p l : ℕ) (o : Option Instruction) (e : Refusal) → row_with i p l o ≡ Err e → (o ≡ None) × (Operand i ≡ e)
with_err i p l (Some x) e h = not_both e (record { process = p; label = l; instruction = x }) (sym h)
with_err i p l None e h = (refl, cc)

module _ (c : Counts) (L : ℕ → ℕ) where
  abbrev found : List ℕ → Option Instruction
  found f = instruction_of c (L (get_or f 0 0)) (get_or f 2 0) (get_or f 3 0) (get_or f 4 0) (get_or f 5 0)

  -- the rows that are right, up to the first that is not
  abbrev Why : ℕ → ℕ → ℕ → Refusal → List Row → List ℕ → Type 0
  Why p l i e rows f =
      ((e ≡ Order (i + length rows)) × (follows c (process_at p rows) (label_at l rows) (get_or f 0 0) (get_or f 1 0) ≡ false))
      ⊎ ((e ≡ Operand (i + length rows)) × (follows c (process_at p rows) (label_at l rows) (get_or f 0 0) (get_or f 1 0) ≡ true) × (found f ≡ None))

  record Breaks (p l i : ℕ) (fs : List (List ℕ)) (e : Refusal) : Type 0 where
    rows : List Row
    line : List ℕ
    rest : List (List ℕ)
    are : fs ≡ map row_fields rows ++ (line ∷ rest)
    right : rows_fit c L p l rows ≡ true
    why : Why p l i e rows line

  here : (i : ℕ) → i ≡ i + 0
  here i = omega arith

  why_first : (p l i : ℕ) (f : List ℕ) (e : Refusal) → row_read c L p l i f ≡ Err e → Why p l i e [] f
  why_first p l i f e h = elim (cond_err (follows c p l (get_or f 0 0) (get_or f 1 0)) (row_with i (get_or f 0 0) (get_or f 1 0) (found f)) (Order i) e h) [
    | inl t ↦ inl (sym t.1 ∙ ap Order (here i), t.0)
    | inr t ↦ let w = with_err i (get_or f 0 0) (get_or f 1 0) (found f) e t.1 in inr (sym w.1 ∙ ap Operand (here i), t.0, w.0)
  ]

  why_later : (p l i : ℕ) (e : Refusal) (r : Row) (rows : List Row) (f : List ℕ) → Why r.process r.label (i + 1) e rows f → Why p l i e (r ∷ rows) f
  why_later p l i e r rows f (inl t) = let n : (i + 1) + length rows ≡ i + suc (length rows) = omega arith in inl (t.0 ∙ ap Order n, t.1)
  why_later p l i e r rows f (inr t) = let n : (i + 1) + length rows ≡ i + suc (length rows) = omega arith in inr (t.0 ∙ ap Operand n, t.1, t.2)

  breaks : (p l i : ℕ) (fs : List (List ℕ)) (e : Refusal) → AllByRecursion Six fs → rows_read c L p l i fs ≡ Err e → Breaks p l i fs e
  breaks p l i [] e six h = not_both e [] (sym h)
  breaks p l i (f ∷ fs) e six h = elim (cons_err (row_read c L p l i f) (rows_read c L (get_or f 0 0) (get_or f 1 0) (i + 1) fs) e h) [
    | inl first ↦ record { rows = []; line = f; rest = fs; are = refl; right = refl; why = why_first p l i f e first }
    | inr more ↦
        let r = more.0 in
        let one = row_is c L p l i f r six.0.0 more.1 in
        let at : (get_or f 0 0 ≡ r.process) × (get_or f 1 0 ≡ r.label) = (ap (λ (g : List ℕ). get_or g 0 0) one.2, ap (λ (g : List ℕ). get_or g 1 0) one.2) in
        let below : rows_read c L r.process r.label (i + 1) fs ≡ Err e = ap₂ (λ (q m : ℕ). rows_read c L q m (i + 1) fs) (sym at.0) (sym at.1) ∙ more.2 in
        let b = breaks r.process r.label (i + 1) fs e six.1 below in
        record {
          rows = r ∷ b.rows;
          line = b.line;
          rest = b.rest;
          are = ap₂ (λ (g : List ℕ) (gs : List (List ℕ)). g ∷ gs) one.2 b.are;
          right = and_from (follows c p l r.process r.label) (operands_fit c (L r.process) r.instruction && rows_fit c L r.process r.label b.rows) one.0 (and_from (operands_fit c (L r.process) r.instruction) (rows_fit c L r.process r.label b.rows) one.1 b.right);
          why = why_later p l i e r b.rows b.line b.why;
        }
  ]

  no_instruction : (f : List ℕ) (x : Instruction) → found f ≡ None → operands_fit c (L (get_or f 0 0)) x ≡ true → f ≡ get_or f 0 0 ∷ (get_or f 1 0 ∷ instruction_fields x) → ⊥
  no_instruction f x none fit e =
      let same : found f ≡ found (get_or f 0 0 ∷ (get_or f 1 0 ∷ instruction_fields x)) = ap found e in
      let some = instruction_back c (L (get_or f 0 0)) x fit in
      let z : ◌≡◌ {A = ℕ} 0 1 = cc in omega arith

pub no_row : (text : List ℕ) (c : Counts) (fs : List (List ℕ)) (e : Refusal) → Headed text c fs → rows_read c (named fs) 0 0 2 fs ≡ Err e → Faulty text e
no_row text c fs e headed h =
    let b = breaks c (named fs) 0 0 2 fs e headed.numbers h in
    let place : 2 + length b.rows ≡ length b.rows + 2 = omega arith in
    let reached : Reached text (2 + length b.rows) b.line (named fs) c b.rows = record {
      rest = b.rest;
      headed = subst (Headed text c) b.are headed;
      counted = ap named b.are;
      right = b.right;
      place = place;
    } in
    elim b.why [
      | inl t ↦ subst (Faulty text) (sym t.0) (record { line = b.line; labels = named fs; counts = c; rows = b.rows; reached = reached; wrong = t.1 })
      | inr t ↦ subst (Faulty text) (sym t.0) (record { line = b.line; labels = named fs; counts = c; rows = b.rows; reached = reached; follow = t.1; wrong = λ x fit is. no_instruction c (named fs) b.line x t.2 fit is })
    ]

-- the ends of the processes
abbrev joins : Row → Row → Bool
joins r s = eqb r.process s.process || is_term r.instruction

terms_first : (r s : Row) (rows front : List Row) (row : Row) (rest : List Row) → s ∷ rows ≡ front ++ (row ∷ rest) → joins r s ≡ true → terms (front ++ (row ∷ [])) ≡ true → terms (r ∷ (front ++ (row ∷ []))) ≡ true
terms_first r s rows [] row rest e t h =
    let same : s ≡ row = cc in
    and_from (joins r row) true (subst (λ (x : Row). joins r x ≡ true) same t) refl
terms_first r s rows (x ∷ front) row rest e t h =
    let same : s ≡ x = cc in
    and_from (joins r x) (terms (x ∷ (front ++ (row ∷ [])))) (subst (λ (y : Row). joins r y ≡ true) same t) h

-- the rows up to the one at which the ends are wrong
record Open (P i : ℕ) (rows : List Row) (e : Refusal) : Type 0 where
  front : List Row
  row : Row
  rest : List Row
  are : rows ≡ front ++ (row ∷ rest)
  below : terms (front ++ (row ∷ [])) ≡ true
  why : ((e ≡ NoTerm (i + length front)) × (is_term row.instruction ≡ false) × EndsProcess row rest) ⊎ ((e ≡ NoProcess (i + length front)) × (is_term row.instruction ≡ true) × (row.process < P) × (rest ≡ []))

why_next : (P i n : ℕ) (e : Refusal) (row : Row) (rest : List Row) → ((e ≡ NoTerm ((i + 1) + n)) × (is_term row.instruction ≡ false) × EndsProcess row rest) ⊎ ((e ≡ NoProcess ((i + 1) + n)) × (is_term row.instruction ≡ true) × (row.process < P) × (rest ≡ [])) → ((e ≡ NoTerm (i + suc n)) × (is_term row.instruction ≡ false) × EndsProcess row rest) ⊎ ((e ≡ NoProcess (i + suc n)) × (is_term row.instruction ≡ true) × (row.process < P) × (rest ≡ []))
why_next P i n e row rest (inl t) = let k : (i + 1) + n ≡ i + suc n = omega arith in inl (t.0 ∙ ap NoTerm k, t.1, t.2)
why_next P i n e row rest (inr t) = let k : (i + 1) + n ≡ i + suc n = omega arith in inr (t.0 ∙ ap NoProcess k, t.1, t.2, t.3)

opens : (P i : ℕ) (rows : List Row) (e : Refusal) → ends_read P i rows ≡ Err e → Open P i rows e
opens P i [] e h = not_both e tt (sym h)
opens P i (r ∷ []) e h =
    let n : i ≡ i + 0 = omega arith in
    elim (cond_err (is_term r.instruction) (cond (ltb r.process P) (Err (NoProcess i)) (Ok tt)) (NoTerm i) e h) [
      | inl t ↦ record { front = []; row = r; rest = []; are = refl; below = refl; why = inl (sym t.1 ∙ ap NoTerm n, t.0, tt) }
      | inr t ↦
          let u = cond_then (ltb r.process P) (NoProcess i) e tt t.1 in
          record { front = []; row = r; rest = []; are = refl; below = refl; why = inr (sym u.1 ∙ ap NoProcess n, t.0, ltb-true r.process P u.0, refl) }
    ]
opens P i (r ∷ (s ∷ rows)) e h = elim (cond_err (joins r s) (ends_read P (i + 1) (s ∷ rows)) (NoTerm i) e h) [
  | inl t ↦
      let n : i ≡ i + 0 = omega arith in
      let parts = or_parts (eqb r.process s.process) (is_term r.instruction) t.0 in
      record { front = []; row = r; rest = s ∷ rows; are = refl; below = refl; why = inl (sym t.1 ∙ ap NoTerm n, parts.1, eqb-false r.process s.process parts.0) }
  | inr t ↦
      let o = opens P (i + 1) (s ∷ rows) e t.1 in
      record {
        front = r ∷ o.front;
        row = o.row;
        rest = o.rest;
        are = ap (λ (z : List Row). r ∷ z) o.are;
        below = terms_first r s rows o.front o.row o.rest o.are t.0 o.below;
        why = why_next P i (length o.front) e o.row o.rest o.why;
      }
]

pub no_end : (text : List ℕ) (c : Counts) (rows : List Row) (e : Refusal) → Judged text c rows → ends_read c.processes 2 rows ≡ Err e → Faulty text e
no_end text c rows e judged h =
    let o = opens c.processes 2 rows e h in
    let place : 2 + length o.front ≡ length o.front + 2 = omega arith in
    elim o.why [
      | inl t ↦ subst (Faulty text) (sym t.0) (record { counts = c; front = o.front; row = o.row; rest = o.rest; judged = subst (Judged text c) o.are judged; place = place; below = o.below; ends = t.2; wrong = t.1 })
      | inr t ↦
          let whole : rows ≡ o.front ++ (o.row ∷ []) = o.are ∙ ap (λ (z : List Row). o.front ++ (o.row ∷ z)) t.3 in
          subst (Faulty text) (sym t.0) (record { counts = c; front = o.front; row = o.row; judged = subst (Judged text c) whole judged; place = place; below = o.below; term = t.1; wrong = t.2 })
    ]
