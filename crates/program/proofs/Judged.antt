-- The rows below a header, judged one by one.
use Rattle.std.proofs.Common.{◌≡◌, ℕ, ◌+◌, ◌<◌, ◌≤◌, Bool, true, false, cond, eqb, List, [], ◌∷◌, ◌++◌, length, get_or, drop, Some, None, Ok, Err, Option, Result, sym, refl, ap, ◌∙◌, ap₂, inl, inr, arith}
use Rattle.std.proofs.lemmas.List.{drop_more}
use Rattle.std.proofs.lemmas.List.Sums.{sum_by-cons}
use Rattle.std.proofs.lemmas.Bool.{cases_Bool}
use Rattle.program.specs.declared.refusals.Refusal.{Refusal}
use Rattle.program.specs.declared.refusals.Refusal.TheVariants.{Order, Operand}
use Rattle.program.specs.declared.rows.Row.{Row}
use Rattle.program.specs.declared.rows.Counts.{Counts}
use Rattle.program.specs.declared.rows.Instruction.{Instruction}
use Rattle.program.specs.Program.{follows, labels_of, Counted}
use Rattle.program.specs.Reading.{cons_to, instruction_of, row_with, row_read, rows_read, named}
use Rattle.program.proofs.Follows.{follows_means}
use Rattle.program.proofs.Fronts.{front, front_more, front_stop}
use Rattle.program.proofs.Outcomes.{cons_ok, not_both}

-- an accepted row has the process and the label of its line
with_place : (i p l : ℕ) (o : Option Instruction) (r : Row) → row_with i p l o ≡ Ok r → (r.process ≡ p) × (r.label ≡ l)
with_place i p l (Some x) r e = (let s : r ≡ record { process = p; label = l; instruction = x } = cc in ap (λ (y : Row). y.process) s, let s : r ≡ record { process = p; label = l; instruction = x } = cc in ap (λ (y : Row). y.label) s)
with_place i p l None r e = not_both (Operand i) r e

placed_by : (b : Bool) (i p l : ℕ) (o : Option Instruction) (r : Row) → cond b (row_with i p l o) (Err (Order i)) ≡ Ok r → (r.process ≡ p) × (r.label ≡ l)
placed_by true i p l o r e = with_place i p l o r e
placed_by false i p l o r e = not_both (Order i) r e

module _ (c : Counts) where
  module _ (L : ℕ → ℕ) where
    pub row_place : (p l i : ℕ) (f : List ℕ) (r : Row) → row_read c L p l i f ≡ Ok r → (r.process ≡ get_or f 0 0) × (r.label ≡ get_or f 1 0)
    row_place p l i f r e = placed_by (follows c p l (get_or f 0 0) (get_or f 1 0)) i (get_or f 0 0) (get_or f 1 0) _ r e

    module _ (p l i : ℕ) (fs : List (List ℕ)) (k : ℕ) (d : List ℕ) (h : k < length fs) (xs : List Row) where
      rows_at : front xs (rows_read c L p l i (drop k fs)) ≡ front xs (cons_to (row_read c L p l i (get_or fs k d)) (rows_read c L (get_or (get_or fs k d) 0 0) (get_or (get_or fs k d) 1 0) (i + 1) (drop (k + 1) fs)))
      rows_at = ap (λ (z : List (List ℕ)). front xs (rows_read c L p l i z)) (drop_more fs k d h)

      pub rows_more : (r : Row) → Ok r ≡ row_read c L p l i (get_or fs k d) → front xs (rows_read c L p l i (drop k fs)) ≡ front (xs ++ (r ∷ [])) (rows_read c L r.process r.label (i + 1) (drop (k + 1) fs))
      rows_more r e =
          let at = row_place p l i (get_or fs k d) r (sym e) in
          rows_at
          ∙ front_more xs r _ _ e
          ∙ ap₂ (λ (q m : ℕ). front (xs ++ (r ∷ [])) (rows_read c L q m (i + 1) (drop (k + 1) fs))) (sym at.0) (sym at.1)

      pub rows_stop : (e : Refusal) → Err e ≡ row_read c L p l i (get_or fs k d) → Err e ≡ front xs (rows_read c L p l i (drop k fs))
      rows_stop f e = front_stop xs f _ _ e ∙ sym rows_at

    -- as many rows as lines name a process
    pub named_rows : (p l i : ℕ) (fs : List (List ℕ)) (rows : List Row) → rows_read c L p l i fs ≡ Ok rows → (q : ℕ) → named fs q ≡ labels_of rows q
    named_rows p l i [] rows e q = let none : [] ≡ rows = cc in ap (λ (z : List Row). labels_of z q) none
    named_rows p l i (f ∷ fs) rows e q =
        let s = cons_ok (row_read c L p l i f) (rows_read c L (get_or f 0 0) (get_or f 1 0) (i + 1) fs) rows e in
        sum_by-cons (λ (g : List ℕ). cond (eqb (get_or g 0 0) q) 1 0) f fs
        ∙ ap₂ (λ (m n : ℕ). cond (eqb m q) 1 0 + n) (sym (row_place p l i f s.0 s.2).0) (named_rows (get_or f 0 0) (get_or f 1 0) (i + 1) fs s.1 s.3 q)
        ∙ sym (sum_by-cons (λ (r : Row). cond (eqb r.process q) 1 0) s.0 s.1)
        ∙ ap (λ (z : List Row). labels_of z q) (sym s.4)

  -- rows are judged by the number of labels of the processes that the table has alone
  module _ (L M : ℕ → ℕ) (same : (q : ℕ) → q ≤ c.processes → L q ≡ M q) where
    row_labels : (p l i : ℕ) (f : List ℕ) → row_read c L p l i f ≡ row_read c M p l i f
    row_labels p l i f =
        let at = λ (N : ℕ → ℕ). row_with i (get_or f 0 0) (get_or f 1 0) (instruction_of c (N (get_or f 0 0)) (get_or f 2 0) (get_or f 3 0) (get_or f 4 0) (get_or f 5 0)) in
        elim (cases_Bool (follows c p l (get_or f 0 0) (get_or f 1 0))) [
          | inl e ↦
              let low = (follows_means c p l (get_or f 0 0) (get_or f 1 0) e).0 in
              ap (λ (n : ℕ). cond (follows c p l (get_or f 0 0) (get_or f 1 0)) (row_with i (get_or f 0 0) (get_or f 1 0) (instruction_of c n (get_or f 2 0) (get_or f 3 0) (get_or f 4 0) (get_or f 5 0))) (Err (Order i))) (same (get_or f 0 0) low)
          | inr e ↦
              ap (λ (b : Bool). cond b (at L) (Err (Order i))) e ∙ sym (ap (λ (b : Bool). cond b (at M) (Err (Order i))) e)
        ]

    pub rows_labels : (p l i : ℕ) (fs : List (List ℕ)) → rows_read c L p l i fs ≡ rows_read c M p l i fs
    rows_labels p l i [] = refl
    rows_labels p l i (f ∷ fs) =
        ap (λ (z : Result Row Refusal). cons_to z (rows_read c L (get_or f 0 0) (get_or f 1 0) (i + 1) fs)) (row_labels p l i f)
        ∙ ap (λ (z : Result (List Row) Refusal). cons_to (row_read c M p l i f) z) (rows_labels (get_or f 0 0) (get_or f 1 0) (i + 1) fs)

-- and so by a count of each process that a table may have
pub judged_by : (c : Counts) (labels : List ℕ) (fs : List (List ℕ)) → c.processes ≤ 4 → Counted labels (named fs) → rows_read c (λ q. get_or labels q 0) 0 0 2 fs ≡ rows_read c (named fs) 0 0 2 fs
judged_by c labels fs few counted = rows_labels c (λ q. get_or labels q 0) (named fs) (λ q h. counted q (omega arith)) 0 0 2 fs

pub counted_rows : (c : Counts) (labels : List ℕ) (fs : List (List ℕ)) (rows : List Row) → Counted labels (named fs) → Ok rows ≡ rows_read c (named fs) 0 0 2 fs → Counted labels (labels_of rows)
counted_rows c labels fs rows counted e q h = counted q h ∙ named_rows c (named fs) 0 0 2 fs rows (sym e) q
