-- Where the row of a process and a label stands.
-- The rows of lower processes are passed over; then the row of a label stands as far below its process's first as the label is
-- above 1.
use Rattle.std.proofs.Common.{◌≡◌, ℕ, zero, suc, ◌+◌, ◌-◌, ◌<◌, ◌≤◌, true, false, cond, ◌&&◌, ◌||◌, eqb, ltb, leb, List, [], ◌∷◌, ◌++◌, length, get_or, Some, None, sym, refl, ap, ◌∙◌, subst, inl, inr, arith}
use Rattle.std.proofs.lemmas.List.{get_or-append-add}
use Rattle.std.proofs.lemmas.List.Sums.{sum_by-cons, count_by-le-length}
use Rattle.std.proofs.lemmas.Bool.{cases_order, cases_Bool, and_from, and_parts, both_ways, le-leb}
use Rattle.std.proofs.lemmas.Bool.Decides.{nat_tests}
use Rattle.program.specs.declared.rows.Row.{Row}
use Rattle.program.specs.declared.rows.Counts.{Counts}
use Rattle.program.specs.declared.rows.Instruction.{Instruction}
use Rattle.program.specs.Program.{Program, within, operands_fit, is_term, rows_fit, ends_fit, labels_of, rows_below, instruction_at, proper}
use Rattle.program.specs.Tables.{Fits}
use Rattle.program.specs.Source.{numbered, listed}
use Rattle.program.proofs.Tallied.{length_numbered, labels_own, labels_later, labels_rest, below_later, labels_lower, below_own}
use Rattle.program.proofs.Follows.{next}
use Rattle.program.proofs.Blocks.{tested, blocks}

pub below_next : (rows : List Row) (q : ℕ) → rows_below rows (q + 1) ≡ rows_below rows q + labels_of rows q
below_next [] q = refl
below_next (r ∷ rows) q =
    let upto = sum_by-cons (λ (s : Row). cond (ltb s.process (q + 1)) 1 0) r rows in
    let under = sum_by-cons (λ (s : Row). cond (ltb s.process q) 1 0) r rows in
    let own = sum_by-cons (λ (s : Row). cond (eqb s.process q) 1 0) r rows in
    let rest = below_next rows q in
    grind (arith, nat_tests)

pub below_few : (rows : List Row) (q : ℕ) → rows_below rows q ≤ length rows
below_few rows q = count_by-le-length (λ (r : Row). ltb r.process q) rows

-- rows of another process, or of other labels, are passed over
past : (p k : ℕ) (xs : List Instruction) (after : List Row) (q l : ℕ) → (p ≡ q → k ≤ l → l < k + length xs → ⊥) → instruction_at (numbered p k xs ++ after) q l ≡ instruction_at after q l
past p k [] after q l other = refl
past p k (x ∷ xs) after q l other =
    let rest = past p (k + 1) xs after q l (λ e low high. other e (omega arith) (omega arith)) in
    let miss : p ≡ q → k ≡ l → ⊥ = λ e f. other e (omega arith) (omega arith) in
    grind (arith, nat_tests)

-- the row of label k + i stands i rows below that of label k
within_process : (p k : ℕ) (xs : List Instruction) (after : List Row) (i : ℕ) (d : Row) → i < length xs → instruction_at (numbered p k xs ++ after) p (k + i) ≡ Some (get_or (numbered p k xs ++ after) i d).instruction
within_process p k [] after i d h = absurd (omega arith)
within_process p k (x ∷ xs) after zero d h = grind (arith, nat_tests)
within_process p k (x ∷ xs) after (suc i) d h =
    let e : k + suc i ≡ k + 1 + i = omega arith in
    let rest = ap (λ (m : ℕ). instruction_at (numbered p (k + 1) xs ++ after) p m) e ∙ within_process p (k + 1) xs after i d (omega arith) in
    grind (arith, nat_tests)

found_listed : (p : ℕ) (processes : List (List Instruction)) (q l : ℕ) (d : Row) → 1 ≤ l → l ≤ labels_of (listed p processes) q → instruction_at (listed p processes) q l ≡ Some (get_or (listed p processes) (rows_below (listed p processes) q + (l - 1)) d).instruction
found_listed p [] q l d low high = absurd (omega arith)
found_listed p (xs ∷ rest) q l d low high =
    let rows = listed p (xs ∷ rest) in
    let after = listed (p + 1) rest in
    elim (cases_order q p) [
      | inl e ↦
          let few : l ≤ length xs = subst (λ (n : ℕ). l ≤ n) (ap (λ (a : ℕ). labels_of rows a) e ∙ labels_own p xs rest) high in
          let label : l ≡ 1 + (l - 1) = omega arith in
          let place : l - 1 ≡ rows_below rows q + (l - 1) = let z = below_own p (xs ∷ rest) q (omega arith) in omega arith in
          ap (λ (a : ℕ). instruction_at rows a l) e
          ∙ ap (λ (m : ℕ). instruction_at rows p m) label
          ∙ within_process p 1 xs after (l - 1) d (omega arith)
          ∙ ap (λ (i : ℕ). Some (get_or rows i d).instruction) place
      | inr (inl h) ↦ absurd (let z = labels_lower p (xs ∷ rest) q h in omega arith)
      | inr (inr h) ↦
          let few : l ≤ labels_of after q = subst (λ (n : ℕ). l ≤ n) (labels_later p xs rest q h) high in
          let place : length (numbered p 1 xs) + (rows_below after q + (l - 1)) ≡ rows_below rows q + (l - 1) =
          let under = below_later p xs rest q h in let own = length_numbered p 1 xs in omega arith in
          past p 1 xs after q l (λ e low' high'. omega arith)
          ∙ found_listed (p + 1) rest q l d low few
          ∙ ap (λ (r : Row). Some r.instruction) (sym (get_or-append-add (numbered p 1 xs) after (rows_below after q + (l - 1)) d))
          ∙ ap (λ (i : ℕ). Some (get_or rows i d).instruction) place
    ]

not_listed : (p : ℕ) (processes : List (List Instruction)) (q l : ℕ) → ((1 ≤ l) × (l ≤ labels_of (listed p processes) q) → ⊥) → instruction_at (listed p processes) q l ≡ None
not_listed p [] q l out = refl
not_listed p (xs ∷ rest) q l out =
    let rows = listed p (xs ∷ rest) in
    past p 1 xs (listed (p + 1) rest) q l (λ e low high. out (low, let own : labels_of rows q ≡ length xs = ap (λ (a : ℕ). labels_of rows a) (sym e) ∙ labels_own p xs rest in omega arith))
    ∙ not_listed (p + 1) rest q l (λ h. out (h.0, let more = labels_rest p xs rest q in omega arith))

pub found_at : (p : Program) (q l : ℕ) (d : Row) → proper p ≡ true → 1 ≤ l → l ≤ labels_of p.rows q → instruction_at p.rows q l ≡ Some (get_or p.rows (rows_below p.rows q + (l - 1)) d).instruction
found_at p q l d h low high =
    let (s, keeps, e) = blocks p h in
    let Goal : List Row → Type 0 = λ rows. l ≤ labels_of rows q → instruction_at rows q l ≡ Some (get_or rows (rows_below rows q + (l - 1)) d).instruction in
    subst Goal (sym (ap (λ (x : Program). x.rows) e)) (found_listed 1 s.processes q l d low) high

pub not_found : (p : Program) (q l : ℕ) → proper p ≡ true → ((1 ≤ l) × (l ≤ labels_of p.rows q) → ⊥) → instruction_at p.rows q l ≡ None
not_found p q l h out =
    let (s, keeps, e) = blocks p h in
    let Goal : List Row → Type 0 = λ rows. ((1 ≤ l) × (l ≤ labels_of rows q) → ⊥) → instruction_at rows q l ≡ None in
    subst Goal (sym (ap (λ (x : Program). x.rows) e)) (not_listed 1 s.processes q l) out

-- below a row that is not TERM another one of its process follows
abbrev Followed : List Row → Type 0
Followed [] = Unit {0}
Followed (r ∷ rows) = (is_term r.instruction ≡ false → 1 ≤ labels_of rows r.process) × Followed rows

followed : (processes : ℕ) (rows : List Row) → ends_fit processes rows ≡ true → Followed rows
followed processes [] ends = tt
followed processes (r ∷ []) ends =
    let end = and_parts (is_term r.instruction) (leb processes r.process) ends in
    (λ t. absurd (both_ways (is_term r.instruction) t end.0), tt)
followed processes (r ∷ (s ∷ rows)) ends =
    let end = and_parts (eqb r.process s.process || is_term r.instruction) (ends_fit processes (s ∷ rows)) ends in
    let both = end.0 in
    let count = sum_by-cons (λ (t : Row). cond (eqb t.process r.process) 1 0) s rows in
    (λ t. grind (arith, nat_tests), followed processes (s ∷ rows) end.1)

-- a row that is found among those below process p and label l
record Found (c : Counts) (L : ℕ → ℕ) (q m : ℕ) (x : Instruction) (high : ℕ) : Type 0 where
  process : within 1 c.processes q ≡ true
  label : within 1 32 m ≡ true
  operands : operands_fit c (L q) x ≡ true
  next : is_term x ≡ false → m < high

found_below : (c : Counts) (L : ℕ → ℕ) (q m : ℕ) (x : Instruction) (rows : List Row) (p l : ℕ)
    → rows_fit c L p l rows ≡ true → Followed rows → instruction_at rows q m ≡ Some x
    → Found c L q m x (cond (eqb q p) l 0 + labels_of rows q)
found_below c L q m x [] p l fit more e = let z : ◌≡◌ {A = ℕ} 0 1 = cc in absurd (omega arith)
found_below c L q m x (r ∷ rows) p l fit more e =
    let n = next c L p l r rows fit in
    let count = sum_by-cons (λ (t : Row). cond (eqb t.process q) 1 0) r rows in
    elim (cases_Bool (eqb r.process q && eqb r.label m)) [
      | inl b ↦
          let process : r.process ≡ q = grind (arith, nat_tests) in
          let label : r.label ≡ m = grind (arith, nat_tests) in
          let same : r.instruction ≡ x = cc in
          let place = n.place in
          let low : 1 ≤ q = omega (arith, place) in
          let first : 1 ≤ m = omega (arith, place) in
          let high : q ≤ c.processes = omega (arith, n.high) in
          let last : m ≤ 32 = omega (arith, n.few) in
          record {
            process = and_from (leb 1 q) (leb q c.processes) (le-leb 1 q low) (le-leb q c.processes high);
            label = and_from (leb 1 m) (leb m 32) (le-leb 1 m first) (le-leb m 32 last);
            operands = subst (λ (y : Instruction). operands_fit c (L q) y ≡ true) same (subst (λ (a : ℕ). operands_fit c (L a) r.instruction ≡ true) process n.operands);
            next = λ t.
                let another : 1 ≤ labels_of rows q = subst (λ (a : ℕ). 1 ≤ labels_of rows a) process (more.0 (ap is_term same ∙ t)) in
                grind (arith, nat_tests);
          }
      | inr b ↦
          let rest = found_below c L q m x rows r.process r.label n.below more.1 (cc) in
          record {
            process = rest.process;
            label = rest.label;
            operands = rest.operands;
            next = λ t. let high = rest.next t in grind (arith, nat_tests);
          }
    ]

pub found_fits : (p : Program) (q l : ℕ) (x : Instruction) → proper p ≡ true → instruction_at p.rows q l ≡ Some x → Fits p q l x
found_fits p q l x h e =
    let t = tested p h in
    let found = found_below p.counts (labels_of p.rows) q l x p.rows 0 0 t.rows_fit_in (followed p.counts.processes p.rows t.ends_fit_in) e in
    record {
      counts = t.counts;
      process = found.process;
      label = found.label;
      operands = found.operands;
      next = λ u. let high = found.next u in grind (arith, nat_tests);
    }
