-- Where the rows of each process begin.
-- Rows stand by process, so how many rows name each process add up to where the next begins.
use Rattle.std.proofs.Common.{◌≡◌, ℕ, zero, suc, ◌+◌, ◌-◌, ◌<◌, ◌≤◌, Bool, true, false, cond, ◌&&◌, eqb, ltb, ◌⊎◌, List, [], ◌∷◌, length, get_or, take, drop, Some, None, Option, sym, refl, ap, ◌∙◌, ap₂, inl, inr, arith}
use Rattle.std.proofs.lemmas.List.Sums.{sum_by-cons}
use Rattle.std.proofs.lemmas.Bool.{and_parts, or_cases, ne_eqb, le-ltb, eqb-true, both_ways}
use Rattle.std.proofs.lemmas.List.{nil_from_length, length-take, length-drop, get_or-take, get_or-drop}
use Rattle.program.specs.declared.rows.Row.{Row}
use Rattle.program.specs.declared.rows.Counts.{Counts}
use Rattle.program.specs.declared.rows.Instruction.{Instruction}
use Rattle.program.specs.Program.{Program, labels_of, rows_below, rows_fit, proper, kept, counts_none, is_nothing, Counted, starts_of, sums, instruction_at}
use Rattle.program.specs.Tables.{FitsAt}
use Rattle.program.proofs.Follows.{next}
use Rattle.program.proofs.Blocks.{tested}
use Rattle.program.proofs.Lookup.{below_next, below_few, found_at, not_found, found_fits}
use Rattle.program.proofs.Smalls.{limits}

below_zero : (rows : List Row) → rows_below rows 0 ≡ 0
below_zero [] = refl
below_zero (r ∷ rows) =
    sum_by-cons (λ (s : Row). cond (ltb s.process 0) 1 0) r rows ∙ ap₂ (λ (b : Bool) (n : ℕ). cond b 1 0 + n) (le-ltb r.process 0 (omega arith)) (below_zero rows)

-- the sums of how many rows name each process
module _ (labels : List ℕ) (rows : List Row) (counted : Counted labels (labels_of rows)) where
  next_start : (q : ℕ) → q < 5 → (n : ℕ) → n ≡ rows_below rows q → n + get_or labels q 0 ≡ rows_below rows (q + 1)
  next_start q h n e = ap₂ (λ (a b : ℕ). a + b) e (counted q h) ∙ sym (below_next rows q)

  one : get_or labels 0 0 ≡ rows_below rows 1
  one = omega (arith, next_start 0 (omega arith) 0 (sym (below_zero rows)))

  two : get_or labels 0 0 + get_or labels 1 0 ≡ rows_below rows 2
  two = next_start 1 (omega arith) (get_or labels 0 0) one

  three : get_or labels 0 0 + get_or labels 1 0 + get_or labels 2 0 ≡ rows_below rows 3
  three = next_start 2 (omega arith) (get_or labels 0 0 + get_or labels 1 0) two

  four : get_or labels 0 0 + get_or labels 1 0 + get_or labels 2 0 + get_or labels 3 0 ≡ rows_below rows 4
  four = next_start 3 (omega arith) (get_or labels 0 0 + get_or labels 1 0 + get_or labels 2 0) three

  five : get_or labels 0 0 + get_or labels 1 0 + get_or labels 2 0 + get_or labels 3 0 + get_or labels 4 0 ≡ rows_below rows 5
  five = next_start 4 (omega arith) (get_or labels 0 0 + get_or labels 1 0 + get_or labels 2 0 + get_or labels 3 0) four

  pub sums_few : get_or labels 0 0 + get_or labels 1 0 + get_or labels 2 0 + get_or labels 3 0 + get_or labels 4 0 ≤ length rows
  sums_few = omega (arith, five, below_few rows 5)

  pub sums_are : sums labels ≡ starts_of rows
  sums_are = let a = below_zero rows in let b = one in let c = two in let d = three in let e = four in let f = five in cc

place_at : (rows : List Row) (q : ℕ) → q < 6 → get_or (starts_of rows) q 0 ≡ rows_below rows q
place_at rows zero h = refl
place_at rows (suc zero) h = refl
place_at rows (suc (suc zero)) h = refl
place_at rows (suc (suc (suc zero))) h = refl
place_at rows (suc (suc (suc (suc zero)))) h = refl
place_at rows (suc (suc (suc (suc (suc zero))))) h = refl
place_at rows (suc (suc (suc (suc (suc (suc q)))))) h = let z : ⊥ = omega arith in elim z [ ]

module _ (starts : List ℕ) (rows : List Row) (placed : starts ≡ starts_of rows) (q : ℕ) (low : q ≤ 4) where
  pub start_at : get_or starts q 0 ≡ rows_below rows q
  start_at = ap (λ (s : List ℕ). get_or s q 0) placed ∙ place_at rows q (omega arith)

  pub next_at : get_or starts (q + 1) 0 ≡ rows_below rows q + labels_of rows q
  next_at = ap (λ (s : List ℕ). get_or s (q + 1) 0) placed ∙ place_at rows (q + 1) (omega arith) ∙ below_next rows q

-- the part of the rows that a process has
pub part_long : (rows : List Row) (q : ℕ) → length (take (labels_of rows q) (drop (rows_below rows q) rows)) ≡ labels_of rows q
part_long rows q = length-take (labels_of rows q) (drop (rows_below rows q) rows) ∙ omega (arith, length-drop (rows_below rows q) rows, below_next rows q, below_few rows (q + 1))

-- no row names a process that the table has not
module _ (c : Counts) (L : ℕ → ℕ) (q : ℕ) (high : c.processes < q) where
  none_past : (p l : ℕ) (rows : List Row) → rows_fit c L p l rows ≡ true → labels_of rows q ≡ 0
  none_past p l [] e = refl
  none_past p l (r ∷ rows) e =
      let n = next c L p l r rows e in
      sum_by-cons (λ (s : Row). cond (eqb s.process q) 1 0) r rows
      ∙ ap₂ (λ (b : Bool) (n : ℕ). cond b 1 0 + n) (ne_eqb r.process q (λ (s : r.process ≡ q). omega (arith, n.high))) (none_past r.process r.label rows n.below)

-- what every table keeps, by whether anything was read
kept_cases : (p : Program) → kept p ≡ true → (p.rows ≡ []) ⊎ (proper p ≡ true)
kept_cases p e = elim (or_cases (counts_none p.counts && is_nothing p) (proper p) e) [
  | inl n ↦ inl (nil_from_length p.rows (eqb-true (length p.rows) 0 (and_parts (counts_none p.counts) (is_nothing p) n).1))
  | inr g ↦ inr g
]

pub kept_proper : (p : Program) → kept p ≡ true → is_nothing p ≡ false → proper p ≡ true
kept_proper p e n = elim (or_cases (counts_none p.counts && is_nothing p) (proper p) e) [
  | inl b ↦ let t = (and_parts (counts_none p.counts) (is_nothing p) b).1 in absurd (both_ways (is_nothing p) n t)
  | inr g ↦ g
]

module _ (p : Program) (keeps : kept p ≡ true) (q : ℕ) where
  pub past_last : 4 < q → labels_of p.rows q ≡ 0
  past_last h = elim (kept_cases p keeps) [
    | inl n ↦ ap (λ (rows : List Row). labels_of rows q) n
    | inr g ↦ let t = tested p g in none_past p.counts (labels_of p.rows) q (omega (arith, (limits p.counts t.counts).0)) 0 0 p.rows t.rows_fit_in
  ]

  module _ (l : ℕ) where
    pub at_place : (d : Row) → 1 ≤ l → l ≤ labels_of p.rows q → instruction_at p.rows q l ≡ Some (get_or p.rows (rows_below p.rows q + (l - 1)) d).instruction
    at_place d low high = elim (kept_cases p keeps) [
      | inl n ↦ let none : labels_of p.rows q ≡ 0 = ap (λ (rows : List Row). labels_of rows q) n in let z : ⊥ = omega arith in elim z [ ]
      | inr g ↦ found_at p q l d g low high
    ]

    pub at_no_place : ((1 ≤ l) × (l ≤ labels_of p.rows q) → ⊥) → instruction_at p.rows q l ≡ None
    at_no_place h = elim (kept_cases p keeps) [
      | inl n ↦ ap (λ (rows : List Row). instruction_at rows q l) n
      | inr g ↦ not_found p q l g h
    ]

    fits_here : (r : Option Instruction) → instruction_at p.rows q l ≡ r → FitsAt p q l r
    fits_here None e = tt
    fits_here (Some x) e = elim (kept_cases p keeps) [
      | inl n ↦ let none : instruction_at p.rows q l ≡ None = ap (λ (rows : List Row). instruction_at rows q l) n in let z : ◌≡◌ {A = ℕ} 0 1 = cc in let y : ⊥ = omega arith in elim y [ ]
      | inr g ↦ found_fits p q l x g e
    ]

    pub fits_at : (r : Option Instruction) → r ≡ instruction_at p.rows q l → FitsAt p q l r
    fits_at r e = fits_here r (sym e)

-- the row at a place among those of a process is that of its label
module _ (p : Program) (keeps : kept p ≡ true) (q : ℕ) (part : List Row) (are : part ≡ take (labels_of p.rows q) (drop (rows_below p.rows q) p.rows)) where
  long : length part ≡ labels_of p.rows q
  long = ap length are ∙ part_long p.rows q

  pub found_in : (i l : ℕ) (d r : Row) → l ≡ i + 1 → i < length part → r ≡ get_or part i d → Some r.instruction ≡ instruction_at p.rows q l
  found_in i l d r e h at =
      let same : r ≡ get_or p.rows (rows_below p.rows q + (l - 1)) d = at ∙ ap (λ (z : List Row). get_or z i d) are ∙ get_or-take (labels_of p.rows q) (drop (rows_below p.rows q) p.rows) i d (omega (arith, long)) ∙ get_or-drop (rows_below p.rows q) p.rows i d ∙ ap (λ (n : ℕ). get_or p.rows n d) (omega arith) in
      ap (λ (x : Row). Some x.instruction) same ∙ sym (at_place p keeps q l d (omega arith) (omega (arith, long)))

  pub found_none : (l : ℕ) → ((1 ≤ l) × (l ≤ length part) → ⊥) → None ≡ instruction_at p.rows q l
  found_none l h = sym (at_no_place p keeps q l (λ both. h (both.0, omega (arith, long, both.1))))
