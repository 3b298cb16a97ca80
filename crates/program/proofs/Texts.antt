-- A text that is read is the table's, which is proper; a proper table's text is read as that table.
use Rattle.std.proofs.Common.{◌≡◌, ℕ, ◌≤◌, Bool, true, cond, eqb, leb, List, [], ◌∷◌, map, length, get_or, Ok, Err, Result, sym, refl, ap, ◌∙◌, subst, ap₂, arith}
use mathlib.Core.Path.{fun_ext}
use Rattle.std.proofs.lemmas.List.{length-map}
use Rattle.std.proofs.lemmas.List.Sums.{count_by-le-length}
use Rattle.std.proofs.lemmas.Bool.{and_parts, and_from, eqb-true, eq-eqb, leb-true, le-leb}
use Rattle.std.specs.List.{AllByRecursion}
use Rattle.program.specs.declared.refusals.Refusal.{Refusal}
use Rattle.program.specs.declared.refusals.Refusal.TheVariants.{Length, Field, Header}
use Rattle.program.specs.declared.rows.Row.{Row}
use Rattle.program.specs.declared.rows.Counts.{Counts}
use Rattle.program.specs.Program.{Program, header_fields, row_fields, table_fields, table_text, lines_text, within, counts_fit, labels_of, rows_fit, ends_fit, proper, Six}
use Rattle.program.specs.Reading.{then_do, lines_read, counts_of, header_fits, header_read, named, rows_read, ends_read, body_read, table_read, read}
use Rattle.program.proofs.Blocks.{tested}
use Rattle.program.proofs.Judged.{named_rows}
use Rattle.program.proofs.LineTexts.{lines_are, lines_back}
use Rattle.program.proofs.Outcomes.{then_ok, cond_ok, not_both}
use Rattle.program.proofs.Smalls.{rows_small, header_small}
use Rattle.program.proofs.RowTexts.{six_are, rows_are, rows_back, ends_are, ends_back}

-- the header
pub header_is : (h : List ℕ) (n : ℕ) (c : Counts) → length h ≡ 6 → header_read h n ≡ Ok c → (counts_fit c ≡ true) × (1 ≤ n) × (n ≤ 128) × (h ≡ header_fields c n)
header_is h n c six e =
    let t = cond_ok (header_fits h n) (Ok (counts_of h)) Header c e in
    let same : counts_of h ≡ c = let k = t.1 in cc in
    let a = and_parts (within 1 4 (get_or h 0 0)) _ t.0 in
    let b = and_parts (within 1 4 (get_or h 1 0)) _ a.1 in
    let d = and_parts (within 1 4 (get_or h 2 0)) _ b.1 in
    let f = and_parts (within 2 8 (get_or h 3 0)) _ d.1 in
    let g = and_parts (within 1 128 (get_or h 4 0)) _ f.1 in
    let k = and_parts (eqb (get_or h 4 0) n) (eqb (get_or h 5 0) 0) g.1 in
    let m = and_parts (leb 1 (get_or h 4 0)) (leb (get_or h 4 0) 128) g.0 in
    let en = eqb-true (get_or h 4 0) n k.0 in
    let ez = eqb-true (get_or h 5 0) 0 k.1 in
    let low : 1 ≤ n = omega (arith, leb-true 1 (get_or h 4 0) m.0) in
    let high : n ≤ 128 = omega (arith, leb-true (get_or h 4 0) 128 m.1) in
    let fit : counts_fit (counts_of h) ≡ true = and_from _ _ a.0 (and_from _ _ b.0 (and_from _ _ d.0 f.0)) in
    let whole : h ≡ header_fields (counts_of h) n = six_are h six ∙ ap₂ (λ (x y : ℕ). get_or h 0 0 ∷ (get_or h 1 0 ∷ (get_or h 2 0 ∷ (get_or h 3 0 ∷ (x ∷ (y ∷ [])))))) en ez in
    subst (λ (z : Counts). (counts_fit z ≡ true) × (1 ≤ n) × (n ≤ 128) × (h ≡ header_fields z n)) same (fit, low, high, whole)

-- the numbers of all lines
table_is : (fs : List (List ℕ)) (p : Program) → AllByRecursion Six fs → table_read fs ≡ Ok p → (proper p ≡ true) × (fs ≡ table_fields p)
table_is [] p six e = not_both Length p e
table_is (h ∷ fs) p six e =
    let a = then_ok (header_read h (length fs)) (λ c. body_read c fs) p e in
    let c = a.0 in
    let head = header_is h (length fs) c six.0.0 a.1 in
    let b = then_ok (rows_read c (named fs) 0 0 2 fs) (λ rows. then_do (ends_read c.processes 2 rows) (λ _. Ok (record { counts = c; rows = rows }))) p a.2 in
    let rows = b.0 in
    let ends = then_ok (ends_read c.processes 2 rows) (λ _. Ok (record { counts = c; rows = rows })) p b.2 in
    let same : record { counts = c; rows = rows } ≡ p = let k = ends.2 in cc in
    let body = rows_are c (named fs) 0 0 2 fs rows six.1 b.1 in
    let long : length rows ≡ length fs = sym (ap length body.1 ∙ length-map rows row_fields) in
    let labels : named fs ≡ labels_of rows = fun_ext (named_rows c (named fs) 0 0 2 fs rows b.1) in
    let fit : rows_fit c (labels_of rows) 0 0 rows ≡ true = ap (λ (L : ℕ → ℕ). rows_fit c L 0 0 rows) (sym labels) ∙ body.0 in
    let few : leb (length rows) 128 ≡ true = le-leb (length rows) 128 (omega (arith, head.2)) in
    let closed = ends_are c.processes 2 rows (omega (arith, head.1)) ends.1 in
    let good : proper (record { counts = c; rows = rows }) ≡ true = and_from _ _ head.0 (and_from _ _ few (and_from _ _ fit closed)) in
    let first : h ≡ header_fields c (length rows) = head.3 ∙ ap (λ (n : ℕ). header_fields c n) (sym long) in
    let whole : h ∷ fs ≡ table_fields (record { counts = c; rows = rows }) = ap₂ (λ (x : List ℕ) (xs : List (List ℕ)). x ∷ xs) first body.1 in
    subst (λ (z : Program). (proper z ≡ true) × (h ∷ fs ≡ table_fields z)) same (good, whole)

pub read_is : (text : List ℕ) (p : Program) → read text ≡ Ok p → (proper p ≡ true) × (text ≡ table_text p)
read_is text p e =
    let a = then_ok (lines_read text) table_read p e in
    let c = lines_are 2 129 Length Field text a.0 a.1 in
    let d = table_is a.0 p c.0 a.2 in
    (d.0, c.1 ∙ ap lines_text d.1)

-- a proper table's text is read as that table
pub header_back : (c : Counts) (n : ℕ) → counts_fit c ≡ true → 1 ≤ n → n ≤ 128 → header_read (header_fields c n) n ≡ Ok c
header_back c n fit low high =
    let a = and_parts (within 1 4 c.processes) _ fit in
    let b = and_parts (within 1 4 c.variables) _ a.1 in
    let d = and_parts (within 1 4 c.registers) _ b.1 in
    let rows : within 1 128 n ≡ true = and_from (leb 1 n) (leb n 128) (le-leb 1 n low) (le-leb n 128 high) in
    let good : header_fits (header_fields c n) n ≡ true = and_from _ _ a.0 (and_from _ _ b.0 (and_from _ _ d.0 (and_from _ _ d.1 (and_from _ _ rows (and_from (eqb n n) true (eq-eqb n n refl) refl))))) in
    ap (λ (t : Bool). cond t (Ok (counts_of (header_fields c n))) (Err Header)) good

pub ends_some : (P : ℕ) (rows : List Row) → ends_fit P rows ≡ true → 1 ≤ length rows
ends_some P [] e = let z : ◌≡◌ {A = ℕ} 0 1 = cc in let y : ⊥ = omega arith in elim y [ ]
ends_some P (r ∷ rows) e = omega arith

-- the lines of a proper table are six numbers each
pub fields_six : (p : Program) → proper p ≡ true → AllByRecursion Six (table_fields p)
fields_six p e =
    let t = tested p e in
    let few : (q : ℕ) → labels_of p.rows q ≤ 128 = λ q. omega (arith, t.short, count_by-le-length (λ (r : Row). eqb r.process q) p.rows) in
    (header_small p.counts t.counts (length p.rows) t.short, rows_small p.counts t.counts (labels_of p.rows) few 0 0 p.rows t.rows_fit_in)

pub read_back : (p : Program) → proper p ≡ true → read (table_text p) ≡ Ok p
read_back p e =
    let c = p.counts in
    let rows = p.rows in
    let fs = map row_fields rows in
    let t = tested p e in
    let some = ends_some c.processes rows t.ends_fit_in in
    let long : length fs ≡ length rows = length-map rows row_fields in
    let six = fields_six p e in
    let numbers = lines_back 2 129 Length Field (table_fields p) six (omega arith) (omega (arith, t.short)) in
    let judged = rows_back c (labels_of rows) 0 0 2 rows t.rows_fit_in in
    let labels : named fs ≡ labels_of rows = fun_ext (named_rows c (labels_of rows) 0 0 2 fs rows judged) in
    let body : rows_read c (named fs) 0 0 2 fs ≡ Ok rows = ap (λ (L : ℕ → ℕ). rows_read c L 0 0 2 fs) labels ∙ judged in
    let head : header_read (header_fields c (length rows)) (length fs) ≡ Ok c = ap (λ (n : ℕ). header_read (header_fields c (length rows)) n) long ∙ header_back c (length rows) t.counts some t.short in
    ap (λ (r : Result (List (List ℕ)) Refusal). then_do r table_read) numbers
    ∙ ap (λ (r : Result Counts Refusal). then_do r (λ k. body_read k fs)) head
    ∙ ap (λ (r : Result (List Row) Refusal). then_do r (λ rs. then_do (ends_read c.processes 2 rs) (λ _. Ok (record { counts = c; rows = rs })))) body
    ∙ ap (λ (r : Result (Unit {0}) Refusal). then_do r (λ _. Ok p)) (ends_back c.processes 2 rows t.ends_fit_in)
