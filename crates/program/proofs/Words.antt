-- A text is accepted exactly when it is that of a program with all the properties.
use Rattle.std.proofs.Common.{◌≡◌, ℕ, ◌≤◌, List, [], ◌∷◌, length, Ok, Err, Result, sym, refl, ap, ◌∙◌, subst, inl, inr, arith}
use Rattle.program.specs.declared.refusals.Refusal.{Refusal}
use Rattle.program.specs.declared.refusals.Refusal.TheVariants.{Length, Field}
use Rattle.std.specs.List.{AllByRecursion}
use Rattle.program.specs.Faults.{Faulty, Headed, Judged}
use Rattle.program.specs.Program.{Program, Six, lines_text, proper, rows_fit}
use Rattle.program.specs.Reading.{then_do, lines_read, header_read, named, rows_read, ends_read, body_read, table_read, read}
use Rattle.program.specs.Source.{TextOf, Accepted, SaysOf}
use Rattle.program.specs.Tables.{taken_in}
use Rattle.program.proofs.Blocks.{blocks, proper_source}
use Rattle.program.proofs.Faulted.{no_lines, no_header}
use Rattle.program.proofs.FaultedRows.{no_row, no_end}
use Rattle.program.proofs.LineTexts.{lines_are}
use Rattle.program.proofs.Outcomes.{not_both, then_err}
use Rattle.program.proofs.RowTexts.{rows_are}
use Rattle.program.proofs.Texts.{header_is, read_is, read_back}

-- a proper program's text is read as that program
is_read : (text : List ℕ) (q : Program) → TextOf q text → read text ≡ Ok q
is_read text q t = ap read t.1 ∙ read_back q (ap proper t.0.2 ∙ proper_source t.0.0 t.0.1)

accepted : (text : List ℕ) (p : Program) → read text ≡ Ok p → Accepted text p
accepted text p e =
    let r = read_is text p e in
    record { text_of = (blocks p r.0, r.1); only = λ q t. let other = is_read text q t in cc }

refused : (text : List ℕ) (f : Refusal) → read text ≡ Err f → (q : Program) → TextOf q text → ⊥
refused text f e q t = not_both f q (sym e ∙ is_read text q t)

-- what was refused is wrong in the way that the refusal says
refused_table : (text : List ℕ) (fs : List (List ℕ)) (f : Refusal) → AllByRecursion Six fs → text ≡ lines_text fs → 2 ≤ length fs → length fs ≤ 129 → table_read fs ≡ Err f → Faulty text f
refused_table text [] f six are low high e = let z : ⊥ = omega arith in elim z [ ]
refused_table text (h ∷ fs) f six are low high e = elim (then_err (header_read h (length fs)) (λ c. body_read c fs) f e) [
  | inl t ↦ no_header text h fs f six are (omega arith) (omega arith) t
  | inr t ↦
      let c = t.0 in
      let head = header_is h (length fs) c six.0.0 t.1 in
      let headed : Headed text c fs = record { fit = head.0; some = (head.1, head.2); numbers = six.1; are = are ∙ ap (λ (g : List ℕ). lines_text (g ∷ fs)) head.3 } in
      elim (then_err (rows_read c (named fs) 0 0 2 fs) (λ rows. then_do (ends_read c.processes 2 rows) (λ _. Ok (record { counts = c; rows = rows }))) f t.2) [
        | inl b ↦ no_row text c fs f headed b
        | inr b ↦
            let rows = b.0 in
            let fit = rows_are c (named fs) 0 0 2 fs rows six.1 b.1 in
            let judged : Judged text c rows = record { headed = subst (Headed text c) fit.1 headed; right = ap (λ (gs : List (List ℕ)). rows_fit c (named gs) 0 0 rows) (sym fit.1) ∙ fit.0 } in
            elim (then_err (ends_read c.processes 2 rows) (λ _. Ok (record { counts = c; rows = rows })) f b.2) [
              | inl d ↦ no_end text c rows f judged d
              | inr d ↦ not_both f (record { counts = c; rows = rows }) (sym d.2)
            ]
      ]
]

faults : (text : List ℕ) (f : Refusal) → read text ≡ Err f → Faulty text f
faults text f e = elim (then_err (lines_read text) table_read f e) [
  | inl t ↦ no_lines text f t
  | inr t ↦
      let c = lines_are 2 129 Length Field text t.0 t.1 in
      refused_table text t.0 f c.0 c.1 c.2 c.3 t.2
]

by_outcome : (text : List ℕ) (old : Program) (o : Result Program Refusal) → read text ≡ o → SaysOf text (taken_in old o).0 (taken_in old o).1
by_outcome text old (Ok p) e = accepted text p e
by_outcome text old (Err f) e = record { no_program = refused text f e; fault = faults text f e }

pub accepts : (text : List ℕ) (old new : Program) (r : Result (Unit {0}) Refusal) → (r, new) ≡ taken_in old (read text) → SaysOf text r new
accepts text old new r e = subst (λ (o : Result (Unit {0}) Refusal × Program). SaysOf text o.0 o.1) (sym e) (by_outcome text old (read text) refl)
