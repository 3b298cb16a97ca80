-- A proper table is that of a list of processes, and the other way round.
use Rattle.std.proofs.Common.{◌≡◌, ℕ, ◌+◌, ◌≤◌, true, ◌&&◌, leb, List, [], ◌∷◌, length, sym, refl, ap, ◌∙◌, subst, arith}
use Rattle.std.specs.List.{AllByRecursion}
use Rattle.std.proofs.lemmas.Bool.{and_parts, and_from, leb-true, le-leb}
use Rattle.std.proofs.lemmas.Bool.Decides.{nat_tests}
use Rattle.program.specs.declared.rows.Row.{Row}
use Rattle.program.specs.declared.rows.Counts.{Counts}
use Rattle.program.specs.declared.rows.Instruction.{Instruction}
use Rattle.program.specs.Program.{Program, counts_fit, operands_fit, rows_fit, ends_fit, labels_of, proper}
use Rattle.program.specs.Source.{Source, Code, Proper, listed, counts_in, program_of}
use Rattle.program.proofs.Tallied.{labels_own, labels_later}
use Rattle.program.proofs.Cuts.{Fitting, Parts, parts}
use Rattle.program.proofs.Laid.{rows_listed, ends_listed}

module _ (c : Counts) (L : ℕ → ℕ) where
  -- each process from p on is judged by as many labels as it has rows, and so by as many as it has instructions
  abbrev OwnLabels : ℕ → List (List Instruction) → Type 0
  OwnLabels p processes = (q : ℕ) → p ≤ q → L q ≡ labels_of (listed p processes) q

  labels_here : (p : ℕ) (xs : List Instruction) (rest : List (List Instruction)) → OwnLabels p (xs ∷ rest) → L p ≡ length xs
  labels_here p xs rest h = h p (omega arith) ∙ labels_own p xs rest

  labels_after : (p : ℕ) (xs : List Instruction) (rest : List (List Instruction)) → OwnLabels p (xs ∷ rest) → OwnLabels (p + 1) rest
  labels_after p xs rest h q low = h q (omega arith) ∙ labels_later p xs rest q (omega arith)

  code : (p : ℕ) (processes : List (List Instruction)) → OwnLabels p processes → Fitting c L p processes → AllByRecursion (Code c) processes
  code p [] labels h = tt
  code p (xs ∷ rest) labels h =
      let own = h.0 in
      (record { few = own.few; in_range = subst (λ (n : ℕ). AllByRecursion (λ x. operands_fit c n x ≡ true) xs) (labels_here p xs rest labels) own.in_range; ends_in_term = own.ends }, code (p + 1) rest (labels_after p xs rest labels) h.1)

  fitting : (p : ℕ) (processes : List (List Instruction)) → OwnLabels p processes → AllByRecursion (Code c) processes → Fitting c L p processes
  fitting p [] labels h = tt
  fitting p (xs ∷ rest) labels h =
      let own = h.0 in
      (record { few = own.few; in_range = subst (λ (n : ℕ). AllByRecursion (λ x. operands_fit c n x ≡ true) xs) (sym (labels_here p xs rest labels)) own.in_range; ends = own.ends_in_term }, fitting (p + 1) rest (labels_after p xs rest labels) h.1)

-- the tests of a proper table, one by one
pub record Tested (c : Counts) (rows : List Row) : Type 0 where
  pub counts : counts_fit c ≡ true
  pub short : length rows ≤ 128
  pub rows_fit_in : rows_fit c (labels_of rows) 0 0 rows ≡ true
  pub ends_fit_in : ends_fit c.processes rows ≡ true

pub tested : (p : Program) → proper p ≡ true → Tested p.counts p.rows
tested p h =
    let c = p.counts in
    let fit = rows_fit c (labels_of p.rows) 0 0 p.rows in
    let ends = ends_fit c.processes p.rows in
    let header = and_parts (counts_fit c) (leb (length p.rows) 128 && (fit && ends)) h in
    let below = and_parts (leb (length p.rows) 128) (fit && ends) header.1 in
    let both = and_parts fit ends below.1 in
    record { counts = header.0; short = leb-true (length p.rows) 128 below.0; rows_fit_in = both.0; ends_fit_in = both.1 }

source : (c : Counts) (rows : List Row) → Tested c rows → Parts c (labels_of rows) 1 rows → (s : Source) × Proper s × (record { counts = c; rows = rows } ≡ program_of s)
source c rows t found =
    let s : Source = record { variables = c.variables; registers = c.registers; values = c.values; processes = found.processes } in
    let all : c.processes ≡ length s.processes = omega arith in
    let same : c ≡ counts_in s = ap (λ (n : ℕ). record { processes = n; variables = c.variables; registers = c.registers; values = c.values }) all in
    let are : rows ≡ listed 1 s.processes = found.rows_are in
    let each : AllByRecursion (Code c) s.processes = code c (labels_of rows) 1 s.processes (λ q low. ap (λ (r : List Row). labels_of r q) are) found.fitting in (
      s,
      record {
        processes = (grind (arith, nat_tests), grind (arith, nat_tests));
        variables = (grind (arith, nat_tests), grind (arith, nat_tests));
        registers = (grind (arith, nat_tests), grind (arith, nat_tests));
        values = (grind (arith, nat_tests), grind (arith, nat_tests));
        rows = subst (λ (r : List Row). length r ≤ 128) are t.short;
        each = subst (λ (k : Counts). AllByRecursion (Code k) s.processes) same each;
      },
      ap (λ (k : Counts). record { counts = k; rows = rows }) same ∙ ap (λ (r : List Row). record { counts = counts_in s; rows = r }) are,
    )

pub blocks : (p : Program) → proper p ≡ true → (s : Source) × Proper s × (p ≡ program_of s)
blocks p h =
    let t = tested p h in
    source p.counts p.rows t (parts p.counts (labels_of p.rows) p.rows t.rows_fit_in t.ends_fit_in)

pub proper_source : (s : Source) → Proper s → proper (program_of s) ≡ true
proper_source s h =
    let c = counts_in s in
    let rows = listed 1 s.processes in
    let fit = fitting c (labels_of rows) 1 s.processes (λ q low. refl) h.each in
    let header : counts_fit c ≡ true = grind (arith, nat_tests) in
    let follow = rows_listed c (labels_of rows) 0 0 s.processes fit (omega arith) in
    let ends = ends_listed c (labels_of rows) 1 s.processes fit h.processes.0 (omega arith) in
    and_from (counts_fit c) _ header (and_from (leb (length rows) 128) _ (le-leb (length rows) 128 h.rows) (and_from (rows_fit c (labels_of rows) 0 0 rows) _ follow ends))
