use Rattle.std.proofs.Common.{◌≡◌, ℕ, ◌≤◌, List, [], ◌∷◌, length, get_or, drop, Ok, Result, refl, sym, ap, ◌∙◌, rules, arith}
use Rattle.program.specs.declared.lines.Unread.{Unread}
use Rattle.program.specs.declared.lines.Unread.TheVariants.{Length, Field}
use Rattle.program.specs.declared.refusals.Refusal.{Refusal}
use Rattle.program.specs.declared.rows.Counts.{Counts}
use Rattle.program.specs.declared.rows.Row.{Row}
use Rattle.program.specs.Program.{Program}
use Rattle.program.specs.Reading.{then_do, header_read, named, rows_read, ends_read, body_read, lines_or, table_read, read}
use Rattle.program.specs.Refusals.{unread}
use Rattle.program.specs.Tables.{program, taken_in}
use Rattle.program.proofs.Texts.{read_is}
use Rattle.program.proofs.Told.{told, read_told}
use Rattle.program.proofs.reading.parse.Goals as goal

pub returns-in_err-read_lines : goal.returns-in_err-read_lines
returns-in_err-read_lines c = rw (read_told c.args.text.now) (search rules)

pub returns-in_err-header : goal.returns-in_err-header
returns-in_err-header c = rw (read_told c.args.text.now) (search rules)

pub returns-in_err-rows : goal.returns-in_err-rows
returns-in_err-rows c = rw (read_told c.args.text.now) (search rules)

pub returns-in_err-check_ends : goal.returns-in_err-check_ends
returns-in_err-check_ends c = rw (read_told c.args.text.now) (search rules)

-- the header, and the lines below it
parts : (fs : List (List ℕ)) → 1 ≤ length fs → table_read fs ≡ then_do (header_read (get_or fs 0 []) (length (drop 1 fs))) (λ c. body_read c (drop 1 fs))
parts [] h = let z : ⊥ = omega (arith, h) in elim z [ ]
parts (f ∷ fs) h = refl

-- what a text is read as, where its lines, its header, its rows and their ends are right
whole : (text : List ℕ) (fs : List (List ℕ)) (c : Counts) (rows : List Row) → Ok fs ≡ lines_or 2 129 Length Field text → 2 ≤ length fs → Ok c ≡ header_read (get_or fs 0 []) (length (drop 1 fs)) → Ok rows ≡ rows_read c (named (drop 1 fs)) 0 0 2 (drop 1 fs) → Ok tt ≡ ends_read c.processes 2 rows → read text ≡ Ok (record { counts = c; rows = rows })
whole text fs c rows lines long header filled ended =
    let p : Program = record { counts = c; rows = rows } in
    let below = drop 1 fs in
    read_told text
    ∙ ap (λ (r : Result (List (List ℕ)) Unread). then_do (told unread r) table_read) (sym lines)
    ∙ parts fs (omega (arith, long))
    ∙ ap (λ (r : Result Counts Refusal). then_do r (λ k. body_read k below)) (sym header)
    ∙ ap (λ (r : Result (List Row) Refusal). then_do r (λ xs. then_do (ends_read c.processes 2 xs) (λ _. Ok (record { counts = c; rows = xs })))) (sym filled)
    ∙ ap (λ (r : Result (Unit {0}) Refusal). then_do r (λ _. Ok p)) (sym ended)

pub invariant_of-hold : goal.invariant_of-hold
invariant_of-hold c =
    let text = c.args.text.now in
    let counts = c.in_ok-header.field-0 in
    let rows = c.rows.new.rows.items in
    let fs = c.read_lines.new.all.items in
    let header : Ok counts ≡ header_read (get_or fs 0 []) (length (drop 1 fs)) = rw (sym c.header.ensures, sym c.below.ensures.value) c.in_ok-header.ensures in
    let all = whole text fs counts rows c.in_ok-read_lines.ensures.value c.in_ok-read_lines.ensures.least header c.in_ok-rows.ensures.value c.in_ok-check_ends.ensures in
    record { counted = c.in_ok-rows.ensures.labels; right = (read_is text (record { counts = counts; rows = rows }) all).0 }

pub returns : goal.returns
returns c =
    let counts = c.in_ok-header.field-0 in
    let rows = c.rows.new.rows.items in
    let fs = c.read_lines.new.all.items in
    let header : Ok counts ≡ header_read (get_or fs 0 []) (length (drop 1 fs)) = rw (sym c.header.ensures, sym c.below.ensures.value) c.in_ok-header.ensures in
    let all = whole c.args.text.now fs counts rows c.in_ok-read_lines.ensures.value c.in_ok-read_lines.ensures.least header c.in_ok-rows.ensures.value c.in_ok-check_ends.ensures in
    ap (λ (q : Program). (Ok tt, q)) c.hold.ensures ∙ ap (taken_in (program c.args.table.now)) (sym all)
