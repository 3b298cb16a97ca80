-- Reading a table from its text: for every byte string the one outcome.
use Rattle.std.specs.Prelude.{ℕ, ◌+◌, ◌/◌, ◌%◌, Bool, cond, ◌&&◌, ◌||◌, List, [], ◌∷◌, length, Some, None, Ok, Err, count_by, Option, Result, ◌==◌, nat_eq, nat_lt, slice_index}
use Rattle.std.specs.Option.{ok_or}
use Rattle.std.specs.Simd.{first_chunks}
use Rattle.text.specs.Lines.{line_numbers}
use Rattle.program.specs.declared.refusals.Refusal.{Refusal}
use Rattle.program.specs.declared.refusals.Refusal.TheVariants.{Length, Field, Header, Order, Operand, NoTerm, NoProcess}
use Rattle.program.specs.declared.rows.Row.{Row}
use Rattle.program.specs.declared.rows.Counts.{Counts}
use Rattle.program.specs.declared.rows.Instruction.{Instruction}
use Rattle.program.specs.declared.rows.Instruction.TheVariants.{Read, Write, Cas, Set, Add, Jeq, Assume, Fence, Term}
use Rattle.program.specs.Program.{Program, within, is_register, is_variable, is_constant, follows, is_term}

-- one outcome after another: the first refusal stands
abbrev pub cons_to : {A E : Type 0} → Result A E → Result (List A) E → Result (List A) E
cons_to (Ok a) (Ok rest) = Ok (a ∷ rest)
cons_to (Ok a) (Err e) = Err e
cons_to (Err e) r = Err e

abbrev pub then_do : {A B E : Type 0} → Result A E → (A → Result B E) → Result B E
then_do (Ok a) f = f a
then_do (Err e) f = Err e

-- how many lines a text has, from low to high; any other text gives e
abbrev pub count_or : {E : Type 0} → ℕ → ℕ → E → List ℕ → Result ℕ E
count_or low high e text = cond (length text % 25 == 0 && within low high (length text / 25)) (Ok (length text / 25)) (Err e)

-- the first k lines
abbrev pub lines : ℕ → List ℕ → List (List ℕ)
lines k bytes = first_chunks 25 k bytes

-- the six numbers of each line, from line i on, or what the first line without such numbers gives
abbrev pub numbers_or : {E : Type 0} → (ℕ → E) → ℕ → List (List ℕ) → Result (List (List ℕ)) E
numbers_or wrong i [] = Ok []
numbers_or wrong i (b ∷ bs) = cons_to (ok_or (line_numbers 6 b) (wrong i)) (numbers_or wrong (i + 1) bs)

-- the numbers of all lines of a text that has from low to high of them
abbrev pub lines_or : {E : Type 0} → ℕ → ℕ → E → (ℕ → E) → List ℕ → Result (List (List ℕ)) E
lines_or low high e wrong text = then_do (count_or low high e text) (λ n. numbers_or wrong 1 (lines n text))

-- the same for a table, which has from 2 to 129 lines
abbrev pub lines_read : List ℕ → Result (List (List ℕ)) Refusal
lines_read = lines_or 2 129 Length Field

abbrev pub counts_of : List ℕ → Counts
counts_of h = record { processes = slice_index h 0; variables = slice_index h 1; registers = slice_index h 2; values = slice_index h 3 }

-- the header of a table of n rows
abbrev pub header_fits : List ℕ → ℕ → Bool
header_fits h n =
    within 1 4 (slice_index h 0) && (within 1 4 (slice_index h 1) && (within 1 4 (slice_index h 2) && (within 2 8 (slice_index h 3) && (within 1 128 (slice_index h 4) && (slice_index h 4 == n && slice_index h 5 == 0)))))

abbrev pub header_read : List ℕ → ℕ → Result Counts Refusal
header_read h n = cond (header_fits h n) (Ok (counts_of h)) (Err Header)

-- how many lines have a process as their first number
abbrev pub named : List (List ℕ) → ℕ → ℕ
named fs q = count_by (λ (f : List ℕ). nat_eq (slice_index f 0) q) fs

abbrev pub if_fits : Bool → Instruction → Option Instruction
if_fits b i = cond b (Some i) None

-- the instruction of a number and three operands, in a process with so many labels
abbrev pub instruction_of : Counts → ℕ → ℕ → ℕ → ℕ → ℕ → Option Instruction
instruction_of c labels n x y z =
    cond (n == 1) (if_fits (is_register c x && (is_variable c y && z == 0)) (Read x y))
    (cond (n == 2) (if_fits (is_variable c x && (is_register c y && z == 0)) (Write x y))
    (cond (n == 3) (if_fits (is_variable c x && (is_register c y && is_register c z)) (Cas x y z))
    (cond (n == 4) (if_fits (is_register c x && (is_constant c y && z == 0)) (Set x y))
    (cond (n == 5) (if_fits (is_register c x && (is_register c y && is_register c z)) (Add x y z))
    (cond (n == 6) (if_fits (is_register c x && (is_register c y && within 1 labels z)) (Jeq x y z))
    (cond (n == 7) (if_fits (is_register c x && (is_register c y && z == 0)) (Assume x y))
    (cond (n == 8) (if_fits (x == 0 && (y == 0 && z == 0)) Fence)
    (cond (n == 9) (if_fits (x == 0 && (y == 0 && z == 0)) Term) None))))))))

abbrev pub row_with : ℕ → ℕ → ℕ → Option Instruction → Result Row Refusal
row_with i p l (Some x) = Ok (record { process = p; label = l; instruction = x })
row_with i p l None = Err (Operand i)

-- line i as a row below process p and label l; labels tells how many rows name a process
abbrev pub row_read : Counts → (ℕ → ℕ) → ℕ → ℕ → ℕ → List ℕ → Result Row Refusal
row_read c labels p l i f =
    cond (follows c p l (slice_index f 0) (slice_index f 1))
    (row_with i (slice_index f 0) (slice_index f 1) (instruction_of c (labels (slice_index f 0)) (slice_index f 2) (slice_index f 3) (slice_index f 4) (slice_index f 5)))
    (Err (Order i))

abbrev pub rows_read : Counts → (ℕ → ℕ) → ℕ → ℕ → ℕ → List (List ℕ) → Result (List Row) Refusal
rows_read c labels p l i [] = Ok []
rows_read c labels p l i (f ∷ fs) = cons_to (row_read c labels p l i f) (rows_read c labels (slice_index f 0) (slice_index f 1) (i + 1) fs)

-- the rows from line i on: each last row of a process is TERM, and the last process is the last row's
abbrev pub ends_read : ℕ → ℕ → List Row → Result (Unit {0}) Refusal
ends_read processes i [] = Ok tt
ends_read processes i (r ∷ []) =
    cond (is_term r.instruction) (cond (nat_lt r.process processes) (Err (NoProcess i)) (Ok tt)) (Err (NoTerm i))
ends_read processes i (r ∷ (s ∷ rs)) =
    cond (r.process == s.process || is_term r.instruction) (ends_read processes (i + 1) (s ∷ rs)) (Err (NoTerm i))

-- the rows of a table whose header was read
abbrev pub body_read : Counts → List (List ℕ) → Result Program Refusal
body_read c fs =
    then_do (rows_read c (named fs) 0 0 2 fs) (λ rows. then_do (ends_read c.processes 2 rows) (λ _. Ok (record { counts = c; rows = rows })))

abbrev pub table_read : List (List ℕ) → Result Program Refusal
table_read [] = Err Length
table_read (h ∷ fs) = then_do (header_read h (length fs)) (λ c. body_read c fs)

-- The one outcome of a text: length, then the fields of all lines, the header, the rows one by one, and the ends of the processes.
abbrev pub read : List ℕ → Result Program Refusal
read text = then_do (lines_read text) table_read
