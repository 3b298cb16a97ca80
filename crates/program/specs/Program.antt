-- What a table says, its text, and what every table keeps.
use Rattle.std.specs.Prelude.{◌≡◌, ℕ, ◌+◌, ◌<◌, Bool, true, false, cond, ◌&&◌, ◌||◌, List, [], ◌∷◌, ◌++◌, map, length, Some, None, count_by, Option, ◌==◌, nat_eq, nat_le, nat_lt, slice_index}
use Rattle.text.specs.Lines.{line_text, Small}
use Rattle.program.specs.declared.rows.Row.{Row}
use Rattle.program.specs.declared.rows.Counts.{Counts}
use Rattle.program.specs.declared.rows.Instruction.{Instruction}
use Rattle.program.specs.declared.rows.Instruction.TheVariants.{Read, Write, Cas, Set, Add, Jeq, Assume, Fence, Term}

-- what a table says: its counts and its rows
pub record Program : Type 0 where
  pub counts : Counts
  pub rows : List Row

-- an instruction as its number and its three operands, 0 where there is none
abbrev pub instruction_fields : Instruction → List ℕ
instruction_fields (Read r x) = 1 ∷ (r ∷ (x ∷ (0 ∷ [])))
instruction_fields (Write x r) = 2 ∷ (x ∷ (r ∷ (0 ∷ [])))
instruction_fields (Cas x a b) = 3 ∷ (x ∷ (a ∷ (b ∷ [])))
instruction_fields (Set r v) = 4 ∷ (r ∷ (v ∷ (0 ∷ [])))
instruction_fields (Add r a b) = 5 ∷ (r ∷ (a ∷ (b ∷ [])))
instruction_fields (Jeq a b l) = 6 ∷ (a ∷ (b ∷ (l ∷ [])))
instruction_fields (Assume a b) = 7 ∷ (a ∷ (b ∷ (0 ∷ [])))
instruction_fields Fence = 8 ∷ (0 ∷ (0 ∷ (0 ∷ [])))
instruction_fields Term = 9 ∷ (0 ∷ (0 ∷ (0 ∷ [])))

abbrev pub row_fields : Row → List ℕ
row_fields r = r.process ∷ (r.label ∷ instruction_fields r.instruction)

abbrev pub header_fields : Counts → ℕ → List ℕ
header_fields c n = c.processes ∷ (c.variables ∷ (c.registers ∷ (c.values ∷ (n ∷ (0 ∷ [])))))

-- lines, one after another
abbrev pub lines_text : List (List ℕ) → List ℕ
lines_text [] = []
lines_text (f ∷ fs) = line_text f ++ lines_text fs

-- six numbers that fit their fields
abbrev pub Six : List ℕ → Type 0
Six f = (length f ≡ 6) × Small f

-- the table's text: its header and its rows, a line each
abbrev pub table_fields : Program → List (List ℕ)
table_fields p = header_fields p.counts (length p.rows) ∷ map row_fields p.rows

abbrev pub table_text : Program → List ℕ
table_text p = lines_text (table_fields p)

-- n is at least low and at most high
abbrev pub within : ℕ → ℕ → ℕ → Bool
within low high n = nat_le low n && nat_le n high

-- the limits of the header
abbrev pub counts_fit : Counts → Bool
counts_fit c = within 1 4 c.processes && (within 1 4 c.variables && (within 1 4 c.registers && within 2 8 c.values))

abbrev pub is_register : Counts → ℕ → Bool
is_register c n = within 1 c.registers n

abbrev pub is_variable : Counts → ℕ → Bool
is_variable c n = within 1 c.variables n

abbrev pub is_constant : Counts → ℕ → Bool
is_constant c n = nat_lt n c.values

-- the operands of an instruction of a process with so many labels are in their ranges
abbrev pub operands_fit : Counts → ℕ → Instruction → Bool
operands_fit c labels (Read r x) = is_register c r && is_variable c x
operands_fit c labels (Write x r) = is_variable c x && is_register c r
operands_fit c labels (Cas x a b) = is_variable c x && (is_register c a && is_register c b)
operands_fit c labels (Set r v) = is_register c r && is_constant c v
operands_fit c labels (Add r a b) = is_register c r && (is_register c a && is_register c b)
operands_fit c labels (Jeq a b l) = is_register c a && (is_register c b && within 1 labels l)
operands_fit c labels (Assume a b) = is_register c a && is_register c b
operands_fit c labels Fence = true
operands_fit c labels Term = true

-- how many rows name a process
abbrev pub labels_of : List Row → ℕ → ℕ
labels_of rows q = count_by (λ (r : Row). nat_eq r.process q) rows

-- the first five of a list are a count for each process from 0 to 4
abbrev pub Counted : List ℕ → (ℕ → ℕ) → Type 0
Counted labels count = (q : ℕ) → q < 5 → slice_index labels q ≡ count q

-- how many rows name a process below q
abbrev pub rows_below : List Row → ℕ → ℕ
rows_below rows q = count_by (λ (r : Row). nat_lt r.process q) rows

-- process p' and label l' follow process p and label l, within the limits; before the first row stands process 0
abbrev pub follows : Counts → ℕ → ℕ → ℕ → ℕ → Bool
follows c p l p' l' =
    ((nat_le 1 p && (p' == p && l' == l + 1)) || (p' == p + 1 && l' == 1)) && (nat_le p' c.processes && nat_le l' 32)

abbrev pub is_term : Instruction → Bool
is_term (Read r x) = false
is_term (Write x r) = false
is_term (Cas x a b) = false
is_term (Set r v) = false
is_term (Add r a b) = false
is_term (Jeq a b l) = false
is_term (Assume a b) = false
is_term Fence = false
is_term Term = true

-- the rows below process p and label l follow one another, with operands in range
abbrev pub rows_fit : Counts → (ℕ → ℕ) → ℕ → ℕ → List Row → Bool
rows_fit c labels p l [] = true
rows_fit c labels p l (r ∷ rs) =
    follows c p l r.process r.label && (operands_fit c (labels r.process) r.instruction && rows_fit c labels r.process r.label rs)

-- the last row of each process is TERM, and the last row is of the last process
abbrev pub ends_fit : ℕ → List Row → Bool
ends_fit processes [] = false
ends_fit processes (r ∷ []) = is_term r.instruction && nat_le processes r.process
ends_fit processes (r ∷ (s ∷ rs)) = (r.process == s.process || is_term r.instruction) && ends_fit processes (s ∷ rs)

-- what every table that was read keeps
abbrev pub proper : Program → Bool
proper p =
    counts_fit p.counts && (nat_le (length p.rows) 128 && (rows_fit p.counts (labels_of p.rows) 0 0 p.rows && ends_fit p.counts.processes p.rows))

-- nothing was read yet: no counts and no rows
abbrev pub nothing : Program
nothing = record { counts = record { processes = 0; variables = 0; registers = 0; values = 0 }; rows = [] }

abbrev pub is_nothing : Program → Bool
is_nothing p = length p.rows == 0

abbrev pub counts_none : Counts → Bool
counts_none c = c.processes == 0 && (c.variables == 0 && (c.registers == 0 && c.values == 0))

-- what every table keeps: nothing was read yet, or what was read is proper
abbrev pub kept : Program → Bool
kept p = (counts_none p.counts && is_nothing p) || proper p

-- where the rows of each process begin: how many rows name a lower one
abbrev pub starts_of : List Row → List ℕ
starts_of rows = rows_below rows 0 ∷ (rows_below rows 1 ∷ (rows_below rows 2 ∷ (rows_below rows 3 ∷ (rows_below rows 4 ∷ (rows_below rows 5 ∷ [])))))

-- how many of the first none, one, two .. five
abbrev pub sums : List ℕ → List ℕ
sums labels =
    let one = slice_index labels 0 in
    let two = one + slice_index labels 1 in
    let three = two + slice_index labels 2 in
    let four = three + slice_index labels 3 in
    0 ∷ (one ∷ (two ∷ (three ∷ (four ∷ ((four + slice_index labels 4) ∷ [])))))

-- the instruction in the row of a process and a label
abbrev pub instruction_at : List Row → ℕ → ℕ → Option Instruction
instruction_at [] p l = None
instruction_at (r ∷ rs) p l = cond (r.process == p && r.label == l) (Some r.instruction) (instruction_at rs p l)
