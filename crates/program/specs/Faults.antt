-- What a refusal says of the text, in a reader's words: everything that is looked at before is right,
-- and this is wrong.
use Rattle.std.specs.Prelude.{◌≡◌, ℕ, ◌+◌, ◌<◌, ◌≤◌, Bool, true, false, ◌&&◌, ◌||◌, List, [], ◌∷◌, ◌++◌, map, length, ◌==◌, ◌≢◌, slice_index}
use Rattle.std.specs.List.{AllByRecursion}
use Rattle.program.specs.declared.refusals.Refusal.{Refusal}
use Rattle.program.specs.declared.refusals.Refusal.TheVariants.{Length, Field, Header, Order, Operand, NoTerm, NoProcess}
use Rattle.program.specs.declared.rows.Row.{Row}
use Rattle.program.specs.declared.rows.Counts.{Counts}
use Rattle.program.specs.declared.rows.Instruction.{Instruction}
use Rattle.program.specs.Fields.{WrongLength, WrongField}
use Rattle.program.specs.Program.{Six, lines_text, header_fields, row_fields, instruction_fields, counts_fit, operands_fit, follows, rows_fit, is_term}
use Rattle.program.specs.Reading.{named}

-- all lines are numbers, and the first is no header of a table with so many rows
pub record WrongHeader (text : List ℕ) : Type 0 where
  pub first : List ℕ
  pub others : List (List ℕ)
  pub numbers : AllByRecursion Six (first ∷ others)
  pub are : text ≡ lines_text (first ∷ others)
  pub some : (1 ≤ length others) × (length others ≤ 128)
  pub wrong : (c : Counts) → counts_fit c ≡ true → first ≢ header_fields c (length others)

-- the header is right, and these are the lines below it
pub record Headed (text : List ℕ) (c : Counts) (fs : List (List ℕ)) : Type 0 where
  pub fit : counts_fit c ≡ true
  pub some : (1 ≤ length fs) × (length fs ≤ 128)
  pub numbers : AllByRecursion Six fs
  pub are : text ≡ lines_text (header_fields c (length fs) ∷ fs)

-- the process and the label of the last row, or those given where there is none
abbrev pub process_at : ℕ → List Row → ℕ
process_at p [] = p
process_at p (r ∷ rows) = process_at r.process rows

abbrev pub label_at : ℕ → List Row → ℕ
label_at l [] = l
label_at l (r ∷ rows) = label_at r.label rows

-- the rows before line i are right, and this is what that line has
pub record Reached (text : List ℕ) (i : ℕ) (f : List ℕ) (labels : ℕ → ℕ) (c : Counts) (rows : List Row) : Type 0 where
  pub rest : List (List ℕ)
  pub headed : Headed text c (map row_fields rows ++ (f ∷ rest))
  pub counted : labels ≡ named (map row_fields rows ++ (f ∷ rest))
  pub right : rows_fit c labels 0 0 rows ≡ true
  pub place : i ≡ length rows + 2

-- its process and label do not follow those of the row above; before the first stands process 0
pub record WrongOrder (text : List ℕ) (i : ℕ) : Type 0 where
  pub line : List ℕ
  pub labels : ℕ → ℕ
  pub counts : Counts
  pub rows : List Row
  pub reached : Reached text i line labels counts rows
  pub wrong : follows counts (process_at 0 rows) (label_at 0 rows) (slice_index line 0) (slice_index line 1) ≡ false

-- they do, and it is no instruction with its operands in range
pub record WrongOperand (text : List ℕ) (i : ℕ) : Type 0 where
  pub line : List ℕ
  pub labels : ℕ → ℕ
  pub counts : Counts
  pub rows : List Row
  pub reached : Reached text i line labels counts rows
  pub follow : follows counts (process_at 0 rows) (label_at 0 rows) (slice_index line 0) (slice_index line 1) ≡ true
  pub wrong : (x : Instruction) → operands_fit counts (labels (slice_index line 0)) x ≡ true → line ≢ slice_index line 0 ∷ (slice_index line 1 ∷ instruction_fields x)

-- every row above one of another process is TERM
abbrev pub terms : List Row → Bool
terms [] = true
terms (r ∷ []) = true
terms (r ∷ (s ∷ rows)) = (r.process == s.process || is_term r.instruction) && terms (s ∷ rows)

-- nothing follows the row, or a row of another process
abbrev pub EndsProcess : Row → List Row → Type 0
EndsProcess r [] = Unit {0}
EndsProcess r (s ∷ rows) = r.process ≡ s.process → ⊥

-- all rows are right
pub record Judged (text : List ℕ) (c : Counts) (rows : List Row) : Type 0 where
  pub headed : Headed text c (map row_fields rows)
  pub right : rows_fit c (named (map row_fields rows)) 0 0 rows ≡ true

-- the row in line i ends its process and is not TERM, and all processes below end in TERM
pub record WrongEnd (text : List ℕ) (i : ℕ) : Type 0 where
  pub counts : Counts
  pub front : List Row
  pub row : Row
  pub rest : List Row
  pub judged : Judged text counts (front ++ (row ∷ rest))
  pub place : i ≡ length front + 2
  pub below : terms (front ++ (row ∷ [])) ≡ true
  pub ends : EndsProcess row rest
  pub wrong : is_term row.instruction ≡ false

-- all processes that have rows end in TERM, and the last row in line i is of too low a process
pub record WrongLast (text : List ℕ) (i : ℕ) : Type 0 where
  pub counts : Counts
  pub front : List Row
  pub row : Row
  pub judged : Judged text counts (front ++ (row ∷ []))
  pub place : i ≡ length front + 2
  pub below : terms (front ++ (row ∷ [])) ≡ true
  pub term : is_term row.instruction ≡ true
  pub wrong : row.process < counts.processes

abbrev pub Faulty : List ℕ → Refusal → Type 0
Faulty text Length = WrongLength 2 129 text
Faulty text (Field i) = WrongField 2 129 text i
Faulty text Header = WrongHeader text
Faulty text (Order i) = WrongOrder text i
Faulty text (Operand i) = WrongOperand text i
Faulty text (NoTerm i) = WrongEnd text i
Faulty text (NoProcess i) = WrongLast text i
