-- What a table holds, and what reading into it and writing it do.
use Rattle.std.specs.Prelude.{◌≡◌, ℕ, ◌<◌, true, false, cond, List, [], length, Some, None, Ok, Err, Option, Result, nat_le}
use Rattle.text.specs.Writing.{over}
use Rattle.program.specs.declared.refusals.Refusal.{Refusal}
use Rattle.program.specs.declared.refusals.Short.{Short}
use Rattle.program.specs.declared.rows.Instruction.{Instruction}
use Rattle.program.specs.declared.tables.Table.{Table}
use Rattle.program.specs.Program.{Program, counts_fit, is_nothing, is_term, labels_of, lines_text, operands_fit, table_fields, within}

-- what a table says
abbrev pub program : Table → Program
program t = record { counts = t.counts; rows = t.rows.items }

-- what is answered and what the table says then: what was read, or a refusal and what it said before
abbrev pub taken_in : Program → Result Program Refusal → Result (Unit {0}) Refusal × Program
taken_in old (Ok p) = (Ok tt, p)
taken_in old (Err f) = (Err f, old)

-- the lines of a table's text; a table of which nothing was read has none
abbrev pub lines_of : Program → List (List ℕ)
lines_of p = cond (is_nothing p) [] (table_fields p)

abbrev pub text_of : Program → List ℕ
text_of p = lines_text (lines_of p)

-- what is answered and what the buffer holds then: the text at its front and the rest as it was, or a refusal and the buffer as it was
abbrev pub table_written : Program → List ℕ → Result ℕ Short × List ℕ
table_written p out =
    cond (nat_le (length (text_of p)) (length out)) (Ok (length (text_of p)), over (text_of p) out) (Err (record { needed = length (text_of p) }), out)

-- What is kept of an instruction x that stands at label l of process q: the header is in its limits, the process is one
-- of its processes, the operands are in range, and if it is not TERM a next label follows.
pub record Fits (p : Program) (q l : ℕ) (x : Instruction) : Type 0 where
  pub counts : counts_fit p.counts ≡ true
  pub process : within 1 p.counts.processes q ≡ true
  pub label : within 1 32 l ≡ true
  pub operands : operands_fit p.counts (labels_of p.rows q) x ≡ true
  pub next : is_term x ≡ false → l < labels_of p.rows q

abbrev pub FitsAt : Program → ℕ → ℕ → Option Instruction → Type 0
FitsAt p q l (Some x) = Fits p q l x
FitsAt p q l None = Unit {0}
