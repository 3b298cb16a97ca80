-- A program in a reader's terms: the processes, each the list of its instructions, whose labels count
-- from 1. Nothing here speaks of lines, fields or an order of checks.
use Rattle.std.specs.Prelude.{◌≡◌, ℕ, ◌+◌, ◌≤◌, true, List, [], ◌∷◌, ◌++◌, length, Ok, Err, Result}
use Rattle.std.specs.List.{AllByRecursion}
use Rattle.program.specs.declared.refusals.Refusal.{Refusal}
use Rattle.program.specs.declared.rows.Row.{Row}
use Rattle.program.specs.declared.rows.Counts.{Counts}
use Rattle.program.specs.declared.rows.Instruction.{Instruction}
use Rattle.program.specs.declared.rows.Instruction.TheVariants.{Term}
use Rattle.program.specs.Faults.{Faulty}
use Rattle.program.specs.Program.{Program, operands_fit, table_text}

pub record Source : Type 0 where
  pub variables : ℕ
  pub registers : ℕ
  pub values : ℕ
  pub processes : List (List Instruction)

-- the rows of process p from label l on
abbrev pub numbered : ℕ → ℕ → List Instruction → List Row
numbered p l [] = []
numbered p l (x ∷ xs) = record { process = p; label = l; instruction = x } ∷ numbered p (l + 1) xs

-- the rows of processes p, p + 1 and so on
abbrev pub listed : ℕ → List (List Instruction) → List Row
listed p [] = []
listed p (xs ∷ rest) = numbered p 1 xs ++ listed (p + 1) rest

abbrev pub counts_in : Source → Counts
counts_in s =
    record { processes = length s.processes; variables = s.variables; registers = s.registers; values = s.values }

abbrev pub program_of : Source → Program
program_of s = record { counts = counts_in s; rows = listed 1 s.processes }

-- what a process keeps: at most 32 labels, operands in range, TERM at the last label
pub record Code (c : Counts) (xs : List Instruction) : Type 0 where
  pub few : length xs ≤ 32
  pub in_range : AllByRecursion (λ x. operands_fit c (length xs) x ≡ true) xs
  pub ends_in_term : (front : List Instruction) × (xs ≡ front ++ (Term ∷ []))

-- what a program keeps
pub record Proper (s : Source) : Type 0 where
  pub processes : (1 ≤ length s.processes) × (length s.processes ≤ 4)
  pub variables : (1 ≤ s.variables) × (s.variables ≤ 4)
  pub registers : (1 ≤ s.registers) × (s.registers ≤ 4)
  pub values : (2 ≤ s.values) × (s.values ≤ 8)
  pub rows : length (listed 1 s.processes) ≤ 128
  pub each : AllByRecursion (Code (counts_in s)) s.processes

-- p is a program with all the properties
abbrev pub WellMade : Program → Type 0
WellMade p = (s : Source) × Proper s × (p ≡ program_of s)

-- The text is that of such a program, p.
abbrev pub TextOf : Program → List ℕ → Type 0
TextOf p text = WellMade p × (text ≡ table_text p)

-- An accepted text is that of one program with all the properties, p, and of no other.
pub record Accepted (text : List ℕ) (p : Program) : Type 0 where
  pub text_of : TextOf p text
  pub only : (q : Program) → TextOf q text → q ≡ p

-- A refused text is no proper program's, and wrong in the way that the refusal says.
pub record Refused (text : List ℕ) (f : Refusal) : Type 0 where
  pub no_program : (q : Program) → TextOf q text → ⊥
  pub fault : Faulty text f

-- What an answer says of the text, where the table says p then.
abbrev pub SaysOf : List ℕ → Result (Unit {0}) Refusal → Program → Type 0
SaysOf text (Ok _) p = Accepted text p
SaysOf text (Err f) p = Refused text f
