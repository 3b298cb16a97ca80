-- What is printed of a run, step by step, and of what comes of it.
use Rattle.std.specs.Prelude.{ℕ, cond, ◌&&◌, List, ◌++◌, Some, None, codes, decimal, Option, ◌==◌, nat_le, slice_index}
use Rattle.program.specs.declared.rows.Instruction.{Instruction}
use Rattle.program.specs.declared.rows.Instruction.TheVariants.{Read, Write, Cas, Set, Add, Jeq, Assume, Fence, Term}
use Rattle.program.specs.Program.{Program, instruction_at}
use Rattle.program.specs.Words as table_words

-- the instruction of a process and a label, both below 256
abbrev pub instruction_of : Program → ℕ → ℕ → Option Instruction
instruction_of t p l = cond (nat_le p 255 && nat_le l 255) (instruction_at t.rows p l) None

-- an instruction with the value seen, where it sees one
abbrev pub deed_words : Option Instruction → ℕ → List ℕ
deed_words (Some (Read r x)) v = table_words.instruction_words (Read r x) ++ (codes ", saw " ++ decimal v)
deed_words (Some (Write x r)) v = table_words.instruction_words (Write x r)
deed_words (Some (Cas x a b)) v = table_words.instruction_words (Cas x a b) ++ (codes ", saw " ++ decimal v)
deed_words (Some (Set r k)) v = table_words.instruction_words (Set r k)
deed_words (Some (Add r a b)) v = table_words.instruction_words (Add r a b)
deed_words (Some (Jeq a b l)) v = table_words.instruction_words (Jeq a b l)
deed_words (Some (Assume a b)) v = table_words.instruction_words (Assume a b)
deed_words (Some Fence) v = table_words.instruction_words Fence
deed_words (Some Term) v = table_words.instruction_words Term
deed_words None v = codes "nothing"

-- a step by the numbers of its line, with a star for a switch
abbrev pub step_words : Program → List ℕ → List ℕ
step_words t f =
    decimal (slice_index f 0) ++ (codes ": process " ++ (decimal (slice_index f 1) ++ (codes " at " ++ (decimal (slice_index f 2)
    ++ (codes ": " ++ (deed_words (instruction_of t (slice_index f 1) (slice_index f 2)) (slice_index f 4)
    ++ (cond (slice_index f 5 == 1) (codes " *") (codes "") ++ codes "\n")))))))
