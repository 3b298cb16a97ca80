-- What is printed of an instruction, and of what is wrong with a text.
use Rattle.std.specs.Prelude.{ℕ, List, ◌++◌, codes, decimal}
use Rattle.program.specs.declared.refusals.Refusal.{Refusal}
use Rattle.program.specs.declared.refusals.Refusal.TheVariants.{Length, Field, Header, Order, Operand, NoTerm, NoProcess}
use Rattle.program.specs.declared.rows.Instruction.{Instruction}
use Rattle.program.specs.declared.rows.Instruction.TheVariants.{Read, Write, Cas, Set, Add, Jeq, Assume, Fence, Term}

-- an instruction as a programmer would write it: registers are r1, r2 .., variables x1, x2 ..
abbrev pub instruction_words : Instruction → List ℕ
instruction_words (Read r x) = codes "r" ++ (decimal r ++ (codes " = x" ++ decimal x))
instruction_words (Write x r) = codes "x" ++ (decimal x ++ (codes " = r" ++ decimal r))
instruction_words (Cas x a b) = codes "cas x" ++ (decimal x ++ (codes ": r" ++ (decimal a ++ (codes " -> r" ++ decimal b))))
instruction_words (Set r v) = codes "r" ++ (decimal r ++ (codes " = " ++ decimal v))
instruction_words (Add r a b) = codes "r" ++ (decimal r ++ (codes " = r" ++ (decimal a ++ (codes " + r" ++ decimal b))))
instruction_words (Jeq a b l) = codes "if r" ++ (decimal a ++ (codes " == r" ++ (decimal b ++ (codes " goto " ++ decimal l))))
instruction_words (Assume a b) = codes "assume r" ++ (decimal a ++ (codes " == r" ++ decimal b))
instruction_words Fence = codes "fence"
instruction_words Term = codes "term"

-- what is wrong, and where
abbrev pub reason : Refusal → List ℕ
reason Length = codes "the length is not that of 2 to 129 lines of 25 bytes"
reason (Field i) = codes "line " ++ (decimal i ++ codes " has a wrong field or a wrong end")
reason Header = codes "line 1 has a number outside its limits, or does not say how many rows follow"
reason (Order i) = codes "the process and label of line " ++ (decimal i ++ codes " don't follow the row above, or pass a limit")
reason (Operand i) = codes "line " ++ (decimal i ++ codes " has no such instruction, or an operand outside its range")
reason (NoTerm i) = codes "line " ++ (decimal i ++ codes " is the last row of its process, and is not TERM")
reason (NoProcess i) = codes "the rows end at line " ++ (decimal i ++ codes ", before the last process")
