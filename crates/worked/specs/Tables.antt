-- The tables of the worked examples, as texts and as what they say.
use Rattle.std.specs.Prelude.{ℕ, List, [], ◌∷◌, ◌++◌, codes}
use Rattle.program.specs.declared.rows.Row.{Row}
use Rattle.program.specs.declared.rows.Instruction.{Instruction}
use Rattle.program.specs.declared.rows.Instruction.TheVariants.{Read, Write, Set, Assume, Term}
use Rattle.program.specs.Program.{Program}

abbrev row : ℕ → ℕ → Instruction → Row
row p l x = record { process = p; label = l; instruction = x }

-- each process writes one variable and then is to read 0 from the other
abbrev pub store_buffering_text : List ℕ
store_buffering_text =
    codes "   2   2   3   2  10   0\n" ++ (
    codes "   1   1   4   1   1   0\n" ++ (
    codes "   1   2   2   1   1   0\n" ++ (
    codes "   1   3   1   2   2   0\n" ++ (
    codes "   1   4   7   2   3   0\n" ++ (
    codes "   1   5   9   0   0   0\n" ++ (
    codes "   2   1   4   1   1   0\n" ++ (
    codes "   2   2   2   2   1   0\n" ++ (
    codes "   2   3   1   2   1   0\n" ++ (
    codes "   2   4   7   2   3   0\n" ++
    codes "   2   5   9   0   0   0\n")))))))))

abbrev pub store_buffering : Program
store_buffering = record {
  counts = record { processes = 2; variables = 2; registers = 3; values = 2 };
  rows =
      row 1 1 (Set 1 1) ∷ (row 1 2 (Write 1 1) ∷ (row 1 3 (Read 2 2) ∷ (row 1 4 (Assume 2 3) ∷ (row 1 5 Term
      ∷ (row 2 1 (Set 1 1) ∷ (row 2 2 (Write 2 1) ∷ (row 2 3 (Read 2 1) ∷ (row 2 4 (Assume 2 3) ∷ (row 2 5 Term ∷ [])))))))));
}

-- one process writes the data and then the flag; the other is to see the flag and then read 0 as the data
abbrev pub message_passing_text : List ℕ
message_passing_text =
    codes "   2   2   3   2   8   0\n" ++ (
    codes "   1   1   4   1   1   0\n" ++ (
    codes "   1   2   2   1   1   0\n" ++ (
    codes "   1   3   2   2   1   0\n" ++ (
    codes "   1   4   9   0   0   0\n" ++ (
    codes "   2   1   4   3   1   0\n" ++ (
    codes "   2   2   1   1   2   0\n" ++ (
    codes "   2   3   7   1   3   0\n" ++
    codes "   2   4   9   0   0   0\n")))))))

abbrev pub message_passing : Program
message_passing = record {
  counts = record { processes = 2; variables = 2; registers = 3; values = 2 };
  rows =
      row 1 1 (Set 1 1) ∷ (row 1 2 (Write 1 1) ∷ (row 1 3 (Write 2 1) ∷ (row 1 4 Term
      ∷ (row 2 1 (Set 3 1) ∷ (row 2 2 (Read 1 2) ∷ (row 2 3 (Assume 1 3) ∷ (row 2 4 Term ∷ [])))))));
}

-- the run of eight steps in which both processes read 0, as it is written; line 7 tells a choice, a value and a mark
abbrev pub run_text : List ℕ → List ℕ
run_text seventh =
    codes "   1   1   1   0   0   0\n" ++ (
    codes "   2   1   2   0   0   0\n" ++ (
    codes "   3   1   3   0   0   0\n" ++ (
    codes "   4   1   4   0   0   0\n" ++ (
    codes "   5   2   1   0   0   0\n" ++ (
    codes "   6   2   2   0   0   0\n" ++ (
    seventh ++
    codes "   8   2   4   0   0   0\n"))))))
