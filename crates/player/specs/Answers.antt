-- What is printed for an input.
use Rattle.std.specs.Prelude.{◌≡◌, ℕ, ◌-◌, ◌/◌, List, [], ◌∷◌, ◌++◌, length, take, Some, None, Ok, Err, codes, decimal, Option, Result}
use Rattle.std.specs.Simd.{first_chunks}
use Rattle.text.specs.Lines.{line_numbers}
use Rattle.wording.specs.Amounts.{amount_words}
use Rattle.memory.specs.declared.kinds.Kind.{Kind}
use Rattle.memory.specs.declared.kinds.Kind.TheVariants.{Sequential, ReleaseAcquire}
use Rattle.memory.specs.Fences.{fenced}
use Rattle.memory.specs.Sequential as sequential
use Rattle.memory.specs.ReleaseAcquire as release_acquire
use Rattle.program.specs.declared.refusals.Refusal.{Refusal}
use Rattle.program.specs.Program.{Program}
use Rattle.program.specs.Reading.{read}
use Rattle.program.specs.Refusals as table
use Rattle.program.specs.Words as table_words
use Rattle.runs.specs.declared.lines.Wish.{Wish}
use Rattle.runs.specs.declared.questions.Question.{Question}
use Rattle.runs.specs.declared.questions.Unasked.{Unasked}
use Rattle.runs.specs.Asked.{judged, Asks}
use Rattle.runs.specs.Lines.{wish_of}
use Rattle.runs.specs.Notices as question
use Rattle.runs.specs.Words as question_words
use Rattle.replay.specs.declared.faults.Fault.{Fault}
use Rattle.replay.specs.declared.faults.Fault.TheVariants.{Length, Field, Number, Process, NoMove, Choice, Seen, Bounds, Targets}
use Rattle.replay.specs.declared.faults.Played.{Played}
use Rattle.replay.specs.Notices as run
use Rattle.replay.specs.Words as run_words
use Rattle.replay.specs.Playing.{played}
use Rattle.player.specs.Parts.{question_part, table_part, run_part}
use Rattle.player.specs.Words.{step_words}

-- a refusal by its number and what is wrong
abbrev pub refused : ℕ → List ℕ → List ℕ
refused number reason = codes "refused (" ++ (decimal number ++ (codes "): " ++ (reason ++ codes "\n")))

-- how many lines were played before the one that is told, or in all
abbrev pub lines_played : Result Played Fault → ℕ
lines_played (Ok p) = p.steps
lines_played (Err Length) = 0
lines_played (Err (Field i)) = 0
lines_played (Err (Number i)) = i - 1
lines_played (Err (Process i)) = i - 1
lines_played (Err (NoMove i)) = i - 1
lines_played (Err (Choice i refused)) = i - 1
lines_played (Err (Seen i)) = i - 1
lines_played (Err (Bounds i)) = i - 1
lines_played (Err (Targets i)) = i

-- the words of each line whose numbers are read
abbrev pub line_words : Program → Option (List ℕ) → List ℕ
line_words t (Some f) = step_words t f
line_words t None = []

abbrev pub steps_words : Program → List (List ℕ) → List ℕ
steps_words t [] = []
steps_words t (l ∷ ls) = line_words t (line_numbers 6 l) ++ steps_words t ls

-- the last line: how many steps and switches, or what is refused
abbrev pub end_words : Result Played Fault → List ℕ
end_words (Ok p) =
    codes "played: " ++ (amount_words p.steps (codes "step") (codes "steps") ++ (codes ", "
    ++ (amount_words p.switches (codes "switch") (codes "switches") ++ codes "\n")))
end_words (Err f) = refused (run.notice f).number (run_words.reason f)

-- a line for each step that was played, and the last line
abbrev pub told : Program → List ℕ → Result Played Fault → List ℕ
told t text result =
    steps_words t (take (lines_played result) (first_chunks 25 (length text / 25) text)) ++ end_words result

-- playing over the memory that is asked for, with its fence layer
abbrev pub played_over : Kind → Program → Question → List ℕ → Result Played Fault
played_over Sequential t q text = played (fenced sequential.machine) t q text
played_over ReleaseAcquire t q text = played (fenced release_acquire.machine) t q text

-- what is printed: of a question that is asked of a table, the run that is played; else why it is not asked
abbrev pub Asked : Wish → Program → List ℕ → List ℕ → Result (Unit {0}) Unasked → Type 0
Asked w t text out (Ok u) = (q : Question) × Asks t w.steps w.switches w.targets q × (out ≡ told t text (played_over w.memory t q text))
Asked w t text out (Err why) = out ≡ refused (question.notice why).number (question_words.reason why)

-- of a table that is read, what is printed for the question; else why it is not read
abbrev pub Read : Wish → List ℕ → List ℕ → Result Program Refusal → Type 0
Read w text out (Ok t) = Asked w t text out (judged t w.steps w.switches w.targets)
Read w text out (Err f) = out ≡ refused (table.notice f).number (table_words.reason f)

-- of a question line that is read, what is printed for the table; else that it is not
abbrev pub Wished : List ℕ → List ℕ → Option Wish → Type 0
Wished input out (Some w) = Read w (run_part input) out (read (table_part input))
Wished input out None = out ≡ codes "refused (72): the question line has a wrong field, end or memory\n"

abbrev pub Answered : List ℕ → List ℕ → Type 0
Answered input out = Wished input out (wish_of (question_part input))
