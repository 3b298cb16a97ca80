-- What a sitting writes, in a reader's words: the line of what is wrong with the input, or the report of its question.
use Rattle.std.specs.Prelude.{◌≡◌, ℕ, ◌<◌, ◌≤◌, ◌⊎◌, ◌↔◌, List, ◌++◌, length, Ok, Err, Result}
use Rattle.text.specs.Writing.{over as written_over}
use Rattle.memory.specs.declared.kinds.Kind.{Kind}
use Rattle.memory.specs.declared.kinds.Kind.TheVariants.{Sequential, ReleaseAcquire}
use Rattle.memory.specs.Fences.{fenced}
use Rattle.memory.specs.Machine.{Machine}
use Rattle.memory.specs.Sequential as sequential
use Rattle.ceiling.specs.declared.moves.Move.{Move}
use Rattle.ceiling.specs.Ceiling.{memory as weak, Reachable}
use Rattle.program.specs.declared.refusals.Refusal.{Refusal as Unreadable}
use Rattle.program.specs.Program.{Program}
use Rattle.program.specs.Source.{Accepted, Refused}
use Rattle.worlds.specs.Worlds.{over}
use Rattle.runs.specs.declared.lines.Wish.{Wish}
use Rattle.runs.specs.declared.questions.Question.{Question}
use Rattle.runs.specs.declared.questions.Unasked.{Unasked}
use Rattle.runs.specs.declared.verdicts.Verdict.{Verdict}
use Rattle.runs.specs.declared.verdicts.Verdict.TheVariants.{More, Found}
use Rattle.runs.specs.Askable.{Askable, Wrong}
use Rattle.runs.specs.Asked.{Asks, meets}
use Rattle.runs.specs.QuestionLines.{LineOf}
use Rattle.session.specs.declared.refusals.Refusal.{Refusal}
use Rattle.session.specs.declared.refusals.Refusal.TheVariants as refusal
use Rattle.session.specs.Contents.{if_found}
use Rattle.session.specs.Words.{Known, report_of}
use Rattle.sitting.specs.Outputs.{told}

-- The line of this refusal stands at the front of the buffer, in n bytes, and then what the buffer held.
abbrev pub LineTold : List ℕ → ℕ → List ℕ → Refusal → Type 0
LineTold out n new why = (n, new) ≡ told why out

-- The buffer holds the report of what a thousand million units of effort show of the question, in n bytes, and then what it
-- held.
pub record Reports {Config : Type 0} (m : Machine Config) (widest : ℕ) (w : Wish) (t : Program) (out : List ℕ) (n : ℕ) (new : List ℕ) : Type 0 where
  pub asked : Question
  pub asks : Asks t w.steps w.switches w.targets asked
  pub units : ℕ
  pub verdict : Verdict
  pub run : List Move
  pub known : Known m widest t asked 1000000000 units verdict run
  pub bytes : n ≡ length (report_of m t asked verdict (if_found verdict run))
  pub written : new ≡ written_over (report_of m t asked verdict (if_found verdict run)) out

-- and where the memory is release-acquire, a settled verdict is found just if some run within both bounds, with timestamps of
-- any size, reaches the targets
pub record Weakly (w : Wish) (t : Program) (out : List ℕ) (n : ℕ) (new : List ℕ) : Type 0 where
  pub reports : Reports weak 25 w t out n new
  pub free : (reports.verdict ≡ More → ⊥) → (reports.verdict ≡ Found)
      ↔ Reachable reports.asked.shape (over t) reports.asked.steps reports.asked.switches (meets reports.asked.targets)

-- The text is no table's, and the line tells what is wrong with it.
pub record NoTable (text out : List ℕ) (n : ℕ) (new : List ℕ) : Type 0 where
  pub why : Unreadable
  pub refused : Refused text why
  pub line : LineTold out n new (refusal.Table why)

-- The question cannot be asked of the table, and the line tells why.
pub record NoQuestion (w : Wish) (t : Program) (out : List ℕ) (n : ℕ) (new : List ℕ) : Type 0 where
  pub why : Unasked
  pub wrong : Wrong t w.steps w.switches w.targets why
  pub line : LineTold out n new (refusal.Question why)

-- The text is that of a table. The question cannot be asked of it, or it can, and the buffer holds what `Answer` says.
pub record OfTable (w : Wish) (text out : List ℕ) (n : ℕ) (new : List ℕ) (Answer : Program → Type 0) : Type 0 where
  pub table : Program
  pub accepted : Accepted text table
  pub asked : NoQuestion w table out n new ⊎ (Askable table w.steps w.switches w.targets × Answer table)

abbrev pub Written : Wish → List ℕ → List ℕ → ℕ → List ℕ → (Program → Type 0) → Type 0
Written w text out n new Answer = NoTable text out n new ⊎ OfTable w text out n new Answer

-- Nothing is written: the buffer is shorter than 625 bytes.
pub record TooShort (why : Refusal) (out new : List ℕ) : Type 0 where
  pub is : why ≡ refusal.Buffer
  pub short : length out < 625
  pub kept : new ≡ out

-- in a session over a memory
abbrev pub Sits : {Config : Type 0} → Machine Config → ℕ → Wish → List ℕ → List ℕ → Result ℕ Refusal → List ℕ → Type 0
Sits m widest w text out (Ok n) new = (625 ≤ length out) × Written w text out n new (λ t. Reports m widest w t out n new)
Sits m widest w text out (Err why) new = TooShort why out new

-- over the memory that is wished for
abbrev pub Answer : Kind → Wish → List ℕ → ℕ → List ℕ → Program → Type 0
Answer Sequential w out n new t = Reports (fenced sequential.machine) 1 w t out n new
Answer ReleaseAcquire w out n new t = Weakly w t out n new

abbrev pub SeatSays : Wish → List ℕ → List ℕ → Result ℕ Refusal → List ℕ → Type 0
SeatSays w text out (Ok n) new = (625 ≤ length out) × Written w text out n new (Answer w.memory w out n new)
SeatSays w text out (Err why) new = TooShort why out new

-- The input has from 29 to 4,000 bytes.
abbrev pub Sized : List ℕ → Type 0
Sized input = (29 ≤ length input) × (length input ≤ 4000)

-- It begins with the line of no wish, and the line tells that.
pub record NoLine (input out : List ℕ) (n : ℕ) (new : List ℕ) : Type 0 where
  pub sized : Sized input
  pub wrong : (w : Wish) (line text : List ℕ) → input ≡ line ++ text → LineOf w line → ⊥
  pub line : LineTold out n new refusal.QuestionLine

-- It is the line of a wish, and then a text.
pub record OfLine (input out : List ℕ) (n : ℕ) (new : List ℕ) : Type 0 where
  pub sized : Sized input
  pub wish : Wish
  pub line : List ℕ
  pub text : List ℕ
  pub are : input ≡ line ++ text
  pub wished : LineOf wish line
  pub written : Written wish text out n new (Answer wish.memory wish out n new)

-- What is written for an input: the line of its wrong length, that of its wrong question line, or what belongs to its wish.
abbrev pub SittingSays : List ℕ → List ℕ → Result ℕ Refusal → List ℕ → Type 0
SittingSays input out (Ok n) new =
    (625 ≤ length out) × (((Sized input → ⊥) × LineTold out n new refusal.Input) ⊎ NoLine input out n new ⊎ OfLine input out n new)
SittingSays input out (Err why) new = TooShort why out new
