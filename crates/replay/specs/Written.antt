-- The written form of a run, and what playing a text says of it, in a reader's words.
use Rattle.std.specs.Prelude.{◌≡◌, ℕ, true, List, length, Ok, Err, Result}
use Rattle.memory.specs.Machine.{Machine}
use Rattle.ceiling.specs.declared.moves.Move.{Move}
use Rattle.program.specs.Program.{Program, lines_text}
use Rattle.runs.specs.declared.questions.Question.{Question}
use Rattle.runs.specs.Runs.{switches_of}
use Rattle.runs.specs.Asked.{system, arrived}
use Rattle.replay.specs.declared.faults.Fault.{Fault}
use Rattle.replay.specs.declared.faults.Played.{Played}
use Rattle.replay.specs.Bounded.{start, led_by, IsBounded}
use Rattle.replay.specs.Faults.{Faulty}
use Rattle.replay.specs.Fields.{run_fields}

module _ {Config : Type 0} (m : Machine Config) (t : Program) (q : Question) where
  -- a run within both bounds that reaches the targets
  pub record Answers (r : List Move) : Type 0 where
    pub within : IsBounded m t q r
    pub reaches : arrived q (led_by m t q r) ≡ true

  -- the bytes are the lines of the run
  abbrev pub IsWritten : List Move → List ℕ → Type 0
  IsWritten r text = text ≡ lines_text (run_fields m t (start m t q) 1 r)

  -- A text is accepted as a run's: the run answers the question, the text is its written form and that of no other.
  pub record AcceptedAs (text : List ℕ) (p : Played) (r : List Move) : Type 0 where
    pub answers : Answers r
    pub written : IsWritten r text
    pub only : (s : List Move) → Answers s → IsWritten s text → s ≡ r
    pub steps : p.steps ≡ length r
    pub switches : p.switches ≡ switches_of (system m t) (start m t q) r

  -- A refused text is the written form of no such run, and wrong in the way that the refusal says.
  pub record Refused (text : List ℕ) (f : Fault) : Type 0 where
    pub no_run : (r : List Move) → Answers r → IsWritten r text → ⊥
    pub fault : Faulty m t q text f

  -- What playing says: accepted just where the text is the written form of such a run, and else what is wrong with it.
  abbrev pub Says : List ℕ → Result Played Fault → Type 0
  Says text (Ok p) = (r : List Move) × AcceptedAs text p r
  Says text (Err f) = Refused text f
