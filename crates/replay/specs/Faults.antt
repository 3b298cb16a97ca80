-- What a refusal says of a run's text, in a reader's words: everything that is looked at before is right, and this is
-- wrong.
use Rattle.std.specs.Prelude.{◌≡◌, ℕ, ◌+◌, ◌<◌, ◌≤◌, ◌⊎◌, false, List, [], ◌∷◌, ◌++◌, length, Some, None, ◌≢◌}
use Rattle.std.specs.List.{AllByRecursion}
use Rattle.memory.specs.declared.actions.Action.{Action}
use Rattle.memory.specs.Machine.{Machine}
use Rattle.ceiling.specs.declared.moves.Move.{Move}
use Rattle.ceiling.specs.Programs.{deed, offers}
use Rattle.program.specs.Fields.{WrongLength, WrongField}
use Rattle.program.specs.Program.{Program, Six, lines_text}
use Rattle.worlds.specs.declared.records.Record.{Record}
use Rattle.worlds.specs.Worlds.{over, record_of}
use Rattle.runs.specs.declared.questions.Question.{Question}
use Rattle.runs.specs.Runs.{move, IsRun, switches_of}
use Rattle.runs.specs.Asked.{system, arrived}
use Rattle.replay.specs.declared.faults.Fault.{Fault}
use Rattle.replay.specs.declared.faults.Fault.TheVariants.{Length, Field, Number, Process, NoMove, Choice, Seen, Bounds, Targets}
use Rattle.replay.specs.Bounded.{start, led_by, IsBounded}
use Rattle.replay.specs.Playing.{mark_number, record_fields}
use Rattle.replay.specs.Fields.{run_fields}

-- the text is at most 24 lines, and these are their numbers
pub record Spells (text : List ℕ) (fs : List (List ℕ)) : Type 0 where
  pub few : length fs ≤ 24
  pub numbers : AllByRecursion Six fs
  pub are : text ≡ lines_text fs

-- the six numbers of a line
pub record Line : Type 0 where
  pub number : ℕ
  pub process : ℕ
  pub label : ℕ
  pub choice : ℕ
  pub value : ℕ
  pub mark : ℕ

abbrev pub numbers_of : Line → List ℕ
numbers_of x = x.number ∷ (x.process ∷ (x.label ∷ (x.choice ∷ (x.value ∷ (x.mark ∷ [])))))

-- the move that a line names
abbrev pub move_in : Line → Move
move_in x = move x.process x.choice

module _ {Config : Type 0} (m : Machine Config) (t : Program) (q : Question) where
  -- after the run r the move k can be made
  abbrev pub CanFollow : List Move → Move → Type 0
  CanFollow r k = IsRun (system m t) (start m t q) (r ++ (k ∷ []))

  -- the step that k is then
  abbrev pub step_after : List Move → Move → Record
  step_after r k = record_of m t (led_by m t q r) k

  -- the table has process p, and after the run r it stands at label l
  abbrev pub StandsAt : List Move → ℕ → ℕ → Type 0
  StandsAt r p l = (1 ≤ p) × (p ≤ t.counts.processes) × (((led_by m t q r).places p).label ≡ l)

  -- All lines are numbers. Those before line i are the lines of the run r, which is within both bounds, and line i is x.
  pub record Reached (text : List ℕ) (i : ℕ) (r : List Move) (x : Line) : Type 0 where
    pub rest : List (List ℕ)
    pub spells : Spells text (run_fields m t (start m t q) 1 r ++ (numbers_of x ∷ rest))
    pub bounded : IsBounded m t q r
    pub place : i ≡ length r + 1

  -- and the line's number is right, and its process stands at its label
  pub record Placed (text : List ℕ) (i : ℕ) (r : List Move) (x : Line) : Type 0 where
    pub reached : Reached text i r x
    pub number : x.number ≡ i
    pub stands : StandsAt r x.process x.label

  -- and its choice is not below what is offered to the process there, so that its move cannot be made
  pub record Unoffered (text : List ℕ) (i : ℕ) (r : List Move) (x : Line) : Type 0 where
    pub placed : Placed text i r x
    pub beyond : offers m (over t) (led_by m t q r) x.process ≤ x.choice

  -- line i is reached, and its number is another one
  pub record WrongNumber (text : List ℕ) (i : ℕ) : Type 0 where
    pub run : List Move
    pub line : Line
    pub reached : Reached text i run line
    pub wrong : line.number ≢ i

  -- its number is right, and no process of the line's number stands at the line's label
  pub record WrongProcess (text : List ℕ) (i : ℕ) : Type 0 where
    pub run : List Move
    pub line : Line
    pub reached : Reached text i run line
    pub number : line.number ≡ i
    pub wrong : StandsAt run line.process line.label → ⊥

  -- its move is not offered: the process does nothing there
  pub record WrongMove (text : List ℕ) (i : ℕ) : Type 0 where
    pub run : List Move
    pub line : Line
    pub unoffered : Unoffered text i run line
    pub nothing : deed m (over t) (led_by m t q run) line.process ≡ None

  -- its move is not offered: for what the process does there are so many choices
  pub record WrongChoice (text : List ℕ) (i offered : ℕ) : Type 0 where
    pub run : List Move
    pub line : Line
    pub unoffered : Unoffered text i run line
    pub does : (a : Action) × (deed m (over t) (led_by m t q run) line.process ≡ Some a)
    pub told : offered ≡ offers m (over t) (led_by m t q run) line.process

  -- its move can be made, and the line has another value or another mark than the step
  pub record WrongSeen (text : List ℕ) (i : ℕ) : Type 0 where
    pub run : List Move
    pub line : Line
    pub placed : Placed text i run line
    pub goes_on : CanFollow run (move_in line)
    pub wrong :
        (line.value ≢ (step_after run (move_in line)).value)
        ⊎ (line.mark ≢ mark_number (step_after run (move_in line)).switch)

  -- the line is that of a move that can be made, and with it the run has too many moves or too many switches
  pub record WrongBounds (text : List ℕ) (i : ℕ) : Type 0 where
    pub run : List Move
    pub line : Line
    pub reached : Reached text i run line
    pub move : Move
    pub goes_on : CanFollow run move
    pub right : numbers_of line ≡ record_fields i (step_after run move)
    pub wrong :
        (q.steps < length (run ++ (move ∷ [])))
        ⊎ (q.switches < switches_of (system m t) (start m t q) (run ++ (move ∷ [])))

  -- all n lines are those of a run within both bounds, and it does not reach the targets
  pub record WrongTargets (text : List ℕ) (n : ℕ) : Type 0 where
    pub run : List Move
    pub spells : Spells text (run_fields m t (start m t q) 1 run)
    pub bounded : IsBounded m t q run
    pub place : n ≡ length run
    pub wrong : arrived q (led_by m t q run) ≡ false

  abbrev pub Faulty : List ℕ → Fault → Type 0
  Faulty text Length = WrongLength 0 24 text
  Faulty text (Field i) = WrongField 0 24 text i
  Faulty text (Number i) = WrongNumber text i
  Faulty text (Process i) = WrongProcess text i
  Faulty text (NoMove i) = WrongMove text i
  Faulty text (Choice i refused) = WrongChoice text i refused.offered
  Faulty text (Seen i) = WrongSeen text i
  Faulty text (Bounds i) = WrongBounds text i
  Faulty text (Targets n) = WrongTargets text n
