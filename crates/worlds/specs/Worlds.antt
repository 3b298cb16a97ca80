-- A table as a program over a memory, and what its code does to the world.
use Rattle.std.specs.Prelude.{◌≡◌, ℕ, ◌<◌, ◌≤◌, cond, List, Some, None, Ok, Err, Option, Result, slice_index_or}
use Rattle.memory.specs.declared.actions.Action.{Action}
use Rattle.memory.specs.Machine.{Machine}
use Rattle.ceiling.specs.declared.moves.Move.{Move}
use Rattle.ceiling.specs.Programs.{Program, World, deed, offers, next, event}
use Rattle.program.specs.declared.rows.Instruction.{Instruction}
use Rattle.program.specs.Program.{within, instruction_at}
use Rattle.program.specs.Program as table
use Rattle.worlds.specs.declared.places.Place.{Place}
use Rattle.worlds.specs.declared.records.Record.{Record}
use Rattle.worlds.specs.declared.records.Unmade.{Unmade}
use Rattle.worlds.specs.declared.records.Unmade.TheVariants.{NoMove, Refused}
use Rattle.worlds.specs.declared.standing.Standing.{Standing}
use Rattle.worlds.specs.declared.worlds.World.{World as Held}
use Rattle.worlds.specs.Places.{beginning, action_of, moved, shown}

-- the instruction at which a process stands, if there is such a process
abbrev pub instruction_in : table.Program → ℕ → Place → Option Instruction
instruction_in t p at = cond (within 1 t.counts.processes p) (instruction_at t.rows p at.label) None

abbrev pub action_by : Option Instruction → Place → Option Action
action_by (Some x) at = action_of x at
action_by None at = None

abbrev pub moved_by : ℕ → Option Instruction → Place → ℕ → Place
moved_by values (Some x) at v = moved values x at v
moved_by values None at v = at

abbrev pub shown_by : Option Instruction → ℕ → ℕ
shown_by (Some x) v = shown x v
shown_by None v = 0

-- The program that a table is: each process begins at label 1 with registers 0.
abbrev pub over : table.Program → Program Place
over t = record {
  begins = λ p. beginning;
  does = λ p at. action_by (instruction_in t p at) at;
  leads = λ p at v. moved_by t.counts.values (instruction_in t p at) at v;
}

-- where each process stands, by a list that begins with process 0
abbrev pub places_of : List Place → ℕ → Place
places_of places = λ p. slice_index_or places p beginning

-- what the code looks up of a process
pub record At (t : table.Program) (places : ℕ → Place) (p : ℕ) (s : Standing) : Type 0 where
  pub low : p < 5
  pub place : s.place ≡ places p
  pub instruction : instruction_in t p (places p) ≡ Some s.instruction
  pub values : s.values ≡ t.counts.values

abbrev pub StandsAs : table.Program → (ℕ → Place) → ℕ → Option Standing → Type 0
StandsAs t places p (Some s) = At t places p s
StandsAs t places p None = instruction_in t p (places p) ≡ None

-- the label of a process, if there is such a process
abbrev pub label_in : table.Program → (ℕ → Place) → ℕ → Option ℕ
label_in t places p = cond (within 1 t.counts.processes p) (Some (places p).label) None

-- what the struct stands for
abbrev pub world : {X Config : Type 0} → (X → Config) → Held X → World Config Place
world config x = record { config = config x.memory; places = places_of x.places }

module _ {Config : Type 0} (m : Machine Config) (t : table.Program) where
  -- the step of a run that a move is
  abbrev pub record_of : World Config Place → Move → Record
  record_of w k = record {
    process = k.process;
    label = (w.places k.process).label;
    choice = k.choice;
    value = shown_by (instruction_in t k.process (w.places k.process)) (event m (over t) w k).value;
    switch = (event m (over t) w k).mark;
  }

  -- A move whose choice is below the offer is made, and the world goes on; what is answered is its step.
  pub record Went (w : World Config Place) (k : Move) (v : World Config Place) (step : Record) : Type 0 where
    pub offered : k.choice < offers m (over t) w k.process
    pub after : v ≡ next m (over t) w k
    pub step_is : step ≡ record_of w k

  -- Where the process has no move, that is told; else the memory's own refusal with its offer. The world remains.
  pub record Without (w : World Config Place) (k : Move) (v : World Config Place) : Type 0 where
    pub none : deed m (over t) w k.process ≡ None
    pub same : v ≡ w

  pub record Beyond (w : World Config Place) (k : Move) (v : World Config Place) (offered : ℕ) : Type 0 where
    pub asks : (a : Action) × (deed m (over t) w k.process ≡ Some a)
    pub offer : offered ≡ offers m (over t) w k.process
    pub beyond : offers m (over t) w k.process ≤ k.choice
    pub same : v ≡ w

  abbrev pub Made : World Config Place → Move → World Config Place → Result Record Unmade → Type 0
  Made w k v (Ok step) = Went w k v step
  Made w k v (Err NoMove) = Without w k v
  Made w k v (Err (Refused f)) = Beyond w k v f.offered
