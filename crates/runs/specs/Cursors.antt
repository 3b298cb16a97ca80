-- Where a cursor stands among the runs of a question, and where it goes.
use Rattle.std.specs.Prelude.{◌≡◌, ℕ, ◌<◌, ◌≤◌, Bool, List, [], ◌∷◌, ◌++◌, length, Some, None, Option}
use Rattle.memory.specs.Machine.{Machine}
use Rattle.ceiling.specs.declared.moves.Move.{Move}
use Rattle.ceiling.specs.Programs.{World, offers}
use Rattle.program.specs.Program.{Program}
use Rattle.worlds.specs.declared.places.Place.{Place}
use Rattle.worlds.specs.Worlds.{over, world}
use Rattle.runs.specs.declared.cursors.Cursor.{Cursor}
use Rattle.runs.specs.declared.paths.Run.{Run}
use Rattle.runs.specs.declared.questions.Question.{Question}
use Rattle.runs.specs.Runs.{System, Node, at, Offered}
use Rattle.runs.specs.Walk.{Here, Outcome, Next}
use Rattle.runs.specs.Asked.{system, root}
use Rattle.runs.specs.Paths.{path}

module _ {Config : Type 0} (m : Machine Config) (t : Program) (q : Question) where
  -- the world w and the room are those at the run
  abbrev pub StandsAt : World Config Place → ℕ → List Move → Type 0
  StandsAt = Here (system m t) (root m t q)

  -- the moves are a run
  abbrev pub IsPath : List Move → Type 0
  IsPath = Offered (system m t) (root m t q)

  -- what making the moves from the start answers: the room that is left, or that they are no run
  abbrev pub Regained : World Config Place → List Move → Option ℕ → Type 0
  Regained w moves (Some room) = StandsAt w room moves
  Regained w moves None = IsPath moves → ⊥

  -- where the run leads
  abbrev pub spot : List Move → Node (World Config Place)
  spot = at (system m t) (root m t q)

  -- a part of the runs, by the place in their tree below which it lies
  abbrev Part : Type 0
  Part = System (World Config Place) → Node (World Config Place) → List (List Move)

  -- where a search through a part of the runs ends: the part is `whole` where a run is found in it, else `none`
  abbrev pub Goes : Part → Part → Run → Run → Bool → Type 0
  Goes whole none old new found =
      Outcome (system m t) (root m t q) (path old) (path new) (whole (system m t) (spot (path old))) (none (system m t) (spot (path old))) found

  -- the next run of the list, or that there is none
  abbrev pub GoesOn : Run → Run → Bool → Type 0
  GoesOn old new found = Next (system m t) (root m t q) (path old) (path new) found

  -- the cursor's world and room are those at its run, which has at most the question's steps
  pub record Sound {X : Type 0} (config : X → Config) (c : Cursor X) : Type 0 where
    pub within : length (path c.run) ≤ q.steps
    pub here : StandsAt (world config c.world) c.room (path c.run)

  -- taking the last move off: the run before it, and where it leads; or that there is none
  pub record TakenOff {X : Type 0} (config : X → Config) (old new : Cursor X) (last : Move) : Type 0 where
    pub sound : Sound config new
    pub was : path old.run ≡ path new.run ++ (last ∷ [])
    pub offered : last.choice < offers m (over t) (world config new.world) last.process

  pub record AtStart {X : Type 0} (config : X → Config) (old new : Cursor X) : Type 0 where
    pub sound : Sound config new
    pub was : path old.run ≡ []
    pub stays : path new.run ≡ []

  abbrev pub WentBack : {X : Type 0} → (X → Config) → Cursor X → Cursor X → Option Move → Type 0
  WentBack config old new (Some last) = TakenOff config old new last
  WentBack config old new None = AtStart config old new
