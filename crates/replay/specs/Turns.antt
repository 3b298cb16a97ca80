-- What playing one line does to the world, and what it answers.
use Rattle.std.specs.Prelude.{◌≡◌, ℕ, ◌+◌, ◌≤◌, Bool, cond, ◌&&◌, List, Some, None, Ok, Err, Result, ◌==◌, nat_le}
use Rattle.memory.specs.Machine.{Machine}
use Rattle.ceiling.specs.declared.moves.Move.{Move}
use Rattle.ceiling.specs.Programs.{World, deed, offers, next}
use Rattle.program.specs.Program.{Program}
use Rattle.worlds.specs.declared.places.Place.{Place}
use Rattle.worlds.specs.declared.records.Record.{Record}
use Rattle.worlds.specs.Worlds.{over, record_of, Went}
use Rattle.runs.specs.declared.questions.Question.{Question}
use Rattle.replay.specs.declared.faults.Fault.{Fault}
use Rattle.replay.specs.declared.faults.Fault.TheVariants.{Seen, Bounds}
use Rattle.replay.specs.Playing.{mark_number, move_of, unoffered, line_fault}

-- line i, and so many switches after it, are within the bounds
abbrev pub allowed : Question → ℕ → ℕ → Bool
allowed q i n = nat_le i q.steps && nat_le n q.switches

-- Whether a step that was made is the one that line i tells by its value and its mark, and then whether it is within
-- the bounds; if so, the switches after it.
abbrev pub judged : Question → ℕ → ℕ → Record → ℕ → ℕ → Result ℕ Fault
judged q i s made value mark =
    cond (value == made.value && mark == mark_number made.switch)
    (cond (allowed q i (s + mark_number made.switch)) (Ok (s + mark_number made.switch)) (Err (Bounds i)))
    (Err (Seen i))

module _ {Config : Type 0} (m : Machine Config) (t : Program) where
  -- The move k of line i is made, which leads from the world w to the world v; or it is not offered.
  abbrev pub Stepped : World Config Place → ℕ → Move → World Config Place → Result Record Fault → Type 0
  Stepped w i k v (Ok step) = Went m t w k v step
  Stepped w i k v (Err fault) =
      (offers m (over t) w k.process ≤ k.choice) × (fault ≡ unoffered i (deed m (over t) w k.process) (offers m (over t) w k.process))

module _ {Config : Type 0} (m : Machine Config) (t : Program) (q : Question) where
  -- Nothing is wrong with the numbers f of line i: from the world w and s switches they lead to the world v and n
  -- switches.
  pub record Led (w : World Config Place) (i s : ℕ) (f : List ℕ) (v : World Config Place) (n : ℕ) : Type 0 where
    pub right : line_fault m t q w i s f ≡ None
    pub after : v ≡ next m (over t) w (move_of f)
    pub switches : n ≡ s + mark_number (record_of m t w (move_of f)).switch

  abbrev pub Turned : World Config Place → ℕ → ℕ → List ℕ → World Config Place → Result ℕ Fault → Type 0
  Turned w i s f v (Ok n) = Led w i s f v n
  Turned w i s f v (Err fault) = line_fault m t q w i s f ≡ Some fault
