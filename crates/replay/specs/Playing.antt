-- Playing a written run: for every byte string the one outcome.
use Rattle.std.specs.Prelude.{ℕ, ◌+◌, ◌-◌, Bool, false, cond, ◌&&◌, List, [], ◌∷◌, Some, None, Ok, Err, Option, Result, ◌==◌, nat_le, nat_lt, slice_index}
use Rattle.memory.specs.declared.actions.Action.{Action}
use Rattle.memory.specs.Machine.{Machine}
use Rattle.ceiling.specs.declared.moves.Move.{Move}
use Rattle.ceiling.specs.Programs.{World, deed, offers, next, opening}
use Rattle.program.specs.declared.lines.Unread.{Unread}
use Rattle.program.specs.declared.lines.Unread.TheVariants as of_lines
use Rattle.program.specs.Program.{Program}
use Rattle.program.specs.Reading.{then_do, lines_or}
use Rattle.worlds.specs.declared.places.Place.{Place}
use Rattle.worlds.specs.declared.records.Record.{Record}
use Rattle.worlds.specs.declared.records.Unmade.{Unmade}
use Rattle.worlds.specs.declared.records.Unmade.TheVariants as why
use Rattle.worlds.specs.Worlds.{over, label_in, record_of}
use Rattle.runs.specs.declared.questions.Question.{Question}
use Rattle.runs.specs.Asked.{arrived}
use Rattle.replay.specs.declared.faults.Fault.{Fault}
use Rattle.replay.specs.declared.faults.Fault.TheVariants.{Length, Field, Number, Process, NoMove, Choice, Seen, Bounds, Targets}
use Rattle.replay.specs.declared.faults.Played.{Played}

-- 1 for a switch, else 0
abbrev pub mark_number : Bool → ℕ
mark_number b = cond b 1 0

-- the six numbers of the line of step i
abbrev pub record_fields : ℕ → Record → List ℕ
record_fields i r = i ∷ (r.process ∷ (r.label ∷ (r.choice ∷ (r.value ∷ (mark_number r.switch ∷ [])))))

-- the move that a line's numbers name
abbrev pub move_of : List ℕ → Move
move_of f = record { process = slice_index f 1; choice = slice_index f 3 }

-- the numbers of each line, of which there are at most 24
abbrev pub lines_read : List ℕ → Result (List (List ℕ)) Fault
lines_read = lines_or 0 24 Length Field

-- lines that are not read, as a run tells it
abbrev pub unread : Unread → Fault
unread of_lines.Length = Length
unread (of_lines.Field i) = Field i

-- there is such a label, and it is this one
abbrev pub is_label : Option ℕ → ℕ → Bool
is_label (Some l) n = l == n
is_label None n = false

-- a choice that is not offered: where there is no move, or else by the memory
abbrev pub unoffered : ℕ → Option Action → ℕ → Fault
unoffered i (Some a) offered = Choice i (record { offered = offered })
unoffered i None offered = NoMove i

-- a move that is not made, as a world tells it
abbrev pub unmade : ℕ → Unmade → Fault
unmade i why.NoMove = NoMove i
unmade i (why.Refused refused) = Choice i refused

module _ {Config : Type 0} (m : Machine Config) (t : Program) (q : Question) where
  -- What is wrong with the numbers f of line i, if the run so far led to the world w with s switches: the first in this order.
  abbrev pub line_fault : World Config Place → ℕ → ℕ → List ℕ → Option Fault
  line_fault w i s f =
      let step = record_of m t w (move_of f) in
      cond (slice_index f 0 == i)
      (cond (is_label (label_in t w.places (slice_index f 1)) (slice_index f 2))
      (cond (nat_lt (slice_index f 3) (offers m (over t) w (slice_index f 1)))
      (cond (slice_index f 4 == step.value && slice_index f 5 == mark_number step.switch)
      (cond (nat_le i q.steps && nat_le (s + mark_number step.switch) q.switches) None (Some (Bounds i)))
      (Some (Seen i)))
      (Some (unoffered i (deed m (over t) w (slice_index f 1)) (offers m (over t) w (slice_index f 1)))))
      (Some (Process i)))
      (Some (Number i))

  -- the lines from line i on
  abbrev pub lines_played : World Config Place → ℕ → ℕ → List (List ℕ) → Result Played Fault
  lines_played w i s [] = cond (arrived q w) (Ok (record { steps = i - 1; switches = s })) (Err (Targets (i - 1)))
  lines_played w i s (f ∷ fs) = elim (line_fault w i s f) [
    | Some fault ↦ Err fault
    | None ↦ lines_played (next m (over t) w (move_of f)) (i + 1) (s + mark_number (record_of m t w (move_of f)).switch) fs
  ]

  -- The one outcome of a text: its length, the fields of all its lines, then line by line, and at the end the targets.
  abbrev pub played : List ℕ → Result Played Fault
  played text = then_do (lines_read text) (lines_played (opening m (over t) q.shape) 1 0)
