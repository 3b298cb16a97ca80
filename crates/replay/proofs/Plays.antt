-- Lines are played to their end exactly if they are those of a run within the bounds that reaches the targets.
use Rattle.std.proofs.Common.{◌≡◌, ℕ, ◌+◌, ◌-◌, ◌≤◌, true, cond, List, [], ◌∷◌, map, length, Some, None, Ok, Err, Option, Result, refl, ap, ap₂, ◌∙◌, arith}
use Rattle.std.specs.List.{AllByRecursion}
use Rattle.memory.specs.Machine.{Machine}
use Rattle.ceiling.specs.declared.moves.Move.{Move}
use Rattle.ceiling.specs.Programs.{World, next}
use Rattle.program.specs.Program.{Program, Six}
use Rattle.program.proofs.Outcomes.{not_both, cond_ok}
use Rattle.worlds.specs.declared.places.Place.{Place}
use Rattle.worlds.specs.Worlds.{over, record_of}
use Rattle.runs.specs.declared.questions.Question.{Question}
use Rattle.runs.specs.Runs.{IsRun, switches_of, end_of}
use Rattle.runs.specs.Asked.{system, arrived}
use Rattle.replay.specs.declared.faults.Fault.{Fault}
use Rattle.replay.specs.declared.faults.Fault.TheVariants.{Targets}
use Rattle.replay.specs.declared.faults.Played.{Played}
use Rattle.replay.specs.Playing.{mark_number, record_fields, move_of, line_fault, lines_played}
use Rattle.replay.specs.Fields.{run_fields}
use Rattle.replay.proofs.Rights.{Right, right, unfaulted}

module _ {Config : Type 0} (m : Machine Config) (t : Program) (q : Question) where
  -- The run r from w, whose first line is line i and before which s switches were made, is within the bounds and
  -- reaches the targets, and p is what it has then.
  pub record Plays (w : World Config Place) (i s : ℕ) (r : List Move) (p : Played) : Type 0 where
    pub run : IsRun (system m t) w r
    pub moves : i + length r ≤ q.steps + 1
    pub few_switches : s + switches_of (system m t) w r ≤ q.switches
    pub reaches : arrived q (end_of (system m t) w r) ≡ true
    pub steps : p.steps + 1 ≡ i + length r
    pub switches : p.switches ≡ s + switches_of (system m t) w r

  -- what comes after a line, by its fault
  abbrev after : Option Fault → Result Played Fault → Result Played Fault
  after o rest = elim o [ Some fault ↦ Err fault | None ↦ rest ]

  goes_on : (o : Option Fault) (rest : Result Played Fault) (p : Played) → after o rest ≡ Ok p → (o ≡ None) × (rest ≡ Ok p)
  goes_on (Some f) rest p e = not_both f p e
  goes_on None rest p e = (refl, e)

  -- lines that are played to their end are those of such a run
  pub plays : (w : World Config Place) (i s : ℕ) (fs : List (List ℕ)) (p : Played) → AllByRecursion Six fs → 1 ≤ i → i ≤ q.steps + 1 → s ≤ q.switches
      → lines_played m t q w i s fs ≡ Ok p → (fs ≡ run_fields m t w i (map move_of fs)) × Plays w i s (map move_of fs) p
  plays w i s [] p six low short few e =
      let end : Played = record { steps = i - 1; switches = s } in
      let a = cond_ok (arrived q w) (Ok end) (Targets (i - 1)) p e in
      let same : end ≡ p = let k = a.1 in cc in
      let steps = ap (λ (x : Played). x.steps) same in
      let switches = ap (λ (x : Played). x.switches) same in
      (refl, record { run = tt; moves = omega arith; few_switches = omega arith; reaches = a.0; steps = omega arith; switches = omega arith })
  plays w i s (f ∷ fs) p six low short few e =
      let k = move_of f in
      let v = next m (over t) w k in
      let marked = mark_number (record_of m t w k).switch in
      let a = goes_on (line_fault m t q w i s f) (lines_played m t q v (i + 1) (s + marked) fs) p e in
      let here = right m t q w i s f six.0.0 a.0 in
      let rest = plays v (i + 1) (s + marked) fs p six.1 (omega arith) (omega (arith, here.short)) here.few a.1 in
      let then : Plays v (i + 1) (s + marked) (map move_of fs) p = rest.1 in (
        ap₂ ◌∷◌ here.fields rest.0,
        record {
          run = (here.offered, then.run);
          moves = omega arith;
          few_switches = omega arith;
          reaches = then.reaches;
          steps = omega arith;
          switches = omega arith;
        },
      )

  -- and the lines of such a run are played to their end
  pub played_back : (w : World Config Place) (i s : ℕ) (r : List Move) (p : Played) → Plays w i s r p → lines_played m t q w i s (run_fields m t w i r) ≡ Ok p
  played_back w i s [] p h =
      let steps : i - 1 ≡ p.steps = omega arith in
      let switches : s ≡ p.switches = omega arith in
      ap (λ b. cond b (Ok (record { steps = i - 1; switches = s })) (Err (Targets (i - 1)))) h.reaches
      ∙ (λ j. Ok (record { steps = steps j; switches = switches j }))
  played_back w i s (k ∷ ks) p h =
      let v = next m (over t) w k in
      let step = record_of m t w k in
      let marked = mark_number step.switch in
      let here : Right m t q w i s k (record_fields i step) = record { fields = refl; offered = h.run.0; short = omega arith; few = omega arith } in
      let rest : Plays v (i + 1) (s + marked) ks p = record {
        run = h.run.1;
        moves = omega arith;
        few_switches = omega arith;
        reaches = h.reaches;
        steps = omega arith;
        switches = omega arith;
      } in
      ap (λ o. after o (lines_played m t q v (i + 1) (s + marked) (run_fields m t v (i + 1) ks))) (unfaulted m t q w i s k (record_fields i step) here)
      ∙ played_back v (i + 1) (s + marked) ks p rest
