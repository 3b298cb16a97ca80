-- A text is accepted exactly as the written form of a run that answers the question, and of no other.
use Rattle.std.proofs.Common.{◌≡◌, ℕ, ◌+◌, ◌≤◌, true, List, [], ◌∷◌, map, length, Ok, Err, Result, sym, refl, ap, ◌∙◌, arith}
use Rattle.std.specs.List.{AllByRecursion}
use Rattle.text.specs.Lines.{Small}
use Rattle.memory.specs.declared.actions.Action.{Action}
use Rattle.memory.specs.Machine.{Machine}
use Rattle.memory.specs.Bytes.{SeesBytes}
use Rattle.ceiling.specs.declared.moves.Move.{Move}
use Rattle.ceiling.specs.Programs.{World, next}
use Rattle.program.specs.Program.{Program, Six, kept, lines_text}
use Rattle.program.specs.Reading.{then_do}
use Rattle.program.proofs.LineTexts.{lines_are, lines_back}
use Rattle.program.proofs.Outcomes.{not_both, then_ok}
use Rattle.worlds.specs.declared.places.Place.{Place}
use Rattle.worlds.specs.Worlds.{over}
use Rattle.runs.specs.declared.questions.Question.{Question}
use Rattle.runs.specs.Runs.{switches_of}
use Rattle.runs.specs.Asked.{system}
use Rattle.replay.specs.declared.faults.Fault.{Fault}
use Rattle.replay.specs.declared.faults.Fault.TheVariants.{Length, Field}
use Rattle.replay.specs.declared.faults.Played.{Played}
use Rattle.replay.specs.Bounded.{start}
use Rattle.replay.specs.Fields.{run_fields}
use Rattle.replay.specs.Playing.{move_of, lines_read, lines_played, played}
use Rattle.replay.specs.Written.{Answers, IsWritten, AcceptedAs, Says}
use Rattle.replay.proofs.Plays.{Plays, plays, played_back}
use Rattle.replay.proofs.Fits.{fits}
use Rattle.replay.proofs.Faulted.{faulted}

module _ {Config : Type 0} (m : Machine Config) (t : Program) where
  -- a run's lines: they name its moves, there is one for each, and each has six numbers
  moves_of_fields : (w : World Config Place) (i : ℕ) (r : List Move) → map move_of (run_fields m t w i r) ≡ r
  moves_of_fields w i [] = refl
  moves_of_fields w i (k ∷ ks) = ap (λ ms. k ∷ ms) (moves_of_fields (next m (over t) w k) (i + 1) ks)

  length_fields : (w : World Config Place) (i : ℕ) (r : List Move) → length (run_fields m t w i r) ≡ length r
  length_fields w i [] = refl
  length_fields w i (k ∷ ks) = omega (arith, length_fields (next m (over t) w k) (i + 1) ks)

  six_of : (w : World Config Place) (i : ℕ) (r : List Move) → AllByRecursion Small (run_fields m t w i r) → AllByRecursion Six (run_fields m t w i r)
  six_of w i [] h = tt
  six_of w i (k ∷ ks) h = ((refl, h.0), six_of (next m (over t) w k) (i + 1) ks h.1)

  module _ (q : Question) where
    -- the numbers of a run's lines
    abbrev pub fields : List Move → List (List ℕ)
    fields r = run_fields m t (start m t q) 1 r

    -- what it has once it is accepted
    abbrev pub told : List Move → Played
    told r = record { steps = length r; switches = switches_of (system m t) (start m t q) r }

    -- Every number of a run's lines fits its field: the table is one that was read or none, and the memory keeps its laws.
    module _ (keeps : kept t ≡ true) (widest : ℕ) (bounded : (s : Config) (p : ℕ) (a : Action) → m.offer s p a ≤ widest)
        (few : widest ≤ 9999) (bytes : SeesBytes m) where
      small_fields : (r : List Move) → Answers m t q r → AllByRecursion Small (fields r)
      small_fields r a =
          let moves = a.within.moves in
          let most = q.short in
          fits m t keeps widest bounded few bytes q.shape r a.within.run (omega arith)

      -- the written form of a run that answers is read as the run's lines
      lines_read_back : (r : List Move) → Answers m t q r → lines_read (lines_text (fields r)) ≡ Ok (fields r)
      lines_read_back r a =
          let w = start m t q in
          let moves = a.within.moves in
          let most = q.short in
          lines_back 0 24 Length Field (fields r) (six_of w 1 r (small_fields r a)) (omega arith) (omega (arith, length_fields w 1 r))

      -- and accepted
      pub complete : (r : List Move) → Answers m t q r → played m t q (lines_text (fields r)) ≡ Ok (told r)
      complete r a =
          let w = start m t q in
          let within = a.within in
          let run : Plays m t q w 1 0 r (told r) = record {
            run = within.run;
            moves = omega arith;
            few_switches = omega arith;
            reaches = a.reaches;
            steps = omega arith;
            switches = omega arith;
          } in
          ap (λ o. then_do o (lines_played m t q w 1 0)) (lines_read_back r a) ∙ played_back m t q w 1 0 r (told r) run

      text_back : (text : List ℕ) (r : List Move) → Answers m t q r → IsWritten m t q r text → played m t q text ≡ Ok (told r)
      text_back text r a h = ap (played m t q) h ∙ complete r a

      -- a text that is the written form of two such runs is that of one
      one_run : (text : List ℕ) (r s : List Move) → Answers m t q r → Answers m t q s → IsWritten m t q r text → IsWritten m t q s text → s ≡ r
      one_run text r s a b g h =
          let w = start m t q in
          let first = ap lines_read g ∙ lines_read_back r a in
          let second = ap lines_read h ∙ lines_read_back s b in
          let same : fields s ≡ fields r = cc in
          sym (moves_of_fields w 1 s) ∙ ap (map move_of) same ∙ moves_of_fields w 1 r

      accepted : (text : List ℕ) (p : Played) → played m t q text ≡ Ok p → (r : List Move) × AcceptedAs m t q text p r
      accepted text p e =
          let w = start m t q in
          let a = then_ok (lines_read text) (lines_played m t q w 1 0) p e in
          let fs = a.0 in
          let r = map move_of fs in
          let lines = lines_are 0 24 Length Field text fs a.1 in
          let b = plays m t q w 1 0 fs p lines.0 (omega arith) (omega arith) (omega arith) a.2 in
          let run : Plays m t q w 1 0 r p = b.1 in
          let answers : Answers m t q r = record { within = record { run = run.run; moves = omega arith; few_switches = omega arith }; reaches = run.reaches } in
          let written : IsWritten m t q r text = lines.1 ∙ ap lines_text b.0 in (
            r,
            record {
              answers = answers;
              written = written;
              only = λ s c h. one_run text r s answers c written h;
              steps = omega arith;
              switches = omega arith;
            },
          )

      by_outcome : (text : List ℕ) (o : Result Played Fault) → played m t q text ≡ o → Says m t q text o
      by_outcome text (Ok p) e = accepted text p e
      by_outcome text (Err f) e = record {
        no_run = λ r a h. not_both f (told r) (sym e ∙ text_back text r a h);
        fault = faulted m t q text f e;
      }

      pub says : (text : List ℕ) → Says m t q text (played m t q text)
      says text = by_outcome text (played m t q text) refl
