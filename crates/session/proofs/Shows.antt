-- What standing, step, replay and report answer, by what the calls before them amount to.
use Rattle.std.proofs.Common.{◌≡◌, ℕ, zero, suc, Bool, cond, List, [], ◌∷◌, Some, None as Nothing, refl, ap, ◌∙◌}
use Rattle.std.proofs.lemmas.Bool.{lt-ltb}
use Rattle.memory.specs.Machine.{Machine}
use Rattle.ceiling.specs.declared.moves.Move.{Move}
use Rattle.ceiling.specs.Programs.{World, next, offers, opening}
use Rattle.program.specs.Program.{Program}
use Rattle.worlds.specs.declared.places.Place.{Place}
use Rattle.worlds.specs.declared.records.Record.{Record}
use Rattle.worlds.specs.Worlds.{over, record_of}
use Rattle.runs.specs.declared.questions.Question.{Question}
use Rattle.runs.specs.declared.verdicts.Verdict.{Verdict}
use Rattle.runs.specs.declared.verdicts.Verdict.TheVariants.{More, Found, None}
use Rattle.runs.specs.Asked.{system}
use Rattle.runs.specs.Cursors.{IsPath}
use Rattle.runs.specs.First.{front}
use Rattle.runs.specs.Runs.{IsRun}
use Rattle.runs.specs.Searches.{shown}
use Rattle.runs.proofs.Splits.{stands_at}
use Rattle.session.specs.declared.standings.Stage.TheVariants as stage
use Rattle.session.specs.Contents.{if_found, steps_by}
use Rattle.session.specs.Outcomes.{standing_in, stepped_in, replayed_in, reported_by, reported_in}
use Rattle.session.specs.Recited.{records_of, recited, nth}
use Rattle.session.specs.Series.{Book, blank, held, asked}
use Rattle.session.specs.Answers.{found_steps, stood, stepped, replayed, reported}
use Rattle.session.specs.Law.{content_of, inquiry_after}
use Rattle.session.proofs.Books.{Sound, proper_some}
use Rattle.session.proofs.Recitals.{told_if}

none_of : (i : ℕ) → nth i [] ≡ Nothing
none_of zero = refl
none_of (suc i) = refl

module _ {Config : Type 0} (m : Machine Config) where
  -- the steps of a run are told to its end
  pub recited_is : (t : Program) (w : World Config Place) (ks : List Move) → IsRun (system m t) w ks → recited m t w ks ≡ records_of m t w ks
  recited_is t w [] run = refl
  recited_is t w (k ∷ ks) run =
      ap (told_if m t w k ks) (lt-ltb k.choice (offers m (over t) w k.process) run.0)
      ∙ ap (λ (rs : List Record). record_of m t w k ∷ rs) (recited_is t (next m (over t) w k) ks run.1)

  offered_found : (t : Program) (q : Question) (v : Verdict) (r : List Move) → IsPath m t q r → IsPath m t q (if_found v r)
  offered_found t q Found r h = h
  offered_found t q More r h = tt
  offered_found t q None r h = tt

  -- the steps of a question's found run
  pub steps_are : (t : Program) (q : Question) (E : ℕ) → steps_by m t (Some (inquiry_after m t q E)) ≡ found_steps m t q (shown m t q E)
  steps_are t q E =
      let l = shown m t q E in
      recited_is t (opening m (over t) q.shape) (if_found l.verdict (front l.left)) (offered_found t q l.verdict (front l.left) (stands_at m t q E).run)

  pub stand_value : (b : Book) → Sound b → standing_in (content_of m b) ≡ stood m b
  stand_value blank good = refl
  stand_value (held t) good = ap (λ (b : Bool). record { stage = cond b stage.New stage.Table; steps = 0 }) (proper_some t good)
  stand_value (asked t q E) good = refl

  pub step_value : (i : ℕ) (b : Book) → stepped_in m (content_of m b) i ≡ stepped m b i
  step_value i blank = none_of i
  step_value i (held t) = none_of i
  step_value i (asked t q E) = ap (nth i) (steps_are t q E)

  pub replay_value : (text : List ℕ) (b : Book) → replayed_in m (content_of m b) text ≡ replayed m b text
  replay_value text blank = refl
  replay_value text (held t) = refl
  replay_value text (asked t q E) = refl

  pub report_value : (out : List ℕ) (b : Book) → reported_in m (content_of m b) out ≡ reported m b out
  report_value out blank = refl
  report_value out (held t) = refl
  report_value out (asked t q E) = ap (λ (rs : List Record). reported_by (Some (inquiry_after m t q E)) rs out) (steps_are t q E)
