-- A report of what any effort shows has at most 625 bytes: the found run is one within bounds, so it has at most 24 steps.
use Rattle.std.proofs.Common.{◌≡◌, ℕ, ◌+◌, ◌*◌, ◌≤◌, List, [], ◌∷◌, length, refl, sym, ◌∙◌, subst, arith}
use Rattle.std.proofs.lemmas.List.{length-append}
use Rattle.text.specs.Lines.{line_text}
use Rattle.text.proofs.Lines.{length_line}
use Rattle.memory.specs.Machine.{Machine}
use Rattle.ceiling.specs.declared.moves.Move.{Move}
use Rattle.ceiling.specs.Programs.{World, next, opening}
use Rattle.program.specs.Program.{Program, lines_text}
use Rattle.worlds.specs.declared.places.Place.{Place}
use Rattle.worlds.specs.Worlds.{over, record_of}
use Rattle.runs.specs.declared.questions.Question.{Question}
use Rattle.runs.specs.declared.verdicts.Verdict.{Verdict}
use Rattle.runs.specs.declared.verdicts.Verdict.TheVariants.{More, Found, None}
use Rattle.runs.specs.Asked.{system}
use Rattle.runs.specs.First.{front}
use Rattle.runs.specs.Runs.{switches_of}
use Rattle.runs.specs.Searches.{shown, Tells}
use Rattle.runs.proofs.Works.{tells_by}
use Rattle.replay.specs.Playing.{record_fields}
use Rattle.replay.specs.Fields.{run_fields}
use Rattle.session.specs.Answers.{text_after}
use Rattle.session.specs.Contents.{if_found}
use Rattle.session.specs.Reports.{verdict_fields}
use Rattle.session.specs.Words.{report_of}
use Rattle.session.proofs.Tellings.{report_is}

module _ {Config : Type 0} (m : Machine Config) (t : Program) where
  length_run : (w : World Config Place) (i : ℕ) (r : List Move) → length (lines_text (run_fields m t w i r)) ≡ 25 * length r
  length_run w i [] = refl
  length_run w i (k ∷ ks) =
      length-append (line_text (record_fields i (record_of m t w k))) (lines_text (run_fields m t (next m (over t) w k) (i + 1) ks))
      ∙ omega (arith, length_line (record_fields i (record_of m t w k)), length_run (next m (over t) w k) (i + 1) ks)

  length_report : (q : Question) (v : Verdict) (r : List Move) → length (report_of m t q v r) ≡ 25 * (1 + length r)
  length_report q v r =
      let w = opening m (over t) q.shape in
      let first = verdict_fields v (length r) (switches_of (system m t) w r) in
      length-append (line_text first) (lines_text (run_fields m t w 1 r)) ∙ omega (arith, length_line first, length_run w 1 r)

  few_steps : (q : Question) (E U : ℕ) (v : Verdict) (r : List Move) → Tells m t q E U v r → length (if_found v r) ≤ 24
  few_steps q E U Found r k =
      let first = ((k.settled (λ e. cc)).found r).0 (refl, refl) in
      omega (arith, first.within.moves, q.short)
  few_steps q E U More r k = omega arith
  few_steps q E U None r k = omega arith

  pub report_short : (q : Question) (E : ℕ) → let l = shown m t q E in length (report_of m t q l.verdict (if_found l.verdict (front l.left))) ≤ 625
  report_short q E =
      let l = shown m t q E in
      let tells = tells_by m t q E l.units l.verdict (front l.left) refl refl (λ _. refl) in
      omega (arith, few_steps q E l.units l.verdict (front l.left) tells, length_report q l.verdict (if_found l.verdict (front l.left)))

  pub text_short : (q : Question) (E : ℕ) → length (text_after m t q E) ≤ 625
  text_short q E =
      let l = shown m t q E in
      subst (λ (z : List ℕ). length z ≤ 625) (sym (report_is m t q l.verdict (if_found l.verdict (front l.left)))) (report_short q E)
