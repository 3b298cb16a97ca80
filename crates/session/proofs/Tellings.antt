-- What the calls answer after any series of them, in a reader's words.
-- By the law an answer is that of what the calls amount to; what is known of a question then (Knows) says the rest.
use Rattle.std.proofs.lemmas.Bool.{and_from, and_parts, both_ways, cases_lt, le-leb, leb-false, leb-true}
use Rattle.std.proofs.Common.{◌≡◌, ℕ, ◌+◌, ◌<◌, ◌≤◌, ◌⊎◌, leb, inl, inr, Bool, true, false, cond, List, [], ◌∷◌, ◌++◌, length, Ok, Err, Option, Result, nat_le, refl, sym, ap, ap₂, ◌∙◌, subst, arith}
use Rattle.text.specs.Lines.{line_text}
use Rattle.text.specs.Writing.{over as written_over}
use Rattle.memory.specs.declared.actions.Action.{Action}
use Rattle.memory.specs.Bytes.{SeesBytes}
use Rattle.memory.specs.Machine.{Machine}
use Rattle.ceiling.specs.declared.moves.Move.{Move}
use Rattle.ceiling.specs.Programs.{World, next, opening}
use Rattle.program.specs.Program.{Program, lines_text, within}
use Rattle.worlds.specs.declared.places.Place.{Place}
use Rattle.worlds.specs.Worlds.{over, record_of}
use Rattle.runs.specs.declared.questions.Question.{Question}
use Rattle.runs.specs.declared.verdicts.Verdict.{Verdict}
use Rattle.runs.specs.declared.verdicts.Verdict.TheVariants.{More, Found, None}
use Rattle.runs.specs.declared.verdicts.Worked.{Worked}
use Rattle.runs.specs.declared.questions.Unasked.{Unasked}
use Rattle.runs.specs.declared.questions.Unasked.TheVariants.{NoTable}
use Rattle.runs.specs.Askable.{Judges}
use Rattle.runs.specs.Asked.{judged, root, system}
use Rattle.runs.specs.First.{front}
use Rattle.runs.specs.Runs.{list, switches_of}
use Rattle.runs.specs.Searches.{hits, shown}
use Rattle.runs.proofs.Judged.{judges}
use Rattle.runs.proofs.Looks.{look_rises}
use Rattle.replay.specs.declared.faults.Played.{Played}
use Rattle.replay.specs.Playing.{mark_number, played, record_fields}
use Rattle.replay.specs.Fields.{run_fields}
use Rattle.replay.proofs.Says.{says}
use Rattle.session.specs.declared.refusals.Refusal.{Refusal}
use Rattle.session.specs.declared.refusals.Refusal.TheVariants as refusal
use Rattle.session.specs.declared.standings.Standing.{Standing}
use Rattle.session.specs.declared.steps.Step.{Step}
use Rattle.session.specs.Contents.{if_found}
use Rattle.session.specs.Outcomes.{as_question, stage_by}
use Rattle.session.specs.Recited.{records_of}
use Rattle.session.specs.Reports.{numbered, report_text, switches_in, verdict_fields}
use Rattle.session.specs.Series.{Call, Book, blank, held, asked, booked}
use Rattle.session.specs.Answers.{added, opened, replayed, reported, stepped, stood, text_after, worked}
use Rattle.session.specs.Spent.{spent}
use Rattle.session.specs.Words.{Fills, OfNothing, OfQuestion, OfTable, Known, PutSays, ReplayBy, ReplaySays, ReportBy, ReportSays, StageSays, StandingSays, StepBy, StepSays, WorkBy, WorkSays, report_of, table_of}
use Rattle.session.proofs.Books.{Sound, proper_kept, sound}
use Rattle.session.proofs.Knows.{known, spent_is, units_at}

pub ok_one : {A E : Type 0} {a b : A} → ◌≡◌ {A = Result A E} (Ok a) (Ok b) → a ≡ b
ok_one e = cc

-- what is answered to a put says whether the question can be asked of the table
pub put_says : (h : List Call) (n k : ℕ) (targets : List ℕ) (r : Result (Unit {0}) Refusal) → r ≡ opened (booked h) n k targets → PutSays h n k targets r
put_says h n k targets r e = subst (PutSays h n k targets) (sym e) (by (booked h))
  where
    judged_by : (t : Program) (x : Result (Unit {0}) Unasked) → judged t n k targets ≡ x
        → (y : Result (Unit {0}) Unasked) × (as_question x ≡ as_question y) × Judges t n k targets y
    judged_by t x e = (x, refl, judges t n k targets x e)

    by : (b : Book) → (y : Result (Unit {0}) Unasked) × (opened b n k targets ≡ as_question y) × Judges (table_of b) n k targets y
    by blank = (Err NoTable, refl, refl)
    by (held t) = judged_by t (judged t n k targets) refl
    by (asked t q E) = judged_by t (judged t n k targets) refl

module _ {Config : Type 0} (m : Machine Config) (t : Program) where
  -- the steps of a run as its written form has them
  length_records : (w : World Config Place) (r : List Move) → length (records_of m t w r) ≡ length r
  length_records w [] = refl
  length_records w (k ∷ ks) = omega (arith, length_records (next m (over t) w k) ks)

  switches_records : (w : World Config Place) (r : List Move) → switches_in (records_of m t w r) ≡ switches_of (system m t) w r
  switches_records w [] = refl
  switches_records w (k ∷ ks) =
      ap (λ (n : ℕ). mark_number (record_of m t w k).switch + n) (switches_records (next m (over t) w k) ks)

  numbered_records : (w : World Config Place) (i : ℕ) (r : List Move) → numbered i (records_of m t w r) ≡ run_fields m t w i r
  numbered_records w i [] = refl
  numbered_records w i (k ∷ ks) =
      ap (λ (fs : List (List ℕ)). record_fields i (record_of m t w k) ∷ fs) (numbered_records (next m (over t) w k) (i + 1) ks)

  pub report_is : (q : Question) (v : Verdict) (r : List Move) → report_text v (records_of m t (opening m (over t) q.shape) r) ≡ report_of m t q v r
  report_is q v r =
      let w = opening m (over t) q.shape in
      ap₂ (λ (n k : ℕ). line_text (verdict_fields v n k) ++ lines_text (numbered 1 (records_of m t w r))) (length_records w r) (switches_records w r)
      ∙ ap (λ (fs : List (List ℕ)). line_text (verdict_fields v (length r) (switches_of (system m t) w r)) ++ lines_text fs) (numbered_records w 1 r)

module _ {Config : Type 0} (m : Machine Config) (widest : ℕ) (bounded : (s : Config) (p : ℕ) (a : Action) → m.offer s p a ≤ widest) (h : List Call) where
  -- what is shown of a question that the calls have put
  known_after : (t : Program) (q : Question) (E : ℕ) → booked h ≡ asked t q E
      → let l = shown m t q E in Known m widest t q E (spent m h) l.verdict (front l.left)
  known_after t q E e =
      let l = shown m t q E in
      subst (λ (u : ℕ). Known m widest t q E u l.verdict (front l.left)) (sym (spent_is m h ∙ ap (units_at m) e)) (known m widest bounded t q E)

  of_question : (P : Program → Question → ℕ → Type 0) (t : Program) (q : Question) (E : ℕ) → booked h ≡ asked t q E → P t q E → OfQuestion (booked h) P
  of_question P t q E e p = subst (λ (b : Book). OfQuestion b P) (sym e) p

  work_asked : (e : ℕ) (w : Worked) (t : Program) (q : Question) (E : ℕ) → booked h ≡ asked t q E
      → w ≡ added (shown m t q E) (shown m t q (E + e))
      → Known m widest t q (E + e) (spent m h + w.units) w.verdict (front (shown m t q (E + e)).left)
  work_asked e w t q E is same =
      let l = shown m t q (E + e) in
      let before : spent m h ≡ (shown m t q E).units = spent_is m h ∙ ap (units_at m) is in
      let units : l.units ≡ spent m h + w.units =
      omega (arith, ap (λ (x : Worked). x.units) same, look_rises (hits m t q) E e (list (system m t) (root m t q))) in
      let verdict : l.verdict ≡ w.verdict = sym (ap (λ (x : Worked). x.verdict) same) in
      subst (λ (v : Verdict). Known m widest t q (E + e) (spent m h + w.units) v (front l.left)) verdict
      (subst (λ (u : ℕ). Known m widest t q (E + e) u l.verdict (front l.left)) units (known m widest bounded t q (E + e)))

  -- an effort is taken or not
  out_of_range : (e : ℕ) → within 1 1000000 e ≡ false → (e ≡ 0) ⊎ (1000000 < e)
  out_of_range e out = elim (cases_lt e 1) [
    | inl l ↦ inl (omega arith)
    | inr g ↦ elim (cases_lt 1000000 e) [
      | inl l ↦ inr l
      | inr k ↦ absurd (let yes : within 1 1000000 e ≡ true = and_from (leb 1 e) (leb e 1000000) (le-leb 1 e g) (le-leb e 1000000 k) in both_ways (within 1 1000000 e) out yes)
    ]
  ]

  pub work_says : (e : ℕ) (r : Result Worked Refusal) → r ≡ worked m (booked h) e → WorkSays m widest h e r
  work_says e r same = go (booked h) refl same
    where
      by : (b : Bool) (t : Program) (q : Question) (E : ℕ) → booked h ≡ asked t q E → within 1 1000000 e ≡ b
          → r ≡ cond b (Ok (added (shown m t q E) (shown m t q (E + e)))) (Err refusal.Effort) → WorkBy m widest h (asked t q E) e r
      by true t q E is may s =
          let w = added (shown m t q E) (shown m t q (E + e)) in
          let range = and_parts (leb 1 e) (leb e 1000000) may in
          inl (record {
            effort = (leb-true 1 e range.0, leb-true e 1000000 range.1);
            worked = w;
            is = s;
            run = front (shown m t q (E + e)).left;
            known = work_asked e w t q E is refl;
          })
      by false t q E is out s = inr (out_of_range e out, s)

      go : (b : Book) → booked h ≡ b → r ≡ worked m b e → WorkBy m widest h b e r
      go blank is s = s
      go (held t) is s = s
      go (asked t q E) is s = by (within 1 1000000 e) t q E is refl s

  stage_known : (t : Program) (q : Question) (E : ℕ) → booked h ≡ asked t q E → (v : Verdict) (r : List Move) → Known m widest t q E (spent m h) v r
      → StageSays m widest h (stage_by v) (length (if_found v r))
  stage_known t q E is More r k = of_question (λ t q E. (r : List Move) × (Known m widest t q E (spent m h) More r × (◌≡◌ {A = ℕ} 0 0))) t q E is (r, (k, refl))
  stage_known t q E is Found r k = of_question (λ t q E. (s : List Move) × (Known m widest t q E (spent m h) Found s × (length r ≡ length s))) t q E is (r, (k, refl))
  stage_known t q E is None r k = of_question (λ t q E. (r : List Move) × (Known m widest t q E (spent m h) None r × (◌≡◌ {A = ℕ} 0 0))) t q E is (r, (k, refl))

  pub standing_says : (s : Standing) → s ≡ stood m (booked h) → StandingSays m widest h s
  standing_says s same = subst (StandingSays m widest h) (sym same) (go (booked h) refl)
    where
      go : (b : Book) → booked h ≡ b → StandingSays m widest h (stood m b)
      go blank is = (subst (λ (b : Book). OfNothing b) (sym is) tt, refl)
      go (held t) is = (subst (λ (b : Book). OfTable b) (sym is) tt, refl)
      go (asked t q E) is = let l = shown m t q E in stage_known t q E is l.verdict (front l.left) (known_after t q E is)

  pub step_says : (i : ℕ) (o : Option Step) → o ≡ stepped m (booked h) i → StepSays m widest h i o
  step_says i o same = go (booked h) refl same
    where
      go : (b : Book) → booked h ≡ b → o ≡ stepped m b i → StepBy m widest h b i o
      go blank is s = s
      go (held t) is s = s
      go (asked t q E) is s = let l = shown m t q E in (l.verdict, front l.left, known_after t q E is, s)

  pub report_says : (out new : List ℕ) (r : Result ℕ Refusal) → (r, new) ≡ reported m (booked h) out → ReportSays m widest h out r new
  report_says out new r same = go (booked h) refl same
    where
      filled : (b : Bool) (text : List ℕ) → nat_le (length text) (length out) ≡ b
          → ◌≡◌ {A = Result ℕ Refusal × List ℕ} (r, new) (cond b (Ok (length text), written_over text out) (Err (refusal.Short (length text)), out)) → Fills text out r new
      filled true text room s =
          inl (leb-true (length text) (length out) room, ap (λ (y : Result ℕ Refusal × List ℕ). y.0) s, ap (λ (y : Result ℕ Refusal × List ℕ). y.1) s)
      filled false text short s =
          inr (leb-false (length text) (length out) short, ap (λ (y : Result ℕ Refusal × List ℕ). y.0) s, ap (λ (y : Result ℕ Refusal × List ℕ). y.1) s)

      go : (b : Book) → booked h ≡ b → (r, new) ≡ reported m b out → ReportBy m widest h b out r new
      go blank is s = (ap (λ (y : Result ℕ Refusal × List ℕ). y.0) s, ap (λ (y : Result ℕ Refusal × List ℕ). y.1) s)
      go (held t) is s = (ap (λ (y : Result ℕ Refusal × List ℕ). y.0) s, ap (λ (y : Result ℕ Refusal × List ℕ). y.1) s)
      go (asked t q E) is s =
          let l = shown m t q E in
          let text = text_after m t q E in
          record {
            verdict = l.verdict;
            run = front l.left;
            known = known_after t q E is;
            written = subst (λ (z : List ℕ). Fills z out r new) (report_is m t q l.verdict (if_found l.verdict (front l.left)))
                (filled (nat_le (length text) (length out)) text refl s);
          }

  module _ (few : widest ≤ 9999) (bytes : SeesBytes m) where
    pub replay_says : (text : List ℕ) (r : Result Played Refusal) → r ≡ replayed m (booked h) text → ReplaySays m h text r
    replay_says text r same = go (booked h) (sound h) same
      where
        go : (b : Book) → Sound b → r ≡ replayed m b text → ReplayBy m b text r
        go blank good s = s
        go (held t) good s = s
        go (asked t q E) good s = (played m t q text, s, says m t q (proper_kept t good.0) widest bounded few bytes text)
