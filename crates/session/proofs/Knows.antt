-- What is known of a question after any series of calls, and the units that works have reported.
-- By the efforts in all: what works that add up tell (crate `runs`) is turned to what is known of the question.
use Rattle.std.proofs.Common.{◌≡◌, ℕ, ◌+◌, ◌≤◌, ◌↔◌, Bool, true, false, cond, ◌&&◌, List, [], ◌∷◌, Some, None as Nothing, Ok, Err, Option, Result, nat_le, refl, sym, ap, ◌∙◌, arith}
use Rattle.std.proofs.lemmas.Bool.{and_parts}
use Rattle.memory.specs.declared.actions.Action.{Action}
use Rattle.memory.specs.Machine.{Machine}
use Rattle.program.specs.declared.refusals.Refusal.{Refusal as Unreadable}
use Rattle.program.specs.Program.{Program, counts_fit, is_nothing, proper, within}
use Rattle.program.specs.Reading.{read}
use Rattle.runs.specs.declared.questions.Question.{Question}
use Rattle.runs.specs.declared.questions.Unasked.{Unasked}
use Rattle.runs.specs.declared.questions.Unasked.TheVariants.{NoTable, Bounds}
use Rattle.ceiling.specs.declared.moves.Move.{Move}
use Rattle.runs.specs.declared.verdicts.Verdict.{Verdict}
use Rattle.runs.specs.declared.verdicts.Verdict.TheVariants.{More, Found, None}
use Rattle.runs.specs.Asked.{arrived, judged, targets_judged, question_by, root, system}
use Rattle.runs.specs.First.{Decided, front}
use Rattle.runs.specs.Runs.{list}
use Rattle.runs.specs.Searches.{hits, shown}
use Rattle.runs.proofs.Asked.{asked_there}
use Rattle.runs.proofs.Looks.{look_few, look_none, look_rises}
use Rattle.runs.proofs.TheLists.{the_list}
use Rattle.runs.proofs.Works.{narrow, tells_by}
use Rattle.replay.specs.Written.{Answers}
use Rattle.session.specs.declared.refusals.Refusal.TheVariants as refusal
use Rattle.session.specs.Series.{Call, Book, load, put, work, standing, step, replay, report, blank, held, asked, load_on, put_by, next, from, booked}
use Rattle.session.specs.Answers.{added}
use Rattle.session.specs.Outcomes.{as_question, as_table}
use Rattle.session.specs.Spent.{afresh, reported_units, spends, spent_from, spent}
use Rattle.session.specs.Words.{Known}
use Rattle.session.proofs.Books.{Sound, sound_next}

module _ {Config : Type 0} (m : Machine Config) where
  -- the units that the efforts in all come to
  abbrev pub units_at : Book → ℕ
  units_at blank = 0
  units_at (held t) = 0
  units_at (asked t q E) = (shown m t q E).units

  -- a table with all the properties can be asked a question that is judged right
  pub asked_some : (t : Program) (n k : ℕ) (targets : List ℕ) → proper t ≡ true → judged t n k targets ≡ Ok tt
      → (q : Question) × (question_by t n k targets ≡ Some q)
  asked_some t n k targets good e =
      asked_there t n k targets (and_parts (counts_fit t.counts) _ good).0
      (low_if (is_nothing t) (nat_le n 24 && nat_le k 24) (targets_judged t 1 targets) e)
    where
      low_if : (z y : Bool) (r : Result (Unit {0}) Unasked) → cond z (Err NoTable) (cond y r (Err Bounds)) ≡ Ok tt → y ≡ true
      low_if true y r e = cc
      low_if false true r e = refl
      low_if false false r e = cc

  units_put : (b : Book) (t : Program) (n k : ℕ) (targets : List ℕ) → proper t ≡ true
      → afresh (units_at b) (as_question (judged t n k targets)) ≡ units_at (put_by b t (judged t n k targets) (question_by t n k targets))
  units_put b t n k targets good = go (judged t n k targets) (question_by t n k targets) refl refl
    where
      go : (r : Result (Unit {0}) Unasked) (o : Option Question) → judged t n k targets ≡ r → question_by t n k targets ≡ o
          → afresh (units_at b) (as_question r) ≡ units_at (put_by b t r o)
      go (Ok tt) (Some q) e f = sym (look_none (hits m t q) (list (system m t) (root m t q)))
      go (Ok tt) Nothing e f = let some = asked_some t n k targets good e in let no = sym some.1 ∙ f in cc
      go (Err why) o e f = refl

  units_load : (b : Book) (r : Result Program Unreadable) → afresh (units_at b) (as_table r) ≡ units_at (load_on b r)
  units_load b (Ok t) = refl
  units_load b (Err why) = refl

  units_work : (t : Program) (q : Question) (E e : ℕ) (b : Bool)
      → (shown m t q E).units + reported_units (cond b (Ok (added (shown m t q E) (shown m t q (E + e)))) (Err refusal.Effort))
      ≡ units_at (cond b (asked t q (E + e)) (asked t q E))
  units_work t q E e true = omega (arith, look_rises (hits m t q) E e (list (system m t) (root m t q)))
  units_work t q E e false = omega arith

  units_next : (b : Book) (c : Call) → Sound b → spends m b (units_at b) c ≡ units_at (next b c)
  units_next b (load text) good = units_load b (read text)
  units_next blank (put n k targets) good = refl
  units_next (held t) (put n k targets) good = units_put (held t) t n k targets good
  units_next (asked t q E) (put n k targets) good = units_put (asked t q E) t n k targets good.0
  units_next blank (work e) good = refl
  units_next (held t) (work e) good = refl
  units_next (asked t q E) (work e) good = units_work t q E e (within 1 1000000 e)
  units_next b standing good = refl
  units_next b (step i) good = refl
  units_next b (replay text) good = refl
  units_next b (report out) good = refl

  units_from : (b : Book) (h : List Call) → Sound b → spent_from m b (units_at b) h ≡ units_at (from b h)
  units_from b [] good = refl
  units_from b (c ∷ h) good =
      ap (λ (u : ℕ). spent_from m (next b c) u h) (units_next b c good) ∙ units_from (next b c) h (sound_next b c good)

  pub spent_is : (h : List Call) → spent m h ≡ units_at (booked h)
  spent_is h = units_from blank h tt

  -- once settled, an answer is found just if some run answers the question
  pub found_some : (t : Program) (q : Question) (v : Verdict) (x : List Move)
      → ((v ≡ More → ⊥) → Decided (system m t) (root m t q).world q.steps q.switches (arrived q) v x)
      → (v ≡ More → ⊥) → (v ≡ Found) ↔ ((s : List Move) × Answers m t q s)
  found_some t q More x d closed = absurd (closed refl)
  found_some t q Found x d closed =
      let first = ((d closed).found x).0 (refl, refl) in
      (λ _. (x, record { within = first.within; reaches = first.reaches }), λ _. refl)
  found_some t q None x d closed =
      let nowhere = (d closed).none.0 refl in
      (λ e. cc, λ s. absurd (nowhere s.0 s.1.within s.1.reaches))

  -- what is known once the efforts add up to E
  pub known : (widest : ℕ) → ((s : Config) (p : ℕ) (a : Action) → m.offer s p a ≤ widest) → (t : Program) (q : Question) (E : ℕ)
      → Known m widest t q E (shown m t q E).units (shown m t q E).verdict (front (shown m t q E).left)
  known widest bounded t q E =
      let S = system m t in
      let d = root m t q in
      let all = the_list S widest (narrow m t widest bounded) d.world q.steps q.switches in
      let l = shown m t q E in
      let tells = tells_by m t q E l.units l.verdict (front l.left) refl refl (λ _. refl) in
      record {
        tells = tells;
        list = all;
        few = omega (arith, look_few (hits m t q) E (list S d), all.few);
        some = found_some t q l.verdict (front l.left) tells.settled;
      }
