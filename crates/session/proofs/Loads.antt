-- What load, put and work answer and do to what a session holds, by what the calls before them amount to.
-- By cases of what they amount to: nothing, a table, or a table and a question.
use Rattle.std.proofs.Common.{◌≡◌, ℕ, ◌+◌, ◌-◌, Bool, true, false, cond, List, [], ◌∷◌, Some, None as Nothing, Ok, Err, Option, Result, refl, sym, ap, ap₂, ◌∙◌, subst, arith}
use Rattle.std.proofs.lemmas.Bool.{cond-true}
use Rattle.memory.specs.Machine.{Machine}
use Rattle.program.specs.declared.refusals.Refusal.{Refusal as Unreadable}
use Rattle.program.specs.Program.{Program, within}
use Rattle.program.specs.Reading.{read}
use Rattle.program.specs.Source.{SaysOf}
use Rattle.program.specs.Tables.{taken_in}
use Rattle.program.proofs.Words.{accepts}
use Rattle.ceiling.specs.declared.moves.Move.{Move}
use Rattle.runs.specs.declared.questions.Question.{Question}
use Rattle.runs.specs.declared.questions.Unasked.{Unasked}
use Rattle.runs.specs.declared.verdicts.Verdict.{Verdict}
use Rattle.runs.specs.declared.verdicts.Verdict.TheVariants.{More, Found, None}
use Rattle.runs.specs.declared.verdicts.Worked.{Worked}
use Rattle.runs.specs.Asked.{judged, question_by, root, system}
use Rattle.runs.specs.First.{front}
use Rattle.runs.specs.Look.{Look, ahead, answers, look}
use Rattle.runs.specs.Runs.{is_run, list, rest}
use Rattle.runs.specs.Searches.{hits, pending_at, shown}
use Rattle.runs.proofs.Looks.{look_add, then}
use Rattle.runs.proofs.Splits.{Standing, run_tested, stands_at}
use Rattle.runs.proofs.Tree.{list_is}
use Rattle.session.specs.declared.refusals.Refusal.{Refusal}
use Rattle.session.specs.declared.refusals.Refusal.TheVariants as refusal
use Rattle.session.specs.Contents.{Content, Inquiry, inquiry_at}
use Rattle.session.specs.Outcomes.{as_question, as_table, looked, loaded_in, put_in, put_with, taken, unlooked, worked_in, worked_with, works_by}
use Rattle.session.specs.Series.{Book, blank, held, asked, load_on, put_by, put_on, work_on}
use Rattle.session.specs.Answers.{loaded, opened, worked, added}
use Rattle.session.specs.Law.{content_of, inquiry_after}
use Rattle.session.specs.Words.{LoadSays}

-- what is answered to a text, in a reader's words
pub load_says : (text : List ℕ) (old new : Content) (r : Result (Unit {0}) Refusal) → (r, new) ≡ loaded_in old text → LoadSays text r new
load_says text old new r e = subst (λ (y : Result (Unit {0}) Refusal × Content). LoadSays text y.0 y.1) (sym e) (go (read text) (accepts text old.table _ _ refl))
  where
    go : (x : Result Program Unreadable) → SaysOf text (taken_in old.table x).0 (taken_in old.table x).1 → LoadSays text (taken old x).0 (taken old x).1
    go (Ok t) s = (Ok tt, refl, s)
    go (Err why) s = (Err why, refl, s)

module _ {Config : Type 0} (m : Machine Config) where
  pub load_value : (text : List ℕ) (b : Book) → loaded_in (content_of m b) text ≡ (loaded b text, content_of m (load_on b (read text)))
  load_value text b = go (read text)
    where
      go : (x : Result Program Unreadable) → taken (content_of m b) x ≡ (as_table x, content_of m (load_on b x))
      go (Ok t) = refl
      go (Err why) = refl

  -- a question that is put is open, at the first run
  begun : (t : Program) (q : Question) → inquiry_after m t q 0 ≡ record { question = q; verdict = More; run = [] }
  begun t q =
      ap (λ (L : List (List Move)). inquiry_at q (look (hits m t q) 0 L))
      (list_is (system m t) (root m t q))

  -- where there is a table
  put_table : (b : Book) (t : Program) (n k : ℕ) (targets : List ℕ) → (content_of m b).table ≡ t
      → put_with (content_of m b) (judged t n k targets) (question_by t n k targets)
      ≡ (as_question (judged t n k targets), content_of m (put_by b t (judged t n k targets) (question_by t n k targets)))
  put_table b t n k targets same = go (judged t n k targets) (question_by t n k targets)
    where
      go : (r : Result (Unit {0}) Unasked) (o : Option Question)
          → put_with (content_of m b) r o ≡ (as_question r, content_of m (put_by b t r o))
      go (Ok u) (Some q) = ap₂ (λ (x : Program) (i : Inquiry). (Ok tt, record { table = x; inquiry = Some i })) same (sym (begun t q))
      go (Ok u) Nothing = refl
      go (Err why) o = refl

  pub put_value : (n k : ℕ) (targets : List ℕ) (b : Book)
      → put_in (content_of m b) n k targets ≡ (opened b n k targets, content_of m (put_on b n k targets))
  put_value n k targets blank = refl
  put_value n k targets (held t) = put_table (held t) t n k targets refl
  put_value n k targets (asked t q E) = put_table (asked t q E) t n k targets refl

  module _ (t : Program) (q : Question) (E e : ℕ) where
    abbrev before : Look
    before = shown m t q E

    abbrev after : Look
    after = shown m t q (E + e)

    sum : after ≡ then (hits m t q) e before
    sum = look_add (hits m t q) E e (list (system m t) (root m t q))

    here : Standing m t q E before.verdict before.left
    here = stands_at m t q E

    -- what a work shows in all, by what it shows itself
    abbrev in_all : Look → Worked × Inquiry
    in_all l = (added before l, inquiry_at q l)

    -- so much more, taken off again
    only : (l : Look) → looked q l ≡ in_all (ahead before.units l)
    only l =
        let same : l.units ≡ l.units + before.units - before.units = omega arith in
        ap (λ (u : ℕ). (record { units = u; verdict = l.verdict }, inquiry_at q l)) same

    -- what is shown in all, where this answer stands before
    shown_by : (v : Verdict) → before.verdict ≡ v → in_all (ahead before.units (answers v (hits m t q) e before.left)) ≡ in_all after
    shown_by v is =
        ap (λ (x : Verdict). in_all (ahead before.units (answers x (hits m t q) e before.left))) (sym is) ∙ ap in_all (sym sum)

    -- a search that has its answer
    stays : (v : Verdict) → before.verdict ≡ v → unlooked v (inquiry_after m t q E) ≡ looked q (record { units = 0; verdict = v; left = before.left })
    stays v is = ap (λ (x : Verdict). (record { units = 0; verdict = v }, record { question = q; verdict = x; run = front before.left })) is

    -- by the answer that stands before it
    by_verdict : (v : Verdict) → before.verdict ≡ v
        → works_by m v t (inquiry_after m t q E) e ≡ (added before after, inquiry_after m t q (E + e))
    by_verdict More is =
        let S = system m t in
        let d = root m t q in
        let r = front before.left in
        let left : r ∷ rest S d r ≡ before.left = subst (λ (v : Verdict). pending_at m t q v r ≡ before.left) is here.pending in
        cond-true (is_run S d.world r) (looked q (look (hits m t q) e (r ∷ rest S d r))) (unlooked More (inquiry_after m t q E)) (run_tested S d.world r here.run)
        ∙ ap (λ (L : List (List Move)). looked q (look (hits m t q) e L)) left
        ∙ only (look (hits m t q) e before.left)
        ∙ shown_by More is
    by_verdict Found is = stays Found is ∙ only (record { units = 0; verdict = Found; left = before.left }) ∙ shown_by Found is
    by_verdict None is = stays None is ∙ only (record { units = 0; verdict = None; left = before.left }) ∙ shown_by None is

    pub work_question : works_by m before.verdict t (inquiry_after m t q E) e ≡ (added before after, inquiry_after m t q (E + e))
    work_question = by_verdict before.verdict refl

  pub work_value : (e : ℕ) (b : Book) → worked_in m (content_of m b) e ≡ (worked m b e, content_of m (work_on b e))
  work_value e blank = refl
  work_value e (held t) = refl
  work_value e (asked t q E) = go (within 1 1000000 e)
    where
      old : Content
      old = content_of m (asked t q E)

      go : (b : Bool) → cond b (worked_with m t (works_by m (shown m t q E).verdict t (inquiry_after m t q E) e)) (Err refusal.Effort, old)
          ≡ (cond b (Ok (added (shown m t q E) (shown m t q (E + e)))) (Err refusal.Effort), content_of m (cond b (asked t q (E + e)) (asked t q E)))
      go true = ap (worked_with m t) (work_question t q E e)
      go false = refl
