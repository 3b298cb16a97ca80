-- Works after an answer is settled change nothing.
-- So the works that the code leaves out, of a thousand, may be added: by induction over how many are left.
use Rattle.std.proofs.Common.{◌≡◌, ℕ, zero, suc, ◌+◌, ◌-◌, ◌<◌, Bool, true, false, not, List, Some, Result, refl, sym, ap, ap₂, ◌∙◌, subst, arith}
use Rattle.std.proofs.lemmas.Bool.{cond_both}
use Rattle.memory.specs.Machine.{Machine}
use Rattle.ceiling.specs.declared.moves.Move.{Move}
use Rattle.program.specs.Program.{Program, within}
use Rattle.runs.specs.declared.questions.Question.{Question}
use Rattle.runs.specs.declared.verdicts.Verdict.{Verdict}
use Rattle.runs.specs.declared.verdicts.Verdict.TheVariants.{More, Found, None}
use Rattle.runs.specs.declared.verdicts.Worked.{Worked as Answer}
use Rattle.runs.specs.Asked.{root, system}
use Rattle.runs.specs.First.{front}
use Rattle.runs.specs.Look.{Look, answers}
use Rattle.runs.specs.Runs.{list}
use Rattle.runs.specs.Searches.{hits, shown}
use Rattle.runs.proofs.Looks.{look_add, then}
use Rattle.session.specs.declared.refusals.Refusal.{Refusal}
use Rattle.session.specs.Contents.{Content}
use Rattle.session.specs.Outcomes.{worked_in}
use Rattle.session.specs.Series.{Book, work, blank, held, asked, from, work_on}
use Rattle.session.specs.Answers.{worked}
use Rattle.session.specs.Law.{content_of}
use Rattle.session.proofs.Books.{from_more}
use Rattle.session.proofs.Laws.{at_once}
use Rattle.session.proofs.Loads.{work_value}
use Rattle.sitting.specs.Outputs.{works}
use Rattle.sitting.specs.Searches.{is_open, is_settled}

pub works_more : (b : Book) (n : ℕ) → from b (works (suc n)) ≡ work_on (from b (works n)) 1000000
unfolding works
works_more b n = from_more b (works n) (work 1000000)

pub works_none : (b : Book) → b ≡ from b (works 0)
unfolding works
works_none b = refl

works_add : (b : Book) (j k : ℕ) → from b (works (j + k)) ≡ from (from b (works j)) (works k)
works_add b j zero = let e : j + 0 ≡ j = omega arith in ap (λ (n : ℕ). from b (works n)) e ∙ works_none (from b (works j))
works_add b j (suc k) =
    let e : j + suc k ≡ suc (j + k) = omega arith in
    ap (λ (n : ℕ). from b (works n)) e ∙ works_more b (j + k)
    ∙ ap (λ (c : Book). work_on c 1000000) (works_add b j k) ∙ sym (works_more (from b (works j)) k)

-- an answer that stands stays, with the run where it stands
record Stays (a b : Look) : Type 0 where
  verdict : b.verdict ≡ a.verdict
  left : b.left ≡ a.left

answers_stay : (test : List Move → Bool) (e : ℕ) (l : Look) (v : Verdict) → l.verdict ≡ v → is_open v ≡ false → Stays l (then test e l)
answers_stay test e l Found f c = record {
  verdict = ap (λ (v : Verdict). (answers v test e l.left).verdict) f ∙ sym f;
  left = ap (λ (v : Verdict). (answers v test e l.left).left) f;
}
answers_stay test e l None f c = record {
  verdict = ap (λ (v : Verdict). (answers v test e l.left).verdict) f ∙ sym f;
  left = ap (λ (v : Verdict). (answers v test e l.left).left) f;
}
answers_stay test e l More f c = cc

closed : (b : Bool) → not b ≡ true → b ≡ false
closed true e = cc
closed false e = refl

module _ {Config : Type 0} (m : Machine Config) where
  -- no further work will tell more
  abbrev Settled : Book → Type 0
  Settled blank = Unit {0}
  Settled (held t) = Unit {0}
  Settled (asked t q E) = is_open (shown m t q E).verdict ≡ false

  stays : (t : Program) (q : Question) (E e : ℕ) → is_open (shown m t q E).verdict ≡ false → Stays (shown m t q E) (shown m t q (E + e))
  stays t q E e c =
      let l = shown m t q E in
      subst (Stays l) (sym (look_add (hits m t q) E e (list (system m t) (root m t q)))) (answers_stay (hits m t q) e l l.verdict refl c)

  -- no further work will tell more, and the session holds the same
  abbrev Same : Book → Book → Type 0
  Same b c = Settled c × (content_of m c ≡ content_of m b)

  more_effort : (t : Program) (q : Question) (E e : ℕ) → Settled (asked t q E) → Same (asked t q E) (asked t q (E + e))
  more_effort t q E e c =
      let s = stays t q E e c in (
        ap is_open s.verdict ∙ c,
        ap₂ (λ (v : Verdict) (L : List (List Move)). record { table = t; inquiry = Some (record { question = q; verdict = v; run = front L }) }) s.verdict s.left,
      )

  more_work : (b : Book) (e : ℕ) → Settled b → Same b (work_on b e)
  more_work blank e c = (c, refl)
  more_work (held t) e c = (c, refl)
  more_work (asked t q E) e c =
      cond_both (within 1 1000000 e) (asked t q (E + e)) (asked t q E) (Same (asked t q E)) (λ _. more_effort t q E e c) (λ _. (c, refl))

  more_works : (b : Book) (k : ℕ) → Settled b → Same b (from b (works k))
  more_works b zero c = subst (Same b) (works_none b) (c, refl)
  more_works b (suc k) c =
      let before = more_works b k c in
      let after = more_work (from b (works k)) 1000000 before.0 in
      subst (Same b) (sym (works_more b k)) (after.0, after.1 ∙ before.1)

  -- an answer of a work that tells all
  closes : (b : Book) (r : Result Answer Refusal) → r ≡ worked m b 1000000 → is_settled r ≡ true → Settled (work_on b 1000000)
  closes blank r e s = tt
  closes (held t) r e s = tt
  closes (asked t q E) r e s = closed (is_open (shown m t q (E + 1000000)).verdict) (ap is_settled (sym e) ∙ s)

  module _ (b : Book) (i : ℕ) (c new : Content) (r : Result Answer Refusal) (holds : c ≡ content_of m (from b (works i)))
      (work : (r, new) ≡ worked_in m c 1000000) where
    -- what the next work answers, and what is held then
    next : (r ≡ worked m (from b (works i)) 1000000) × (new ≡ content_of m (work_on (from b (works i)) 1000000))
    next =
        let here = from b (works i) in
        at_once m c new (λ x. worked_in m x 1000000) here (work_on here 1000000) r (worked m here 1000000) work holds (work_value m 1000000 here)

    pub one_more : new ≡ content_of m (from b (works (i + 1)))
    one_more =
        let e : suc i ≡ i + 1 = omega arith in
        next.1 ∙ ap (content_of m) (sym (works_more b i)) ∙ ap (λ (n : ℕ). content_of m (from b (works n))) e

    pub early : i < 1000 → is_settled r ≡ true → new ≡ content_of m (from b (works 1000))
    early low settled =
        let now = work_on (from b (works i)) 1000000 in
        let k = 999 - i in
        let all : 1000 ≡ suc i + k = omega arith in
        let later = (more_works now k (closes (from b (works i)) r next.0 settled)).1 in
        let last : from b (works 1000) ≡ from now (works k) =
        ap (λ (n : ℕ). from b (works n)) all ∙ works_add b (suc i) k ∙ ap (λ (x : Book). from x (works k)) (works_more b i) in
        next.1 ∙ sym later ∙ sym (ap (content_of m) last)

  pub late : (b : Book) (i : ℕ) (c : Content) → c ≡ content_of m (from b (works i)) → i ≡ 1000 → c ≡ content_of m (from b (works 1000))
  late b i c holds e = holds ∙ ap (λ (n : ℕ). content_of m (from b (works n))) e

  pub none_yet : (b : Book) (c : Content) → c ≡ content_of m b → c ≡ content_of m (from b (works 0))
  none_yet b c h = h ∙ ap (content_of m) (works_none b)
