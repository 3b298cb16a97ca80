-- What a work of a search does, as the value that it is.
use Rattle.std.proofs.Common.{◌≡◌, ℕ, Bool, true, false, cond, List, [], ◌∷◌, Some, Ok, Err, Option, Result, refl, sym, ap, ap₂, ◌∙◌, subst}
use Rattle.std.proofs.lemmas.Bool.{cond-true}
use Rattle.memory.specs.Machine.{Machine}
use Rattle.ceiling.specs.declared.moves.Move.{Move}
use Rattle.program.specs.Program.{Program, within}
use Rattle.runs.specs.declared.questions.Question.{Question}
use Rattle.runs.specs.declared.searches.Search.{Search}
use Rattle.runs.specs.declared.verdicts.Verdict.{Verdict}
use Rattle.runs.specs.declared.verdicts.Verdict.TheVariants.{More, Found, None}
use Rattle.runs.specs.declared.verdicts.Worked.{Worked}
use Rattle.runs.specs.Asked.{root, system}
use Rattle.runs.specs.Cursors.{IsPath}
use Rattle.runs.specs.First.{front}
use Rattle.runs.specs.Look.{Look, answers, look}
use Rattle.runs.specs.Paths.{path}
use Rattle.runs.specs.Runs.{is_run, rest}
use Rattle.runs.specs.Searches.{hits, pending_at, Works}
use Rattle.runs.proofs.Looks.{made}
use Rattle.runs.proofs.Splits.{run_tested, tested_run}
use Rattle.session.specs.declared.refusals.Refusal.{Refusal}
use Rattle.session.specs.declared.refusals.Refusal.TheVariants as refusal
use Rattle.session.specs.Contents.{Content, Inquiry, inquiry_in, inquiry_of}
use Rattle.session.specs.Outcomes.{looked, unlooked, works_by, worked_by, worked_with}

module _ {Config : Type 0} (m : Machine Config) (t : Program) (s new : Search) (e : ℕ) (w : Worked) (works : Works m t s e w new) where
  abbrev q : Question
  q = s.question

  -- nothing was looked at
  stayed : (v : Verdict) → s.verdict ≡ v → w.units ≡ 0 → new ≡ s → (w, inquiry_of new) ≡ unlooked v (inquiry_of s)
  stayed v is none same =
      let verdict : w.verdict ≡ v = sym works.verdict ∙ ap (λ (x : Search). x.verdict) same ∙ is in
      ap₂ (λ (x : Worked) (i : Inquiry). (x, i)) (ap₂ (λ (u : ℕ) (x : Verdict). record { units = u; verdict = x }) none verdict) (ap inquiry_of same)

  -- the search stops at the first of what is left
  front_is : s.verdict ≡ More → IsPath m t q (path s.run) → (v : Verdict) → w.verdict ≡ v → front (pending_at m t q v (path new.run)) ≡ path new.run
  front_is is run More stops = refl
  front_is is run Found stops = refl
  front_is is run None stops = sym ((works.goes run).over is stops)

  went : s.verdict ≡ More → IsPath m t q (path s.run)
      → (w, inquiry_of new) ≡ looked q (look (hits m t q) e (path s.run ∷ rest (system m t) (root m t q) (path s.run)))
  went is run =
      let done : Look = made w.units w.verdict (pending_at m t q w.verdict (path new.run)) in
      let shows : look (hits m t q) e (path s.run ∷ rest (system m t) (root m t q) (path s.run)) ≡ done =
      subst (λ (v : Verdict). answers v (hits m t q) e (pending_at m t q v (path s.run)) ≡ done) is (works.goes run).looked in
      let stands : inquiry_of new ≡ record { question = q; verdict = w.verdict; run = front (pending_at m t q w.verdict (path new.run)) } =
      ap₂ (λ (x : Question) (v : Verdict). record { question = x; verdict = v; run = path new.run }) works.question works.verdict
      ∙ ap (λ (r : List Move). record { question = q; verdict = w.verdict; run = r }) (sym (front_is is run w.verdict refl)) in
      ap (λ (i : Inquiry). (w, i)) stands ∙ sym (ap (looked q) shows)

  by_verdict : (v : Verdict) → s.verdict ≡ v → (w, inquiry_of new) ≡ works_by m v t (inquiry_of s) e
  by_verdict Found is = let stays = works.stands (λ m. let no = sym is ∙ m in cc) in stayed Found is stays.0 stays.1
  by_verdict None is = let stays = works.stands (λ m. let no = sym is ∙ m in cc) in stayed None is stays.0 stays.1
  by_verdict More is = go (is_run (system m t) (root m t q).world (path s.run)) refl
    where
      go : (b : Bool) → is_run (system m t) (root m t q).world (path s.run) ≡ b
          → (w, inquiry_of new) ≡ cond b (looked q (look (hits m t q) e (path s.run ∷ rest (system m t) (root m t q) (path s.run)))) (unlooked More (inquiry_of s))
      go true one = went is (tested_run (system m t) (root m t q).world (path s.run) one)
      go false other =
          let stays = works.astray (λ run. let yes = sym other ∙ run_tested (system m t) (root m t q).world (path s.run) run in cc) in
          stayed More is stays.0 stays.2

  -- so much is answered and held by a session that has this search, if the effort is one that is taken
  pub worked_is : (search : Option Search) → search ≡ Some s → within 1 1000000 e ≡ true
      → ◌≡◌ {A = Result Worked Refusal × Content} (Ok w, record { table = t; inquiry = Some (inquiry_of new) })
      (worked_by m (record { table = t; inquiry = inquiry_in search }) (inquiry_in search) e)
  worked_is search held may =
      let old : Option Inquiry → Content = λ o. record { table = t; inquiry = o } in
      let is : Some (inquiry_of s) ≡ inquiry_in search = ap inquiry_in (sym held) in
      ap (worked_with m t) (by_verdict s.verdict refl)
      ∙ sym (cond-true (within 1 1000000 e) (worked_with m t (works_by m s.verdict t (inquiry_of s) e)) (Err refusal.Effort, old (Some (inquiry_of s))) may)
      ∙ ap (λ (o : Option Inquiry). worked_by m (old o) o e) is

-- a search that was begun
pub begun_is : (s : Search) (q : Question) → s.question ≡ q → s.verdict ≡ More → path s.run ≡ []
    → inquiry_of s ≡ record { question = q; verdict = More; run = [] }
begun_is s q question undecided run =
    ap₂ (λ (x : Question) (v : Verdict). record { question = x; verdict = v; run = path s.run }) question undecided
    ∙ ap (λ (r : List Move). record { question = q; verdict = More; run = r }) run
