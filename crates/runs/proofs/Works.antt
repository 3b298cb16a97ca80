-- What a search says after works whose efforts add up, of the runs of a table over a memory.
use Rattle.std.proofs.Common.{◌≡◌, ℕ, ◌+◌, ◌≤◌, Bool, List, [], ◌∷◌, Some, None as Nothing, Option, refl, sym, ap, ◌∙◌, subst, arith}
use Rattle.memory.specs.declared.actions.Action.{Action}
use Rattle.memory.specs.Machine.{Machine}
use Rattle.ceiling.specs.declared.moves.Move.{Move}
use Rattle.ceiling.specs.Programs.{World, deed, offer_of}
use Rattle.program.specs.Program.{Program}
use Rattle.worlds.specs.declared.places.Place.{Place}
use Rattle.worlds.specs.Worlds.{over}
use Rattle.runs.specs.declared.questions.Question.{Question}
use Rattle.runs.specs.declared.searches.Search.{Search}
use Rattle.runs.specs.declared.verdicts.Verdict.{Verdict}
use Rattle.runs.specs.declared.verdicts.Verdict.TheVariants.{More, Found}
use Rattle.runs.specs.declared.verdicts.Worked.{Worked}
use Rattle.runs.specs.Runs.{below, list, rest}
use Rattle.runs.specs.Listed.{Lists}
use Rattle.runs.specs.Look.{Look, answers, look}
use Rattle.runs.specs.First.{Says, front}
use Rattle.runs.specs.Asked.{arrived, root, system}
use Rattle.runs.specs.Cursors.{IsPath}
use Rattle.runs.specs.Paths.{path}
use Rattle.runs.specs.Searches.{hits, shown, pending, pending_at, Works, Since, Tells}
use Rattle.runs.proofs.Tree.{list_is}
use Rattle.runs.proofs.Walks.{whole}
use Rattle.runs.proofs.Looks.{made, look_add}
use Rattle.runs.proofs.Firsts.{says, says_one, settles, swap}
use Rattle.runs.proofs.TheLists.{total_order, is_list, one_list}

module _ {Config : Type 0} (m : Machine Config) (t : Program) where
  -- no process has more choices than the memory's widest offer
  pub narrow : (widest : ℕ) → ((s : Config) (p : ℕ) (a : Action) → m.offer s p a ≤ widest)
      → (w : World Config Place) (p : ℕ) → (system m t).offer w p ≤ widest
  narrow widest few w p = go (deed m (over t) w p)
    where
      go : (o : Option Action) → offer_of m (over t) w.config p o ≤ widest
      go (Some a) = few w.config p a
      go Nothing = omega arith

  -- a search that has looked at nothing
  pub begun : (s : Search) → s.verdict ≡ More → path s.run ≡ [] → Since m t s 0 0
  begun s ev er =
      let S = system m t in
      let q = s.question in
      let d = root m t q in
      let first : shown m t q 0 ≡ made 0 More ([] ∷ below S d) = ap (look (hits m t q) 0) (list_is S d) in
      let all : pending m t s ≡ list S d =
      ap (λ (v : Verdict). pending_at m t q v (path s.run)) ev
      ∙ ap (λ (r : List Move). r ∷ rest S d r) er
      ∙ whole S d refl in
      record {
        run = subst (IsPath m t q) (sym er) tt;
        verdict = ev ∙ sym (ap (λ (x : Look). x.verdict) first);
        left = all ∙ list_is S d ∙ sym (ap (λ (x : Look). x.left) first);
        units = sym (ap (λ (x : Look). x.units) first);
      }

  -- What the efforts E in all show is what is to be told, with any run where none is found.
  pub tells_by : (q : Question) (E U : ℕ) (v : Verdict) (r : List Move) → v ≡ (shown m t q E).verdict → U ≡ (shown m t q E).units
      → (v ≡ Found → front (shown m t q E).left ≡ r) → Tells m t q E U v r
  tells_by q E U v r verdict units run =
      let S = system m t in
      let d = root m t q in
      let w = d.world in
      let n = q.steps in
      let k = q.switches in
      let hit : World Config Place → Bool = arrived q in
      let after = shown m t q E in
      let told : (L : List (List Move)) → Lists S w n k L → Says S w n k hit L E v U r = λ L lists.
      let all = says total_order S w n k hit L lists E in
      let same : look (hits m t q) E L ≡ after = ap (look (hits m t q) E) (one_list S w n k L (list S d) lists (is_list S w n k)) in
      let here : Says S w n k hit L E after.verdict after.units (front after.left) =
      subst (λ (l : Look). Says S w n k hit L E l.verdict l.units (front l.left)) same all in
      let stands : Says S w n k hit L E v U (front after.left) =
      subst (λ (x : Verdict). Says S w n k hit L E x U (front after.left)) (sym verdict)
      (subst (λ (u : ℕ). Says S w n k hit L E after.verdict u (front after.left)) (sym units) here) in
      swap S w n k hit L E v U (front after.left) r run stands in
      record {
        says = told;
        one = λ L lists x u y h. says_one total_order S w n k hit L lists E x v u U y r h (told L lists);
        settled = λ closed. settles total_order S w n k hit (list S d) (is_list S w n k) E v U r (told (list S d) (is_list S w n k)) closed;
      }

  -- the runs left begin with the run at which a search stands that has found it
  found_at : (q : Question) (v : Verdict) (r : List Move) → v ≡ Found → front (pending_at m t q v r) ≡ r
  found_at q v r e = ap (λ (x : Verdict). front (pending_at m t q x r)) e

  pub further : (s new : Search) (e E U : ℕ) (worked : Worked) → Since m t s E U → Works m t s e worked new
      → Since m t new (E + e) (U + worked.units) × Tells m t s.question (E + e) (U + worked.units) worked.verdict (path new.run)
  further s new e E U worked since works =
      let q = s.question in
      let test = hits m t q in
      let before = shown m t q E in
      let after = shown m t q (E + e) in
      let goes = works.goes since.run in
      let r = path new.run in
      let left = pending_at m t q worked.verdict r in
      let done : Look = made worked.units worked.verdict left in
      let looked : answers before.verdict test e before.left ≡ done =
      subst (λ (v : Verdict). answers v test e before.left ≡ done) since.verdict
      (subst (λ (l : List (List Move)). answers s.verdict test e l ≡ done) since.left goes.looked) in
      let sum : after ≡ made (worked.units + before.units) worked.verdict left =
      look_add test E e (list (system m t) (root m t q)) ∙ ap (λ (l : Look). made (l.units + before.units) l.verdict l.left) looked in
      let units : U + worked.units ≡ after.units =
      let a = since.units in let b = ap (λ (l : Look). l.units) sum in omega arith in
      let verdict : worked.verdict ≡ after.verdict = sym (ap (λ (l : Look). l.verdict) sum) in
      let lefts : left ≡ after.left = sym (ap (λ (l : Look). l.left) sum) in (
        record {
          run = subst (λ (x : Question). IsPath m t x r) (sym works.question) goes.run;
          verdict = works.verdict ∙ verdict ∙ ap (λ (x : Question). (shown m t x (E + e)).verdict) (sym works.question);
          left =
              ap (λ (x : Question). pending_at m t x new.verdict r) works.question
              ∙ ap (λ (v : Verdict). pending_at m t q v r) works.verdict
              ∙ lefts ∙ ap (λ (x : Question). (shown m t x (E + e)).left) (sym works.question);
          units = units ∙ ap (λ (x : Question). (shown m t x (E + e)).units) (sym works.question);
        },
        tells_by q (E + e) (U + worked.units) worked.verdict r verdict units (λ f. ap front (sym lefts) ∙ found_at q worked.verdict r f),
      )
