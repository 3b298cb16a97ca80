-- The list of runs, split at one of them: what comes behind a run is a matter of that run alone. Over any system.
-- By induction over the run's moves the list splits there; a run stands once in the list, so it splits nowhere else.
use Rattle.std.proofs.Common.{◌≡◌, ℕ, zero, suc, ◌+◌, ◌-◌, ◌<◌, ◌≤◌, Bool, true, false, List, [], ◌∷◌, ◌++◌, length, drop, nat_lt, sym, refl, ap, ◌∙◌, subst, append_assoc, append-nil, arith}
use Rattle.std.proofs.lemmas.Bool.{and_from, and_parts, lt-ltb, ltb-true}
use Rattle.ceiling.specs.declared.moves.Move.{Move}
use Rattle.memory.specs.Machine.{Machine}
use Rattle.program.specs.Program.{Program}
use Rattle.runs.specs.declared.questions.Question.{Question}
use Rattle.runs.specs.declared.verdicts.Verdict.{Verdict}
use Rattle.runs.specs.declared.verdicts.Verdict.TheVariants.{More, Found, None}
use Rattle.runs.specs.Asked.{root, system}
use Rattle.runs.specs.Cursors.{IsPath}
use Rattle.runs.specs.First.{front}
use Rattle.runs.specs.Listed.{Stands, Within}
use Rattle.runs.specs.Look.{Look, ahead, look}
use Rattle.runs.specs.Runs.{System, Node, IsRun, is_run, cost, upto, runs, child, at, list, branch, choices, processes, below, after, rest}
use Rattle.runs.specs.Searches.{hits, pending_at, shown}
use Rattle.runs.proofs.Looks.{made}
use Rattle.runs.proofs.Members.{exactly}
use Rattle.runs.proofs.TheLists.{is_list}
use Rattle.runs.proofs.Tree.{below_some, branch_fits, less_is, list_is, upto_all, upto_more}

-- joined lists, split at one of the numbers
upto_at : {A : Type 0} (f : ℕ → List A) (k i x j : ℕ) → i + k ≡ x → x < j → upto f i j ≡ upto f i x ++ (f x ++ upto f (x + 1) j)
upto_at f zero i x j e l =
    let here : i ≡ x = omega arith in
    ap (λ (n : ℕ). upto f n j) here ∙ upto_more f x j l ∙ ap (λ (r : List _). r ++ (f x ++ upto f (x + 1) j)) (sym (upto_all f i x (omega arith)))
upto_at f (suc k) i x j e l =
    let back = f x ++ upto f (x + 1) j in
    upto_more f i j (omega arith)
    ∙ ap (λ (r : List _). f i ++ r) (upto_at f k (i + 1) x j (omega arith) l)
    ∙ sym (append_assoc (f i) (upto f (i + 1) x) back)
    ∙ ap (λ (r : List _). r ++ back) (sym (upto_more f i x (omega arith)))

stands_behind : (pre : List (List Move)) (r : List Move) (L : List (List Move)) → Stands (pre ++ (r ∷ L)) (length pre) r
stands_behind [] r L = refl
stands_behind (x ∷ pre) r L = stands_behind pre r L

drop_behind : (pre : List (List Move)) (r : List Move) (L : List (List Move)) → drop (suc (length pre)) (pre ++ (r ∷ L)) ≡ L
drop_behind [] r L = refl
drop_behind (x ∷ pre) r L = drop_behind pre r L

module _ {W : Type 0} (S : System W) where
  -- the test tells whether the moves can be made
  pub run_tested : (w : W) (r : List Move) → IsRun S w r → is_run S w r ≡ true
  run_tested w [] h = refl
  run_tested w (k ∷ ks) h =
      and_from (nat_lt k.choice (S.offer w k.process)) (is_run S (S.next w k) ks) (lt-ltb k.choice (S.offer w k.process) h.0) (run_tested (S.next w k) ks h.1)

  pub tested_run : (w : W) (r : List Move) → is_run S w r ≡ true → IsRun S w r
  tested_run w [] e = tt
  tested_run w (k ∷ ks) e =
      let both = and_parts (nat_lt k.choice (S.offer w k.process)) (is_run S (S.next w k) ks) e in
      (ltb-true k.choice (S.offer w k.process) both.0, tested_run (S.next w k) ks both.1)

  regroup : (a b f : List (List Move)) (x : List Move) (B A C P : List (List Move))
      → a ++ ((b ++ ((f ++ (x ∷ (B ++ A))) ++ C)) ++ P) ≡ (a ++ (b ++ f)) ++ (x ∷ (B ++ (A ++ (C ++ P))))
  regroup a b f x B A C P = simp append_assoc

  -- the runs from d on, split at the moves s
  record Split (d : Node W) (s : List Move) : Type 0 where
    front : List (List Move)
    is : list S d ≡ front ++ ((d.path ++ s) ∷ rest S d s)

  split : (d : Node W) (s : List Move) → Within S d.world d.left d.room s → Split d s
  split d [] h = record {
    front = [];
    is = list_is S d ∙ ap (λ (r : List Move). r ∷ below S d) (sym (append-nil d.path)) ∙ ap (λ (L : List (List Move)). (d.path ++ []) ∷ L) (sym (append-nil (below S d)));
  }
  split d (k ∷ ks) h =
      let p = k.process in
      let c = k.choice in
      let e = child S d k in
      let inside = S.inside d.world p (omega (arith, h.run.0)) in
      let fits : cost S d.world k ≤ d.room = omega (arith, h.few_switches) in
      let less : Within S e.world e.left e.room ks = record {
        run = h.run.1;
        moves = omega (arith, h.moves, less_is S d.left);
        few_switches = omega (arith, h.few_switches);
      } in
      let s = split e ks less in
      let lower = upto (λ q. choices S d q 0) 1 p in
      let first = upto (branch S d p) 0 c in
      let run = d.path ++ (k ∷ ks) in
      let joined : e.path ++ ks ≡ run = append_assoc d.path (k ∷ []) ks in
      let by_choice : choices S d p 0 ≡ first ++ (list S e ++ choices S d p (c + 1)) =
      upto_at (branch S d p) c 0 c (S.offer d.world p) (omega arith) h.run.0
      ∙ ap (λ (L : List (List Move)). first ++ (L ++ choices S d p (c + 1))) (branch_fits S d k fits) in
      let by_process : processes S d 1 ≡ lower ++ (choices S d p 0 ++ processes S d (p + 1)) =
      upto_at (λ q. choices S d q 0) (p - 1) 1 p (S.processes + 1) (omega arith) (omega arith) in
      record {
        front = d.path ∷ (lower ++ (first ++ s.front));
        is =
            list_is S d
            ∙ ap (λ (L : List (List Move)). d.path ∷ L) (below_some S d (omega (arith, h.moves))
            ∙ by_process
            ∙ ap (λ (L : List (List Move)). lower ++ (L ++ processes S d (p + 1))) by_choice
            ∙ ap (λ (L : List (List Move)). lower ++ ((first ++ (L ++ choices S d p (c + 1))) ++ processes S d (p + 1))) s.is
            ∙ regroup lower first s.front (e.path ++ ks) (below S (at S e ks)) (after S e ks) (choices S d p (c + 1)) (processes S d (p + 1))
            ∙ ap (λ (x : List Move). (lower ++ (first ++ s.front)) ++ (x ∷ rest S d (k ∷ ks))) joined);
      }

  -- what stands behind a run in the list is what is still to come after it
  pub suffix : (d : Node W) → d.path ≡ [] → (pre : List (List Move)) (r : List Move) (L : List (List Move))
      → list S d ≡ pre ++ (r ∷ L) → IsRun S d.world r × (L ≡ rest S d r)
  suffix d e pre r L is =
      let all : list S d ≡ runs S d.left d.room d.world [] = ap (runs S d.left d.room d.world) e in
      let stands : Stands (list S d) (length pre) r = subst (λ (M : List (List Move)). Stands M (length pre) r) (sym is) (stands_behind pre r L) in
      let within = (exactly S d.world d.left d.room r).0 (length pre, subst (λ (M : List (List Move)). Stands M (length pre) r) all stands) in
      let s = split d r within in
      let other : list S d ≡ s.front ++ (r ∷ rest S d r) = s.is ∙ ap (λ (x : List Move). s.front ++ ((x ++ r) ∷ rest S d r)) e in
      let again : Stands (list S d) (length s.front) r =
      subst (λ (M : List (List Move)). Stands M (length s.front) r) (sym other) (stands_behind s.front r (rest S d r)) in
      let same : length pre ≡ length s.front =
      (is_list S d.world d.left d.room).once (length pre) (length s.front) r
      (subst (λ (M : List (List Move)). Stands M (length pre) r) all stands) (subst (λ (M : List (List Move)). Stands M (length s.front) r) all again) in (
        within.run,
        sym (drop_behind pre r L) ∙ ap (drop (suc (length pre))) (sym is ∙ other)
            ∙ ap (λ (n : ℕ). drop (suc n) (s.front ++ (r ∷ rest S d r))) same ∙ drop_behind s.front r (rest S d r),
      )

-- the runs that are left after a look are the last of those looked at
look_left : (t : List Move → Bool) (e : ℕ) (L : List (List Move)) → (pre : List (List Move)) × (L ≡ pre ++ (look t e L).left)
look_left t zero [] = ([], refl)
look_left t zero (r ∷ L) = ([], refl)
look_left t (suc e) [] = ([], refl)
look_left t (suc e) (r ∷ L) = go (t r) (look_left t e L)
  where
    go : (b : Bool) → (pre : List (List Move)) × (L ≡ pre ++ (look t e L).left)
        → (pre : List (List Move)) × (r ∷ L ≡ pre ++ (elim b as (λ _. Look) [ true ↦ made 1 Found (r ∷ L) | false ↦ ahead 1 (look t e L) ]).left)
    go true h = ([], refl)
    go false h = (r ∷ h.0, ap (λ (M : List (List Move)). r ∷ M) h.1)

-- none just where the answer is none
abbrev LeftBy : Verdict → List (List Move) → Type 0
LeftBy None L = L ≡ []
LeftBy More L = (r : List Move) × (K : List (List Move)) × (L ≡ r ∷ K)
LeftBy Found L = (r : List Move) × (K : List (List Move)) × (L ≡ r ∷ K)

look_some : (t : List Move → Bool) (e : ℕ) (L : List (List Move)) → LeftBy (look t e L).verdict (look t e L).left
look_some t zero [] = refl
look_some t zero (r ∷ L) = (r, L, refl)
look_some t (suc e) [] = refl
look_some t (suc e) (r ∷ L) = go (t r) (look_some t e L)
  where
    pick : Bool → Look
    pick b = elim b [ true ↦ made 1 Found (r ∷ L) | false ↦ ahead 1 (look t e L) ]

    go : (b : Bool) → LeftBy (look t e L).verdict (look t e L).left → LeftBy (pick b).verdict (pick b).left
    go true h = (r, L, refl)
    go false h = h

-- Where a search of a question stands once it has looked so far: its run is one, and what is pending from there is what is left.
module _ {Config : Type 0} (m : Machine Config) (t : Program) (q : Question) (E : ℕ) where
  pub record Standing (v : Verdict) (L : List (List Move)) : Type 0 where
    pub run : IsPath m t q (front L)
    pub pending : pending_at m t q v (front L) ≡ L

  by_left : (v : Verdict) (L : List (List Move)) → LeftBy v L
      → ((r : List Move) (K : List (List Move)) → L ≡ r ∷ K → IsPath m t q r × (K ≡ rest (system m t) (root m t q) r)) → Standing v L
  by_left None L h f = record { run = subst (λ (M : List (List Move)). IsPath m t q (front M)) (sym h) tt; pending = sym h }
  by_left More L (r, K, e) f = record {
    run = subst (λ (M : List (List Move)). IsPath m t q (front M)) (sym e) (f r K e).0;
    pending = ap (λ (M : List (List Move)). front M ∷ rest (system m t) (root m t q) (front M)) e ∙ ap (λ (M : List (List Move)). r ∷ M) (sym (f r K e).1) ∙ sym e;
  }
  by_left Found L (r, K, e) f = record {
    run = subst (λ (M : List (List Move)). IsPath m t q (front M)) (sym e) (f r K e).0;
    pending = ap (λ (M : List (List Move)). front M ∷ rest (system m t) (root m t q) (front M)) e ∙ ap (λ (M : List (List Move)). r ∷ M) (sym (f r K e).1) ∙ sym e;
  }

  pub stands_at : let l = shown m t q E in Standing l.verdict l.left
  stands_at =
      let S = system m t in
      let d = root m t q in
      let l = shown m t q E in
      let behind = look_left (hits m t q) E (list S d) in
      by_left l.verdict l.left (look_some (hits m t q) E (list S d)) (λ r K e. suffix S d refl behind.0 r K (behind.1 ∙ ap (λ (M : List (List Move)). behind.0 ++ M) e))
