-- What comes after a run in the list of runs, move by move. Over any system.
-- After a path comes, from its last move up, what is onward of each move: so the search needs no more than the path.
use Rattle.std.proofs.Common.{◌≡◌, ℕ, zero, suc, ◌+◌, ◌-◌, ◌<◌, ◌≤◌, Bool, true, false, List, [], ◌∷◌, ◌++◌, length, sym, refl, ap, ◌∙◌, append_assoc, append-nil, le-leb, arith}
use Rattle.ceiling.specs.declared.moves.Move.{Move}
use Rattle.runs.specs.Runs.{System, Node, end_of, cost, span, upto, less, child, at, list, branch, choices, processes, below, onward, after, rest, Offered}

-- the first of the numbers, and the others
pub upto_more : {A : Type 0} (f : ℕ → List A) (i j : ℕ) → i < j → upto f i j ≡ f i ++ upto f (i + 1) j
upto_more f i j h = let e : j - i ≡ suc (j - (i + 1)) = omega arith in ap (span f i) e

pub upto_all : {A : Type 0} (f : ℕ → List A) (i j : ℕ) → j ≤ i → upto f i j ≡ []
upto_all f i j h = let e : j - i ≡ 0 = omega arith in ap (span f i) e

module _ {W : Type 0} (S : System W) where
  -- the runs from d on are d's path and those below it
  pub list_is : (d : Node W) → list S d ≡ d.path ∷ below S d
  list_is d = go d.left
    where
      go : (n : ℕ) → list S (record d { left = n }) ≡ d.path ∷ below S (record d { left = n })
      go zero = refl
      go (suc n) = refl

  -- none are below where no moves are left
  pub below_none : (d : Node W) → d.left ≡ 0 → below S d ≡ []
  below_none d e = go d.left e
    where
      go : (n : ℕ) → n ≡ 0 → below S (record d { left = n }) ≡ []
      go zero e = refl
      go (suc n) e = absurd (omega arith)

  -- else those of the first process and all later ones
  pub below_some : (d : Node W) → 0 < d.left → below S d ≡ processes S d 1
  below_some d e = go d.left e
    where
      go : (n : ℕ) → 0 < n → below S (record d { left = n }) ≡ processes S (record d { left = n }) 1
      go zero e = absurd (omega arith)
      go (suc n) e = refl

  -- one more move leads to a child
  pub at_push : (d : Node W) (s : List Move) (m : Move) → at S d (s ++ (m ∷ [])) ≡ child S (at S d s) m
  at_push d [] m = refl
  at_push d (x ∷ s) m = at_push (child S d x) s m

  -- after the path and one more move comes what is onward of that move, and then what comes after the path
  pub after_push : (d : Node W) (s : List Move) (m : Move) → after S d (s ++ (m ∷ [])) ≡ onward S (at S d s) m.process (m.choice + 1) ++ after S d s
  after_push d [] m = sym (append-nil (onward S d m.process (m.choice + 1)))
  after_push d (x ∷ s) m =
      let e = child S d x in
      ap (λ (r : List (List Move)). r ++ onward S d x.process (x.choice + 1)) (after_push e s m)
      ∙ append_assoc (onward S (at S e s) m.process (m.choice + 1)) (after S e s) (onward S d x.process (x.choice + 1))

  pub path_at : (d : Node W) (s : List Move) → (at S d s).path ≡ d.path ++ s
  path_at d [] = sym (append-nil d.path)
  path_at d (x ∷ s) = path_at (child S d x) s ∙ append_assoc d.path (x ∷ []) s

  pub less_is : (n : ℕ) → less n ≡ n - 1
  less_is zero = omega arith
  less_is (suc n) = omega arith

  pub left_at : (d : Node W) (s : List Move) → (at S d s).left ≡ d.left - length s
  left_at d [] = omega arith
  left_at d (x ∷ s) =
      let l = less_is d.left in
      let r = left_at (child S d x) s in
      omega arith

  -- the world and the room there are those after the moves
  pub world_at : (d : Node W) (s : List Move) → (at S d s).world ≡ end_of S d.world s
  world_at d [] = refl
  world_at d (x ∷ s) = world_at (child S d x) s

  pub offered_push : (d : Node W) (s : List Move) (m : Move)
      → Offered S d s → m.choice < S.offer (at S d s).world m.process → Offered S d (s ++ (m ∷ []))
  offered_push d [] m o h = (h, tt)
  offered_push d (x ∷ s) m o h = (o.0, offered_push (child S d x) s m o.1 h)

  -- if s and more moves can be made, then s can
  pub offered_part : (d : Node W) (s t : List Move) → Offered S d (s ++ t) → Offered S d s
  offered_part d [] t o = tt
  offered_part d (x ∷ s) t o = (o.0, offered_part (child S d x) s t o.1)

  -- and the next of them is offered after s
  pub offered_last : (d : Node W) (s : List Move) (m : Move) (t : List Move) → Offered S d (s ++ (m ∷ t)) → m.choice < S.offer (at S d s).world m.process
  offered_last d [] m t o = o.0
  offered_last d (x ∷ s) m t o = offered_last (child S d x) s m t o.1

  -- a move with room for its switch
  pub branch_fits : (d : Node W) (m : Move) → cost S d.world m ≤ d.room → branch S d m.process m.choice ≡ list S (child S d m)
  branch_fits d m h =
      let F : Bool → List (List Move) = λ b. elim b [ true ↦ list S (child S d m) | false ↦ [] ] in
      ap F (le-leb (cost S d.world m) d.room h)

  -- a choice, and those after it
  pub choices_more : (d : Node W) (p c : ℕ) → c < S.offer d.world p → choices S d p c ≡ branch S d p c ++ choices S d p (c + 1)
  choices_more d p c h = upto_more (branch S d p) c (S.offer d.world p) h

  pub choices_all : (d : Node W) (p c : ℕ) → S.offer d.world p ≤ c → choices S d p c ≡ []
  choices_all d p c h = upto_all (branch S d p) c (S.offer d.world p) h

  -- a choice with nothing below it is passed over
  pub choices_over : (d : Node W) (p c : ℕ) → c < S.offer d.world p → branch S d p c ≡ [] → choices S d p c ≡ choices S d p (c + 1)
  choices_over d p c h e = choices_more d p c h ∙ ap (λ (r : List (List Move)). r ++ choices S d p (c + 1)) e

  -- a process, and those after it
  pub processes_more : (d : Node W) (p : ℕ) → p < S.processes + 1 → processes S d p ≡ onward S d p 0
  processes_more d p h = upto_more (λ q. choices S d q 0) p (S.processes + 1) h

  regroup : (x a b t : List (List Move)) → ((x ++ a) ++ b) ++ t ≡ x ++ ((a ++ b) ++ t)
  regroup x a b t = simp append_assoc

  -- The move m can be made at s: what was to come is the run through m, and then what comes after that.
  pub stepped : (d : Node W) → d.path ≡ [] → (s : List Move) (m : Move) → m.choice < S.offer (at S d s).world m.process → cost S (at S d s).world m ≤ (at S d s).room
      → onward S (at S d s) m.process m.choice ++ after S d s ≡ (s ++ (m ∷ [])) ∷ rest S d (s ++ (m ∷ []))
  stepped d e s m h k =
      let p = m.process in
      let c = m.choice in
      let x = at S d s in
      let s' = s ++ (m ∷ []) in
      let y = at S d s' in
      let L = list S (child S x m) in
      let more : choices S x p c ≡ L ++ choices S x p (c + 1) = choices_more x p c h ∙ ap (λ (r : List (List Move)). r ++ choices S x p (c + 1)) (branch_fits x m k) in
      let here : y.path ≡ s' = path_at d s' ∙ ap (λ (r : List Move). r ++ s') e in
      let first : L ≡ s' ∷ below S y = ap (list S) (sym (at_push d s m)) ∙ list_is y ∙ ap (λ (r : List Move). r ∷ below S y) here in
      ap (λ (r : List (List Move)). (r ++ processes S x (p + 1)) ++ after S d s) more
      ∙ regroup L (choices S x p (c + 1)) (processes S x (p + 1)) (after S d s)
      ∙ ap (λ (r : List (List Move)). r ++ ((choices S x p (c + 1) ++ processes S x (p + 1)) ++ after S d s)) first
      ∙ ap (λ (r : List (List Move)). s' ∷ (below S y ++ r)) (sym (after_push d s m))
