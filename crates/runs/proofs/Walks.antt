-- A search's steps in the tree of runs: a world that stands at a path, a move further, and what is still to come.
-- What is to come goes by the path alone (`rest`); each loop of the search passes over a part of it in which no run is, until it
-- enters one.
use Rattle.std.proofs.Common.{◌≡◌, ℕ, ◌+◌, ◌-◌, ◌<◌, ◌≤◌, Bool, true, false, cond, List, [], ◌∷◌, ◌++◌, length, get_or, take, drop, drop-cons, add-one, append-nil, refl, sym, ap, ap₂, ◌∙◌, subst, arith}
use Rattle.std.proofs.lemmas.List.{take-append-drop, take_more, length_push}
use Rattle.ceiling.specs.declared.moves.Move.{Move}
use Rattle.runs.specs.Runs.{System, Node, end_of, list, cost, at, after, rest, onward, branch, choices, processes, below, Offered}
use Rattle.runs.specs.Walk.{Here, Outcome}
use Rattle.runs.proofs.Tree.{list_is, world_at, at_push, offered_push, offered_part, offered_last, stepped, choices_over, choices_all, processes_more, below_some, below_none, left_at, after_push}

pub split_at : (xs : List Move) (i : ℕ) (z : Move) → i < length xs → xs ≡ take i xs ++ (get_or xs i z ∷ drop (i + 1) xs)
split_at xs i z h =
    sym (take-append-drop i xs)
    ∙ ap (λ (t : List Move). take i xs ++ t) (drop-cons xs i z h)
    ∙ ap (λ (n : ℕ). take i xs ++ (get_or xs i z ∷ drop n xs)) (sym (add-one i))

-- a path with a move more is longer
pub longer : (t s : List Move) (m : Move) → t ≡ s ++ (m ∷ []) → length t ≡ length s + 1
longer t s m e = ap length e ∙ length_push s m

module _ {W : Type 0} (S : System W) (d : Node W) where
  pub here_start : (w : W) → w ≡ d.world → Here S d w d.room []
  here_start w e = record { world = e; room = refl; offered = tt }

  pub here_end : (w : W) (r : ℕ) (s : List Move) → Here S d w r s → w ≡ end_of S d.world s
  here_end w r s h = h.world ∙ world_at S d s

  -- from the first run on is the whole list
  pub whole : d.path ≡ [] → [] ∷ rest S d [] ≡ list S d
  whole e =
      ap (λ (l : List (List Move)). [] ∷ l) (append-nil (below S d))
      ∙ ap (λ (r : List Move). r ∷ below S d) (sym e)
      ∙ sym (list_is S d)

  offered_here : (w : W) (r : ℕ) (s : List Move) (m : Move)
      → Here S d w r s → m.choice < S.offer (at S d s).world m.process → m.choice < S.offer w m.process
  offered_here w r s m h o = subst (λ (v : W). m.choice < S.offer v m.process) (sym h.world) o

  offered_there : (w : W) (r : ℕ) (s : List Move) (m : Move)
      → Here S d w r s → m.choice < S.offer w m.process → m.choice < S.offer (at S d s).world m.process
  offered_there w r s m h o = subst (λ (v : W). m.choice < S.offer v m.process) h.world o

  -- what a move costs, by its switch
  costs : (w : W) (r : ℕ) (s : List Move) (m : Move) (b : Bool)
      → Here S d w r s → b ≡ (S.event w m).mark → cond b 1 0 ≡ cost S (at S d s).world m
  costs w r s m b h e = ap (λ (x : Bool). cond x 1 0) e ∙ ap (λ (v : W). cost S v m) h.world

  -- one move more
  pub here_push : (w v : W) (r k : ℕ) (s : List Move) (m : Move) (b : Bool)
      → Here S d w r s → m.choice < S.offer w m.process → v ≡ S.next w m → b ≡ (S.event w m).mark → k ≡ r - cond b 1 0
      → Here S d v k (s ++ (m ∷ []))
  here_push w v r k s m b h o e f g =
      let p = sym (at_push S d s m) in
      let c = costs w r s m b h f in
      record {
        world = e ∙ ap (λ (x : W). S.next x m) h.world ∙ ap (λ (x : Node W). x.world) p;
        room = g ∙ ap₂ ◌-◌ h.room c ∙ ap (λ (x : Node W). x.room) p;
        offered = offered_push S d s m h.offered (offered_there w r s m h o);
      }

  -- the move of a path xs after the first i
  pub offered_at : (w : W) (r : ℕ) (xs : List Move) (i : ℕ) (z : Move)
      → i < length xs → Offered S d xs → Here S d w r (take i xs)
      → (get_or xs i z).choice < S.offer w (get_or xs i z).process
  offered_at w r xs i z l o h =
      let m = get_or xs i z in
      offered_here w r (take i xs) m h
      (offered_last S d (take i xs) m (drop (i + 1) xs) (subst (Offered S d) (split_at xs i z l) o))

  pub here_more : (w v : W) (r k : ℕ) (xs : List Move) (i : ℕ) (z : Move) (b : Bool)
      → i < length xs → (get_or xs i z).choice < S.offer w (get_or xs i z).process → Here S d w r (take i xs)
      → v ≡ S.next w (get_or xs i z) → b ≡ (S.event w (get_or xs i z)).mark → k ≡ r - cond b 1 0
      → Here S d v k (take (i + 1) xs)
  here_more w v r k xs i z b l o h e f g =
      subst (Here S d v k) (sym (take_more xs i z l)) (here_push w v r k (take i xs) (get_or xs i z) b h o e f g)

  -- a move that there is room for
  pub here_step : (w : W) (r : ℕ) (s : List Move) (m : Move) (b : Bool)
      → d.path ≡ [] → Here S d w r s → m.choice < S.offer w m.process → b ≡ (S.event w m).mark → cond b 1 0 ≤ r
      → onward S (at S d s) m.process m.choice ++ after S d s ≡ (s ++ (m ∷ [])) ∷ rest S d (s ++ (m ∷ []))
  here_step w r s m b e h o f l =
      let c = costs w r s m b h f in
      let k = h.room in
      stepped S d e s m (offered_there w r s m h o) (omega arith)

  -- what is offered depends on the path alone
  pub same_offer : (w v : W) (r k : ℕ) (s t : List Move) (p : ℕ) → Here S d w r s → Here S d v k t → s ≡ t → S.offer v p ≡ S.offer w p
  same_offer w v r k s t p h g e =
      let f : W → ℕ = λ x. S.offer x p in
      ap f g.world ∙ sym (ap (λ (x : List Move). f (at S d x).world) e) ∙ sym (ap f h.world)

  -- The choices of p are tried at s from `from` on; the search stands at t, before choice c.
  pub choose_again : (w : W) (r : ℕ) (s t : List Move) (p from c : ℕ)
      → Here S d w r s → t ≡ s → choices S (at S d s) p from ≡ choices S (at S d s) p c
      → c < S.offer w p → branch S (at S d t) p c ≡ []
      → choices S (at S d s) p from ≡ choices S (at S d s) p (c + 1)
  choose_again w r s t p from c h e i l b =
      i ∙ choices_over S (at S d s) p c
      (subst (λ (v : W). c < S.offer v p) h.world l)
      (subst (λ (x : List Move). branch S (at S d x) p c ≡ []) e b)

  pub choose_none : (w : W) (r : ℕ) (s : List Move) (p from c : ℕ)
      → Here S d w r s → choices S (at S d s) p from ≡ choices S (at S d s) p c → S.offer w p ≤ c
      → choices S (at S d s) p from ≡ []
  choose_none w r s p from c h i l = i ∙ choices_all S (at S d s) p c (subst (λ (v : W). S.offer v p ≤ c) h.world l)

  -- the same for the processes from `from` on, at q
  pub sweep_found : (s t to : List Move) (from q : ℕ)
      → t ≡ s → processes S (at S d s) from ≡ processes S (at S d s) q → q < S.processes + 1
      → onward S (at S d t) q 0 ++ after S d t ≡ to ∷ rest S d to
      → processes S (at S d s) from ++ after S d s ≡ to ∷ rest S d to
  sweep_found s t to from q e i l f =
      ap (λ (x : List (List Move)). x ++ after S d s) (i ∙ processes_more S (at S d s) q l)
      ∙ subst (λ (x : List Move). onward S (at S d x) q 0 ++ after S d x ≡ to ∷ rest S d to) e f

  pub sweep_again : (s t : List Move) (from q : ℕ)
      → t ≡ s → processes S (at S d s) from ≡ processes S (at S d s) q → q < S.processes + 1
      → choices S (at S d t) q 0 ≡ []
      → processes S (at S d s) from ≡ processes S (at S d s) (q + 1)
  sweep_again s t from q e i l b =
      i ∙ processes_more S (at S d s) q l
      ∙ ap (λ (x : List (List Move)). x ++ processes S (at S d s) (q + 1)) (subst (λ (x : List Move). choices S (at S d x) q 0 ≡ []) e b)

  -- no choice of p from c on is left at s, and the processes after p are tried
  pub resume_found : (s t to : List Move) (p c : ℕ)
      → t ≡ s → choices S (at S d s) p c ≡ []
      → processes S (at S d t) (p + 1) ++ after S d t ≡ to ∷ rest S d to
      → onward S (at S d s) p c ++ after S d s ≡ to ∷ rest S d to
  resume_found s t to p c e i f =
      ap (λ (x : List (List Move)). (x ++ processes S (at S d s) (p + 1)) ++ after S d s) i
      ∙ subst (λ (x : List Move). processes S (at S d x) (p + 1) ++ after S d x ≡ to ∷ rest S d to) e f

  pub resume_none : (s t : List Move) (p c : ℕ)
      → t ≡ s → choices S (at S d s) p c ≡ [] → processes S (at S d t) (p + 1) ≡ [] → onward S (at S d s) p c ≡ []
  resume_none s t p c e i f =
      ap (λ (x : List (List Move)). x ++ processes S (at S d s) (p + 1)) i
      ∙ subst (λ (x : List Move). processes S (at S d x) (p + 1) ≡ []) e f

  -- both, by what the search of the processes answers
  pub resume : (s t to : List Move) (p c : ℕ) (found : Bool)
      → t ≡ s → choices S (at S d s) p c ≡ []
      → Outcome S d t to (processes S (at S d t) (p + 1)) (processes S (at S d t) (p + 1)) found
      → Outcome S d s to (onward S (at S d s) p c) (onward S (at S d s) p c) found
  resume s t to p c true e i f = resume_found s t to p c e i f
  resume s t to p c false e i f = (resume_none s t p c e i f.0, f.1 ∙ e)

  -- below the run s, where moves are left and where none is
  pub descend_some : (s : List Move) → length s < d.left → below S (at S d s) ≡ processes S (at S d s) 1
  descend_some s l = let e = left_at S d s in below_some S (at S d s) (omega arith)

  pub descend_none : (s : List Move) → d.left ≤ length s → below S (at S d s) ≡ []
  descend_none s l = let e = left_at S d s in below_none S (at S d s) (omega arith)

  pub descend : (s to : List Move) (found : Bool) → length s < d.left
      → Outcome S d s to (processes S (at S d s) 1) (processes S (at S d s) 1) found
      → Outcome S d s to (below S (at S d s)) (below S (at S d s)) found
  descend s to found l f = subst (λ (x : List (List Move)). Outcome S d s to x x found) (sym (descend_some s l)) f

  -- the last move taken off
  pub back_offered : (s t : List Move) (m : Move) → Offered S d t → t ≡ s ++ (m ∷ []) → Offered S d s
  back_offered s t m o e = offered_part S d s (m ∷ []) (subst (Offered S d) e o)

  pub back_may : (w : W) (r : ℕ) (s t : List Move) (m : Move)
      → Offered S d t → t ≡ s ++ (m ∷ []) → Here S d w r s → m.choice < S.offer w m.process
  back_may w r s t m o e h = offered_here w r s m h (offered_last S d s m [] (subst (Offered S d) e o))

  -- L is what is still to come; t is the path before its last move is taken off, s the path after
  pub advance_found : (L : List (List Move)) (t s to : List Move) (m : Move)
      → L ≡ after S d t → t ≡ s ++ (m ∷ [])
      → onward S (at S d s) m.process (m.choice + 1) ++ after S d s ≡ to ∷ rest S d to
      → L ≡ to ∷ rest S d to
  advance_found L t s to m i e f = i ∙ ap (after S d) e ∙ after_push S d s m ∙ f

  pub advance_again : (L : List (List Move)) (t s to : List Move) (m : Move)
      → L ≡ after S d t → t ≡ s ++ (m ∷ [])
      → (onward S (at S d s) m.process (m.choice + 1) ≡ []) × (to ≡ s)
      → L ≡ after S d to
  advance_again L t s to m i e f =
      i ∙ ap (after S d) e ∙ after_push S d s m
      ∙ ap (λ (l : List (List Move)). l ++ after S d s) f.0
      ∙ sym (ap (after S d) f.1)
