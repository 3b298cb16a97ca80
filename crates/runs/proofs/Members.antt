-- The runs as they are computed: they are exactly the runs within bounds, in order. Over any system.
-- By induction over the moves that are left: the list is the path, and then lists joined by process and choice, each of runs with
-- a move less to go.
use Rattle.std.proofs.Common.{◌≡◌, ℕ, zero, suc, ◌+◌, ◌-◌, ◌<◌, ◌≤◌, ◌↔◌, nat_le, List, [], ◌∷◌, ◌++◌, sym, refl, ◌∙◌, subst, inl, inr, append_assoc, append-nil, le-leb, leb-true, arith}
use Rattle.ceiling.specs.declared.moves.Move.{Move}
use Rattle.runs.specs.Runs.{System, cost, move, upto, runs}
use Rattle.runs.specs.Listed.{Within, Before, In, Ordered}
use Rattle.runs.proofs.Spans.{pick, in_pick, from_pick, in_span, from_span, ordered_none, ordered_pick, ordered_more, ordered_span}

module _ {W : Type 0} (S : System W) where
  within_none : (w : W) (n k : ℕ) → Within S w n k []
  within_none w n k = record { run = tt; moves = omega arith; few_switches = omega arith }

  -- a move, and then a run within what is left of the bounds
  within_more : (w : W) (n k : ℕ) (m : Move) (r : List Move)
      → m.choice < S.offer w m.process → cost S w m ≤ k → Within S (S.next w m) n (k - cost S w m) r → Within S w (suc n) k (m ∷ r)
  within_more w n k m r may fits h = record { run = (may, h.run); moves = omega arith; few_switches = omega arith }

  within_less : (w : W) (n k : ℕ) (m : Move) (r : List Move) → Within S w (suc n) k (m ∷ r) → (cost S w m ≤ k) × Within S (S.next w m) n (k - cost S w m) r
  within_less w n k m r h = (omega arith, record { run = h.run.1; moves = omega arith; few_switches = omega arith })

  -- x is the path and then a run within bounds
  record Goes (n k : ℕ) (w : W) (path x : List Move) : Type 0 where
    more : List Move
    within : Within S w n k more
    joined : x ≡ path ++ more

  abbrev Sound : ℕ → Type 0
  Sound n = (k : ℕ) (w : W) (path x : List Move) → In (runs S n k w path) x → Goes n k w path x

  module _ (n k : ℕ) (w : W) (path : List Move) where
    -- the runs that go on by the move m, by the choice c of p if there is room for it, and by any choice of p
    abbrev pub by_move : Move → List (List Move)
    by_move m = runs S n (k - cost S w m) (S.next w m) (path ++ (m ∷ []))

    abbrev pub by_choice : ℕ → ℕ → List (List Move)
    by_choice p c = pick (nat_le (cost S w (move p c)) k) (by_move (move p c))

    abbrev pub by_process : ℕ → List (List Move)
    by_process p = upto (by_choice p) 0 (S.offer w p)

    -- x is the path, the move m, and then a run within what is left of the bounds
    record Through (m : Move) (x : List Move) : Type 0 where
      more : List Move
      fits : cost S w m ≤ k
      within : Within S (S.next w m) n (k - cost S w m) more
      joined : x ≡ path ++ (m ∷ more)

    -- with what is known of the runs that are a move shorter
    module _ (shorter : Sound n) where
      through : (p c : ℕ) (x : List Move) → In (by_choice p c) x → Through (move p c) x
      through p c x h =
          let m = move p c in
          let (fits, a) = from_pick (nat_le (cost S w m) k) (by_move m) x h in
          let g = shorter (k - cost S w m) (S.next w m) (path ++ (m ∷ [])) x a in
          record { more = g.more; fits = leb-true (cost S w m) k fits; within = g.within; joined = g.joined ∙ append_assoc path (m ∷ []) g.more }

      through_some : (p : ℕ) (x : List Move) → In (by_process p) x → (c : ℕ) × (c < S.offer w p) × Through (move p c) x
      through_some p x h =
          let (c, low, high, a) = from_span (by_choice p) 0 (S.offer w p - 0) x h in
          (c, omega arith, through p c x a)

      -- the path is before all that go on
      path_first : (x : List Move) → In (upto by_process 1 (S.processes + 1)) x → Before path x
      path_first x h =
          let (p, low, high, a) = from_span by_process 1 (S.processes + 1 - 1) x h in
          let (c, may, t) = through_some p x a in
          inl (move p c, t.more, t.joined)

      -- and those by a lower choice are before those by a higher one, or by a higher process
      lower_choice : (p c d : ℕ) (x y : List Move) → c < d → In (by_choice p c) x → In (by_choice p d) y → Before x y
      lower_choice p c d x y l a b =
          let t = through p c x a in
          let u = through p d y b in
          inr (path, move p c, t.more, move p d, u.more, t.joined, u.joined, inr (refl, l))

      lower_process : (p q : ℕ) (x y : List Move) → p < q → In (by_process p) x → In (by_process q) y → Before x y
      lower_process p q x y l a b =
          let (c, may, t) = through_some p x a in
          let (d, can, u) = through_some q y b in
          inr (path, move p c, t.more, move q d, u.more, t.joined, u.joined, inl l)

  -- each in the list is the path and then a run within bounds
  sound : (n : ℕ) → Sound n
  sound zero k w path x (zero, h) = record { more = []; within = within_none w zero k; joined = sym h ∙ sym (append-nil path) }
  sound zero k w path x (suc i, h) = absurd h
  sound (suc n) k w path x (zero, h) = record { more = []; within = within_none w (suc n) k; joined = sym h ∙ sym (append-nil path) }
  sound (suc n) k w path x (suc i, h) =
      let (p, low, high, a) = from_span (by_process n k w path) 1 (S.processes + 1 - 1) x (i, h) in
      let (c, may, t) = through_some n k w path (sound n) p x a in
      record { more = move p c ∷ t.more; within = within_more w n k (move p c) t.more may t.fits t.within; joined = t.joined }

  -- and the path with each run within bounds is there
  complete : (n k : ℕ) (w : W) (path r : List Move) → Within S w n k r → In (runs S n k w path) (path ++ r)
  complete zero k w path [] h = (0, sym (append-nil path))
  complete zero k w path (m ∷ r) h = absurd (let l = h.moves in omega arith)
  complete (suc n) k w path [] h = (0, sym (append-nil path))
  complete (suc n) k w path (m ∷ r) h =
      let p = m.process in
      let c = m.choice in
      let x = path ++ (m ∷ r) in
      let L = by_move n k w path m in
      let may = h.run.0 in
      let inside = S.inside w p (omega arith) in
      let (fits, less) = within_less w n k m r h in
      let a : In L x = subst (In L) (append_assoc path (m ∷ []) r) (complete n (k - cost S w m) (S.next w m) (path ++ (m ∷ [])) r less) in
      let b = in_pick (nat_le (cost S w m) k) L x (le-leb (cost S w m) k fits) a in
      let d = in_span (by_choice n k w path p) 0 (S.offer w p - 0) c x (omega arith) (omega arith) b in
      let e = in_span (by_process n k w path) 1 (S.processes + 1 - 1) p x (omega arith) (omega arith) d in
      (suc e.0, e.1)

  -- so the list is of exactly the runs within bounds
  pub exactly : (w : W) (n k : ℕ) (r : List Move) → In (runs S n k w []) r ↔ Within S w n k r
  exactly w n k r = (λ h. let g = sound n k w [] r h in subst (Within S w n k) (sym g.joined) g.within, complete n k w [] r)

  -- The path comes first, and then the others by process and by choice.
  pub rising : (n k : ℕ) (w : W) (path : List Move) → Ordered (runs S n k w path)
  rising zero k w path = ordered_more path [] (λ r h. absurd h.1) ordered_none
  rising (suc n) k w path =
      let P = by_process n k w path in
      let C = by_choice n k w path in
      let room = λ (p c : ℕ). nat_le (cost S w (move p c)) k in
      let next = λ (p c : ℕ). rising n (k - cost S w (move p c)) (S.next w (move p c)) (path ++ (move p c ∷ [])) in
      let one = λ (p c : ℕ). ordered_pick (room p c) (by_move n k w path (move p c)) (next p c) in
      let some = λ (p : ℕ). ordered_span (C p) (one p) (lower_choice n k w path (sound n) p) 0 (S.offer w p - 0) in
      let all = ordered_span P some (lower_process n k w path (sound n)) 1 (S.processes + 1 - 1) in
      ordered_more path (upto P 1 (S.processes + 1)) (path_first n k w path (sound n)) all
