-- The runs within bounds, as a list, over any processes with choices. No memory and no program in sight.
use Rattle.std.specs.Prelude.{ℕ, zero, suc, ◌+◌, ◌-◌, ◌<◌, ◌≤◌, Bool, true, false, cond, ◌&&◌, List, [], ◌∷◌, ◌++◌, nat_le, nat_lt}
use Rattle.ceiling.specs.declared.moves.Move.{Move}
use Rattle.ceiling.specs.Programs.{Event, offered_from, story_from, end_from, switches}

pub record System (World : Type 0) : Type 0 where
  -- processes are 1 to this number
  pub processes : ℕ
  -- how many choices a process has
  pub offer : World → ℕ → ℕ
  -- where a move leads, and what is seen of it
  pub next : World → Move → World
  pub event : World → Move → Event
  -- no other process has a choice
  pub inside : (w : World) (p : ℕ) → 0 < offer w p → (1 ≤ p) × (p ≤ processes)

abbrev pub move : ℕ → ℕ → Move
move p c = record { process = p; choice = c }

-- f i, f (i + 1) and so on, j of them, joined
abbrev pub span : {A : Type 0} → (ℕ → List A) → ℕ → ℕ → List A
span f i zero = []
span f i (suc j) = f i ++ span f (i + 1) j

-- f at each number from i up to, but without, j, joined
abbrev pub upto : {A : Type 0} → (ℕ → List A) → ℕ → ℕ → List A
upto f i j = span f i (j - i)

module _ {W : Type 0} (S : System W) where
  -- from w the moves r can be made, one after the other
  abbrev pub IsRun : W → List Move → Type 0
  IsRun = offered_from S.offer S.next

  -- whether they can
  abbrev pub is_run : W → List Move → Bool
  is_run w [] = true
  is_run w (k ∷ ks) = nat_lt k.choice (S.offer w k.process) && is_run (S.next w k) ks

  -- where they lead
  abbrev pub end_of : W → List Move → W
  end_of = end_from S.next

  -- how many of them are switches
  abbrev pub switches_of : W → List Move → ℕ
  switches_of w r = switches (story_from S.next S.event w r)

  -- 1 for a switch, else 0
  abbrev pub cost : W → Move → ℕ
  cost w m = cond (S.event w m).mark 1 0

-- The runs that begin with `path`, which led to the world w, with at most n more moves and k more switches: path
-- itself, and then those that go on, by process and by choice.
abbrev pub runs : {W : Type 0} → System W → ℕ → ℕ → W → List Move → List (List Move)
runs S zero k w path = path ∷ []
runs S (suc n) k w path =
    path
    ∷ upto (λ p. upto (λ c. elim (nat_le (cost S w (move p c)) k) [
      | true ↦ runs S n (k - cost S w (move p c)) (S.next w (move p c)) (path ++ (move p c ∷ []))
      | false ↦ []
    ]) 0 (S.offer w p)) 1 (S.processes + 1)

-- A place in the tree of runs: so many moves and switches are left.
pub record Node (W : Type 0) : Type 0 where
  pub left : ℕ
  pub room : ℕ
  pub world : W
  pub path : List Move

abbrev pub less : ℕ → ℕ
less zero = zero
less (suc n) = n

module _ {W : Type 0} (S : System W) where
  abbrev pub child : Node W → Move → Node W
  child d m = record {
    left = less d.left;
    room = d.room - cost S d.world m;
    world = S.next d.world m;
    path = d.path ++ (m ∷ []);
  }

  -- where the moves lead from d
  abbrev pub at : Node W → List Move → Node W
  at d [] = d
  at d (m ∷ ms) = at (child d m) ms

  abbrev pub list : Node W → List (List Move)
  list d = runs S d.left d.room d.world d.path

  -- the runs that go on from d by one move, by some choices of p, by some processes
  abbrev pub branch : Node W → ℕ → ℕ → List (List Move)
  branch d p c = elim (nat_le (cost S d.world (move p c)) d.room) [ true ↦ list (child d (move p c)) | false ↦ [] ]

  abbrev pub choices : Node W → ℕ → ℕ → List (List Move)
  choices d p c = upto (branch d p) c (S.offer d.world p)

  abbrev pub processes : Node W → ℕ → List (List Move)
  processes d p = upto (λ q. choices d q 0) p (S.processes + 1)

  -- the runs below d
  abbrev pub below : Node W → List (List Move)
  below d = elim d.left [ zero ↦ [] | suc n ↦ processes d 1 ]

  -- the runs from d's choice c of p on
  abbrev pub onward : Node W → ℕ → ℕ → List (List Move)
  onward d p c = choices d p c ++ processes d (p + 1)

  -- the runs below d that come after the path and all its extensions
  abbrev pub after : Node W → List Move → List (List Move)
  after d [] = []
  after d (m ∷ ms) = after (child d m) ms ++ onward d m.process (m.choice + 1)

  -- the runs below d that come after the path
  abbrev pub rest : Node W → List Move → List (List Move)
  rest d ms = below (at d ms) ++ after d ms

  -- each move of the path can be made
  abbrev pub Offered : Node W → List Move → Type 0
  Offered d ms = IsRun S d.world ms
