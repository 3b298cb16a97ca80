-- The runs within bounds and their order, in a reader's words, and what is claimed of a list of them.
use Rattle.std.specs.Prelude.{◌≡◌, ℕ, zero, suc, ◌+◌, ◌^◌, ◌<◌, ◌≤◌, ◌⊎◌, ◌↔◌, List, [], ◌∷◌, ◌++◌, length}
use Rattle.ceiling.specs.declared.moves.Move.{Move}
use Rattle.runs.specs.Runs.{System, IsRun, switches_of, runs}

-- a run from w of at most n moves and at most k switches
pub record Within {W : Type 0} (S : System W) (w : W) (n k : ℕ) (r : List Move) : Type 0 where
  pub run : IsRun S w r
  pub moves : length r ≤ n
  pub few_switches : switches_of S w r ≤ k

-- a lower process, or the same process and a lower choice
abbrev pub Lower : Move → Move → Type 0
Lower a b = (a.process < b.process) ⊎ ((a.process ≡ b.process) × (a.choice < b.choice))

-- s is r and at least one move more
abbrev pub Extends : List Move → List Move → Type 0
Extends r s = (m : Move) × (t : List Move) × (s ≡ r ++ (m ∷ t))

-- at the first move that differs r has the lower one
abbrev pub Differs : List Move → List Move → Type 0
Differs r s =
    (common : List Move) × (a : Move) × (t : List Move) × (b : Move) × (u : List Move)
    × (r ≡ common ++ (a ∷ t)) × (s ≡ common ++ (b ∷ u)) × Lower a b

-- a run before its extensions; of other two, by the first move that differs
abbrev pub Before : List Move → List Move → Type 0
Before r s = Extends r s ⊎ Differs r s

-- r stands in the list after i others
abbrev pub Stands : List (List Move) → ℕ → List Move → Type 0
Stands [] i r = ⊥
Stands (x ∷ L) zero r = x ≡ r
Stands (x ∷ L) (suc i) r = Stands L i r

abbrev pub In : List (List Move) → List Move → Type 0
In L r = (i : ℕ) × Stands L i r

-- of two places the run at the first is before the run at the second
abbrev pub Ordered : List (List Move) → Type 0
Ordered L = (i j : ℕ) (r s : List Move) → i < j → Stands L i r → Stands L j s → Before r s

-- L is the list of the runs within bounds: it holds exactly these, each once, in their order.
pub record Lists {W : Type 0} (S : System W) (w : W) (n k : ℕ) (L : List (List Move)) : Type 0 where
  pub exactly : (r : List Move) → In L r ↔ Within S w n k r
  pub once : (i j : ℕ) (r : List Move) → Stands L i r → Stands L j r → i ≡ j
  pub ordered : Ordered L

-- of two runs one is before the other, and never both
pub record TotalOrder : Type 0 where
  pub never : (r : List Move) → Before r r → ⊥
  pub through : (r s t : List Move) → Before r s → Before s t → Before r t
  pub either : (r s : List Move) → (r ≡ s) ⊎ Before r s ⊎ Before s r

-- q ^ 0 + .. + q ^ n
abbrev pub geometric : ℕ → ℕ → ℕ
geometric q zero = 1
geometric q (suc n) = geometric q n + q ^ suc n

-- The runs as they are computed are that list, there is no other, and it is no longer than 1 + q + .. + q ^ n.
pub record TheList {W : Type 0} (S : System W) (q : ℕ) (w : W) (n k : ℕ) : Type 0 where
  pub lists : Lists S w n k (runs S n k w [])
  pub only : (L : List (List Move)) → Lists S w n k L → L ≡ runs S n k w []
  pub few : length (runs S n k w []) ≤ geometric q n
