-- What a question's answer is, in a reader's words: which run is found, and when there is none.
use Rattle.std.specs.Prelude.{◌≡◌, ℕ, ◌+◌, ◌<◌, ◌≤◌, ◌⊎◌, ◌↔◌, Bool, true, List, [], ◌∷◌, length}
use Rattle.ceiling.specs.declared.moves.Move.{Move}
use Rattle.runs.specs.declared.verdicts.Verdict.{Verdict}
use Rattle.runs.specs.declared.verdicts.Verdict.TheVariants.{More, Found, None}
use Rattle.runs.specs.Runs.{System, end_of}
use Rattle.runs.specs.Listed.{Within, Before, Stands}

module _ {W : Type 0} (S : System W) (w : W) (n k : ℕ) (hit : W → Bool) where
  -- the run ends where the targets are reached
  abbrev pub Reaches : List Move → Type 0
  Reaches r = hit (end_of S w r) ≡ true

  -- the first of the runs within bounds that reach the targets
  pub record First (r : List Move) : Type 0 where
    pub within : Within S w n k r
    pub reaches : Reaches r
    pub others : (s : List Move) → Within S w n k s → Reaches s → (s ≡ r) ⊎ Before r s

  -- no run within bounds reaches them
  abbrev pub Nowhere : Type 0
  Nowhere = (r : List Move) → Within S w n k r → Reaches r → ⊥

  -- found, with the run r, after i others
  abbrev pub FoundAt : Verdict → ℕ → List Move → ℕ → List Move → Type 0
  FoundAt v u x i r = (v ≡ Found) × (u ≡ i + 1) × (x ≡ r)

  -- What the verdict v, the units u and the run x are after the effort E, of the list L of the runs within bounds.
  pub record Says (L : List (List Move)) (E : ℕ) (v : Verdict) (u : ℕ) (x : List Move) : Type 0 where
    -- found just if one of the first E of the list reaches the targets
    pub found : (v ≡ Found) ↔ ((i : ℕ) × (r : List Move) × (i < E) × Stands L i r × Reaches r)
    -- and the run is the first that does, the units its place
    pub run : (i : ℕ) (r : List Move) → FoundAt v u x i r ↔ (First r × Stands L i r × (i < E))
    -- none just if no run within bounds does, and the list has at most E
    pub none : (v ≡ None) ↔ (Nowhere × (length L ≤ E))
    pub none_units : v ≡ None → u ≡ length L
    -- else open
    pub more : (v ≡ More) ↔ (((i : ℕ) (r : List Move) → i < E → Stands L i r → Reaches r → ⊥) × (E < length L))
    pub more_units : v ≡ More → u ≡ E

  -- Once settled, the answer is a matter of the runs alone.
  pub record Decided (v : Verdict) (x : List Move) : Type 0 where
    pub found : (r : List Move) → ((v ≡ Found) × (x ≡ r)) ↔ First r
    pub none : (v ≡ None) ↔ Nowhere

-- the first of those left
abbrev pub front : List (List Move) → List Move
front [] = []
front (r ∷ L) = r
