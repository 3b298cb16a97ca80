-- Where a search stands in the tree of runs, and how it goes on from there. Over any system.
use Rattle.std.specs.Prelude.{◌≡◌, ℕ, Bool, true, false, List, [], ◌∷◌, ◌++◌}
use Rattle.ceiling.specs.declared.moves.Move.{Move}
use Rattle.runs.specs.Runs.{System, Node, at, after, rest, Offered}

module _ {W : Type 0} (S : System W) (d : Node W) where
  -- The world w and the room r are those at the path, and the path is a run.
  pub record Here (w : W) (r : ℕ) (path : List Move) : Type 0 where
    pub world : w ≡ (at S d path).world
    pub room : r ≡ (at S d path).room
    pub offered : Offered S d path

  -- What a search through a part of the runs ends with: the next run, or that the part is empty. The part is `whole`
  -- where something is found in it, and `none` where it is not.
  abbrev pub Outcome : List Move → List Move → List (List Move) → List (List Move) → Bool → Type 0
  Outcome path now whole none true = whole ++ after S d path ≡ now ∷ rest S d now
  Outcome path now whole none false = (none ≡ []) × (now ≡ path)

  -- one run further: the next of the list, or that there is none, and then back at the first
  abbrev pub Next : List Move → List Move → Bool → Type 0
  Next path now true = rest S d path ≡ now ∷ rest S d now
  Next path now false = (rest S d path ≡ []) × (now ≡ [])
