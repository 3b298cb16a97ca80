-- The steps that moves are, one after another.
use Rattle.std.proofs.Common.{◌≡◌, ℕ, ◌≤◌, Bool, true, false, List, [], ◌∷◌, Some, None, Option, nat_lt, refl, ap, arith}
use Rattle.std.specs.List.{AllByRecursion}
use Rattle.std.proofs.lemmas.Bool.{ltb-true}
use Rattle.memory.specs.declared.actions.Action.{Action}
use Rattle.memory.specs.declared.shapes.Shape.{Shape}
use Rattle.memory.specs.Machine.{Machine}
use Rattle.ceiling.specs.declared.moves.Move.{Move}
use Rattle.ceiling.specs.Programs.{World, next, offers, opening}
use Rattle.program.specs.Program.{Program}
use Rattle.worlds.specs.declared.places.Place.{Place}
use Rattle.worlds.specs.declared.records.Record.{Record}
use Rattle.worlds.specs.Worlds.{over, record_of}
use Rattle.runs.proofs.Works.{narrow}
use Rattle.session.specs.Contents.{Inquiry, if_found, steps_by}
use Rattle.session.specs.Recited.{recited, InField}

module _ {Config : Type 0} (m : Machine Config) (t : Program) where
  -- what is told of a move and those after it, by whether it is offered
  abbrev pub told_if : World Config Place → Move → List Move → Bool → List Record
  told_if w k ks b = elim b [ true ↦ record_of m t w k ∷ recited m t (next m (over t) w k) ks | false ↦ [] ]

  -- a world that was started is at the start of the runs
  pub from_start : (w : World Config Place) (s : Shape) (ks : List Move)
      → ((p : Program) → w ≡ opening m (over p) s) → recited m t w ks ≡ recited m t (opening m (over t) s) ks
  from_start w s ks h = ap (λ v. recited m t v ks) (h t)

  -- every choice is below the offer, so it fits a field
  pub recited_small : (widest : ℕ) → ((s : Config) (p : ℕ) (a : Action) → m.offer s p a ≤ widest) → widest ≤ 9999
      → (w : World Config Place) (ks : List Move) → AllByRecursion InField (recited m t w ks)
  recited_small widest few low w [] = tt
  recited_small widest few low w (k ∷ ks) =
      go (recited_small widest few low (next m (over t) w k) ks) (nat_lt k.choice (offers m (over t) w k.process)) refl
    where
      go : AllByRecursion InField (recited m t (next m (over t) w k) ks) → (b : Bool)
          → nat_lt k.choice (offers m (over t) w k.process) ≡ b → AllByRecursion InField (told_if w k ks b)
      go later true e = (omega (arith, narrow m t widest few w k.process, ltb-true k.choice (offers m (over t) w k.process) e), later)
      go later false e = tt

  pub steps_small : (widest : ℕ) → ((s : Config) (p : ℕ) (a : Action) → m.offer s p a ≤ widest) → widest ≤ 9999
      → (o : Option Inquiry) → AllByRecursion InField (steps_by m t o)
  steps_small widest few low (Some i) =
      recited_small widest few low (opening m (over t) i.question.shape) (if_found i.verdict i.run)
  steps_small widest few low None = tt
