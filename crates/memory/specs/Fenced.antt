-- Takes through the fence layer are takes of the memory below.
use Rattle.std.specs.Prelude.{ℕ, List, [], ◌∷◌, Ok, Err, Result}
use Rattle.memory.specs.declared.actions.Action.{Action}
use Rattle.memory.specs.declared.actions.Action.TheVariants.{Local, Read, Write, Swap, Fence}
use Rattle.memory.specs.declared.actions.NotOffered.{NotOffered}
use Rattle.memory.specs.declared.actions.Seen.{Seen}
use Rattle.memory.specs.declared.actions.Take.{Take}
use Rattle.memory.specs.declared.shapes.Shape.{Shape}
use Rattle.memory.specs.Shapes.{Inside}
use Rattle.memory.specs.Machine.{Machine, Taken, Leads}
use Rattle.memory.specs.Fences.{fenced, lowered}

-- variable 0 is inside every shape
pub inside_lowered : (shape : Shape) (p : ℕ) (a : Action) → Inside shape p (lowered a) → Inside shape p a
inside_lowered shape p Local h = h
inside_lowered shape p (Read x) h = h
inside_lowered shape p (Write x v) h = h
inside_lowered shape p (Swap x old new) h = h
inside_lowered shape p Fence h = (h.0, tt)

module _ {Config : Type 0} (m : Machine Config) where
  taken_below : (s : Config) (p : ℕ) (a : Action) (c : ℕ) (u : Config) (r : Result Seen NotOffered)
      → Taken (fenced m) s p a c u r → Taken m s p (lowered a) c u r
  taken_below s p a c u (Ok seen) h = record { offered = h.offered; after = h.after; value = h.value; mark = h.mark }
  taken_below s p a c u (Err f) h = record { offer = h.offer; beyond = h.beyond; same = h.same }

  abbrev lowered_take : Take → Take
  lowered_take k = record { process = k.process; action = lowered k.action; choice = k.choice }

  abbrev pub lowered_takes : List Take → List Take
  lowered_takes [] = []
  lowered_takes (k ∷ ks) = lowered_take k ∷ lowered_takes ks

  pub leads_below : (s : Config) (ks : List Take) (t : Config) → Leads (fenced m) s ks t → Leads m s (lowered_takes ks) t
  leads_below s [] t h = h
  leads_below s (k ∷ ks) t h =
      (h.0, (h.1.0, taken_below s k.process k.action k.choice h.0 h.1.0 h.1.1), leads_below h.0 ks t h.2)
