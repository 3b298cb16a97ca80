-- What a memory means: its configurations, and for each process and action the choices.
use Rattle.std.specs.Prelude.{◌≡◌, ℕ, ◌<◌, ◌≤◌, Bool, List, [], ◌∷◌, Ok, Err, Result}
use Rattle.memory.specs.declared.actions.Action.{Action}
use Rattle.memory.specs.declared.actions.Action.TheVariants.{Local, Read, Write, Swap, Fence}
use Rattle.memory.specs.declared.actions.NotOffered.{NotOffered}
use Rattle.memory.specs.declared.actions.Seen.{Seen}
use Rattle.memory.specs.declared.actions.Take.{Take}
use Rattle.memory.specs.declared.shapes.Shape.{Shape}

-- where a choice leads, the value that it sees, and whether it is a switch
pub record Step (Config : Type 0) : Type 0 where
  pub next : Config
  pub value : ℕ
  pub mark : Bool

-- A starting configuration for each shape; in each configuration, for each process and action, how many
-- choices are offered, and for each choice a step.
pub record Machine (Config : Type 0) : Type 0 where
  pub initial : Shape → Config
  pub offer : Config → ℕ → Action → ℕ
  pub step : Config → ℕ → Action → ℕ → Step Config

-- A choice below the offer is taken: the configuration t after s is the step's, and so is what is answered.
pub record Accepted {Config : Type 0} (m : Machine Config) (s : Config) (p : ℕ) (a : Action) (c : ℕ) (t : Config) (seen : Seen) : Type 0 where
  pub offered : c < m.offer s p a
  pub after : t ≡ (m.step s p a c).next
  pub value : seen.value ≡ (m.step s p a c).value
  pub mark : seen.switch ≡ (m.step s p a c).mark

-- Any other is refused: the offer is told, and the configuration remains.
pub record Refused {Config : Type 0} (m : Machine Config) (s : Config) (p : ℕ) (a : Action) (c : ℕ) (t : Config) (f : NotOffered) : Type 0 where
  pub offer : f.offered ≡ m.offer s p a
  pub beyond : m.offer s p a ≤ c
  pub same : t ≡ s

abbrev pub Taken : {Config : Type 0} → Machine Config → Config → ℕ → Action → ℕ → Config → Result Seen NotOffered → Type 0
Taken m s p a c t (Ok seen) = Accepted m s p a c t seen
Taken m s p a c t (Err f) = Refused m s p a c t f

-- A series of takes leads from s to t: each is answered, accepted or refused, and goes on from where the one before ended.
abbrev pub Leads : {Config : Type 0} → Machine Config → Config → List Take → Config → Type 0
Leads m s [] t = t ≡ s
Leads {Config = Config} m s (k ∷ ks) t =
    (u : Config) × ((r : Result Seen NotOffered) × Taken m s k.process k.action k.choice u r) × Leads m u ks t

-- the actions that see nothing
abbrev pub Silent : Action → Type 0
Silent Local = Unit {0}
Silent (Read x) = ⊥
Silent (Write x v) = Unit {0}
Silent (Swap x old new) = ⊥
Silent Fence = ⊥

-- the values that the action names are 0 to 255
abbrev pub InBytes : Action → Type 0
InBytes Local = Unit {0}
InBytes (Read x) = Unit {0}
InBytes (Write x v) = v ≤ 255
InBytes (Swap x old new) = (old ≤ 255) × (new ≤ 255)
InBytes Fence = Unit {0}

-- and so in each of the takes
abbrev pub AllInBytes : List Take → Type 0
AllInBytes [] = Unit {0}
AllInBytes (k ∷ ks) = InBytes k.action × AllInBytes ks
