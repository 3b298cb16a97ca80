-- What the sequential memory offers and does, in the words of its rules.
use Rattle.std.specs.Prelude.{◌≡◌, ℕ, ◌≤◌, true, ◌↔◌, Some, Ok, Err, Result, ◌≢◌}
use Rattle.memory.specs.declared.actions.Action.{Action}
use Rattle.memory.specs.declared.actions.Action.TheVariants.{Local, Read, Write, Swap, Fence}
use Rattle.memory.specs.declared.actions.NotOffered.{NotOffered}
use Rattle.memory.specs.declared.actions.Seen.{Seen}
use Rattle.memory.specs.Shapes.{Inside}
use Rattle.memory.specs.Sequential.{Config}

-- what is asked of the variable: for Swap that it holds the old value; a fence never is
abbrev pub Ready : Config → Action → Type 0
Ready s Local = Unit {0}
Ready s (Read x) = Unit {0}
Ready s (Write x v) = Unit {0}
Ready s (Swap x old new) = s.values x ≡ old
Ready s Fence = ⊥

abbrev pub May : Config → ℕ → Action → Type 0
May s p a = Inside s.shape p a × Ready s a

-- one choice where the rule allows the step, else none
pub record Offers (s : Config) (p : ℕ) (a : Action) (n : ℕ) : Type 0 where
  pub one : May s p a → n ≡ 1
  pub none : (May s p a → ⊥) → n ≡ 0

-- every variable holds in u what it holds in s
abbrev pub Keeps : Config → Config → Type 0
Keeps s u = (y : ℕ) → u.values y ≡ s.values y

-- x holds v in u, and every other variable what it holds in s
abbrev pub Gets : Config → ℕ → ℕ → Config → Type 0
Gets s x v u = (u.values x ≡ v) × ((y : ℕ) → (y ≢ x) → u.values y ≡ s.values y)

-- the action leads from s to u, and the value w is seen
abbrev pub Does : Config → Action → Config → ℕ → Type 0
Does s Local u w = Keeps s u × (w ≡ 0)
Does s (Read x) u w = Keeps s u × (w ≡ s.values x)
Does s (Write x v) u w = Gets s x v u × (w ≡ 0)
Does s (Swap x old new) u w = (s.values x ≡ old) × Gets s x new u × (w ≡ old)
Does s Fence u w = ⊥

pub record Steps (s : Config) (p : ℕ) (a : Action) (c : ℕ) (u : Config) (seen : Seen) : Type 0 where
  pub may : May s p a
  pub only : c ≡ 0
  pub does : Does s a u seen.value
  pub shape : u.shape ≡ s.shape
  pub last : u.last ≡ Some p
  -- there was a step before, and it was another process's
  pub switch : (seen.switch ≡ true) ↔ ((q : ℕ) × (s.last ≡ Some q) × (q ≢ p))

pub record Stays (s : Config) (p : ℕ) (a : Action) (c : ℕ) (u : Config) (f : NotOffered) : Type 0 where
  pub told : Offers s p a f.offered
  pub beyond : f.offered ≤ c
  pub same : u ≡ s

abbrev pub Takes : Config → ℕ → Action → ℕ → Config → Result Seen NotOffered → Type 0
Takes s p a c u (Ok seen) = Steps s p a c u seen
Takes s p a c u (Err f) = Stays s p a c u f
