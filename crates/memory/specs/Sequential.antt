-- The sequential memory: one value for each variable, and the process of the step before.
use Rattle.std.specs.Prelude.{ℕ, Bool, true, false, cond, not, ◌&&◌, Some, None, Option, ◌==◌}
use Rattle.memory.specs.declared.actions.Action.{Action}
use Rattle.memory.specs.declared.actions.Action.TheVariants.{Local, Read, Write, Swap, Fence}
use Rattle.memory.specs.declared.shapes.Shape.{Shape}
use Rattle.memory.specs.Shapes.{is_process, is_variable}
use Rattle.memory.specs.Updates.{update}
use Rattle.memory.specs.Machine.{Machine, Step}

-- `last` is the process of the step before, if there was one.
pub record Config : Type 0 where
  pub shape : Shape
  pub values : ℕ → ℕ
  pub last : Option ℕ

abbrev pub initial : Shape → Config
initial shape = record { shape = shape; values = λ x. 0; last = None }

abbrev pub allowed : Config → Action → Bool
allowed s Local = true
allowed s (Read x) = is_variable s.shape x
allowed s (Write x v) = is_variable s.shape x
allowed s (Swap x old new) = is_variable s.shape x && s.values x == old
allowed s Fence = false

abbrev pub offer : Config → ℕ → Action → ℕ
offer s p a = cond (is_process s.shape p && allowed s a) 1 0

abbrev pub written : Config → Action → ℕ → ℕ
written s Local = s.values
written s (Read x) = s.values
written s (Write x v) = update s.values x v
written s (Swap x old new) = update s.values x new
written s Fence = s.values

abbrev pub seen : Config → Action → ℕ
seen s Local = 0
seen s (Read x) = s.values x
seen s (Write x v) = 0
seen s (Swap x old new) = s.values x
seen s Fence = 0

-- whether there was a step before, and it was another process's than p's
abbrev pub is_others : Option ℕ → ℕ → Bool
is_others (Some q) p = not (q == p)
is_others None p = false

abbrev pub switched : Config → ℕ → Bool
switched s p = is_others s.last p

abbrev pub step : Config → ℕ → Action → ℕ → Step Config
step s p a c = record {
  next = record { shape = s.shape; values = written s a; last = Some p };
  value = seen s a;
  mark = switched s p;
}

abbrev pub machine : Machine Config
machine = record { initial = initial; offer = offer; step = step }
