-- The numbers of a shape bound its timestamps.
use Rattle.std.proofs.Common.{◌≡◌, ℕ, ◌≤◌, Some, ap, arith}
use Rattle.memory.specs.declared.shapes.Shape.{Shape}
use Rattle.memory.specs.Choices.{Timely}
use Rattle.memory.specs.ReleaseAcquire.{Config}
use Rattle.memory.specs.Rules.{Message}
use Rattle.memory.specs.Shapes.{shape_by}
use Rattle.memory.proofs.Shapings.{shaped_is}

-- a configuration of a shape, with no timestamp above its ceiling, which is the last of the shape's numbers
module _ (p v n : ℕ) (shape : Shape) (by : shape_by p v n ≡ Some shape) (s : Config) (of : s.shape ≡ shape) (timely : Timely s) where
  ceiling : s.shape.ceiling ≡ n
  ceiling = omega (arith, (shaped_is p v n shape by).2, ap (λ (z : Shape). z.ceiling) of)

  pub message_low : (x t : ℕ) (m : Message) → s.store.pool x t ≡ Some m → t ≤ n
  message_low x t m e = omega (arith, timely.low x t m e, ceiling)

  pub sent_low : (x t : ℕ) (m : Message) → s.store.pool x t ≡ Some m → (y : ℕ) → m.view y ≤ n
  sent_low x t m e y = omega (arith, timely.sent x t m e y, ceiling)

  pub seen_low : (q x : ℕ) → s.store.views q x ≤ n
  seen_low q x = omega (arith, timely.seen q x, ceiling)
