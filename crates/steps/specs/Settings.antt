-- The memory and the shape, which the first two lines give.
use Rattle.std.specs.Prelude.{ℕ, cond, List, [], ◌∷◌, length, Some, None, Ok, Err, codes, Option, Result, ◌==◌}
use Rattle.std.specs.Option.{ok_or}
use Rattle.std.specs.Str.{bytes_eq}
use Rattle.memory.specs.declared.shapes.Shape.{Shape}
use Rattle.memory.specs.Shapes.{shape_by}
use Rattle.memory.specs.declared.kinds.Kind.{Kind}
use Rattle.memory.specs.declared.kinds.Kind.TheVariants.{Sequential, ReleaseAcquire}
use Rattle.steps.specs.declared.settings.Setting.{Setting}
use Rattle.steps.specs.declared.settings.Failing.{Failing}
use Rattle.steps.specs.declared.settings.Failing.TheVariants.{NoMemory, NoShape, At}
use Rattle.steps.specs.declared.wrongs.Wrong.TheVariants.{Memory, Shape as UnreadShape}
use Rattle.steps.specs.Chains.{then, onward}
use Rattle.steps.specs.Cutting.{word_after, Numbered}
use Rattle.steps.specs.Numbers.{byte_of}

abbrev pub kind_of : List ℕ → Option Kind
kind_of l =
    cond (bytes_eq l (codes "sequential")) (Some Sequential)
    (cond (bytes_eq l (codes "release-acquire")) (Some ReleaseAcquire) None)

-- each name, then its number
abbrev pub shape_of : List ℕ → Option Shape
shape_of l =
    then (word_after (codes "processes ") byte_of l) (λ p.
    then (word_after (codes " variables ") byte_of p.1) (λ v.
    then (word_after (codes " ceiling ") byte_of v.1) (λ n.
    cond (length n.1 == 0) (shape_by p.0 v.0 n.0) None)))

abbrev pub shape_after : Kind → List Numbered → Result (Setting × List Numbered) Failing
shape_after k [] = Err NoShape
shape_after k (l ∷ ls) =
    onward (ok_or (shape_of l.bytes) (At l.number UnreadShape)) (λ s. Ok (record { kind = k; shape = s }, ls))

-- the setting, and the lines that follow it
abbrev pub setting_of : List Numbered → Result (Setting × List Numbered) Failing
setting_of [] = Err NoMemory
setting_of (l ∷ ls) = onward (ok_or (kind_of l.bytes) (At l.number Memory)) (λ k. shape_after k ls)
