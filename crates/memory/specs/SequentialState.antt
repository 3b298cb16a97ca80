-- What the struct of the sequential memory stands for.
use Rattle.std.specs.Prelude.{ℕ, List, slice_index}
use Rattle.memory.specs.declared.sequential.Sequential.{Sequential}
use Rattle.memory.specs.Sequential.{Config}

abbrev pub values_of : List ℕ → ℕ → ℕ
values_of vs = λ x. slice_index vs x

abbrev pub config : Sequential → Config
config s = record { shape = s.shape; values = values_of s.values; last = s.last }
