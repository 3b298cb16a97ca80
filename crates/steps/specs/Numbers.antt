-- Numbers as they are written: 1 to 4 decimal digits, with no zero in front of another digit.
use Rattle.std.specs.Prelude.{ℕ, ◌+◌, ◌-◌, ◌*◌, Bool, false, cond, not, ◌&&◌, ◌||◌, List, [], ◌∷◌, length, Some, None, Option, ◌==◌, nat_le}
use Rattle.steps.specs.Chains.{then}

-- the number n and then these digits
abbrev pub digits_from : ℕ → List ℕ → Option ℕ
digits_from n [] = Some n
digits_from n (c ∷ cs) = cond (nat_le 48 c && nat_le c 57) (digits_from (n * 10 + (c - 48)) cs) None

-- whether the length is right, and no zero stands in front
abbrev pub well_begun : List ℕ → Bool
well_begun [] = false
well_begun (c ∷ cs) = nat_le (length (c ∷ cs)) 4 && (not (c == 48) || length cs == 0)

abbrev pub number_of : List ℕ → Option ℕ
number_of w = cond (well_begun w) (digits_from 0 w) None

-- a number from 0 to 255
abbrev pub byte_of : List ℕ → Option ℕ
byte_of w = then (number_of w) (λ n. cond (nat_le n 255) (Some n) None)
