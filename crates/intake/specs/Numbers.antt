-- The number that a word writes.
use Rattle.std.specs.Prelude.{◌≡◌, ℕ, ◌^◌, ◌<◌, List}
use Rattle.std.specs.Str.Parse.{without_leading_plus, IsNumeral, digits_value}

-- decimal digits, perhaps after a plus, whose value is below 2 to the 32nd
abbrev pub IsNumber : List ℕ → Type 0
IsNumber word = IsNumeral 10 (without_leading_plus word) × (digits_value 10 (without_leading_plus word) < 2 ^ 32)

abbrev pub number_of : List ℕ → ℕ
number_of word = digits_value 10 (without_leading_plus word)

pub record WordOr (word : List ℕ) (other n : ℕ) : Type 0 where
  pub number : IsNumber word → n ≡ number_of word
  pub none : (IsNumber word → ⊥) → n ≡ other
