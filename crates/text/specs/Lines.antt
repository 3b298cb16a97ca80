-- Lines of fields. A field is a number from 0 to 9999 in four bytes, right-justified with spaces and
-- without leading zeros. A line is its fields, one after another, and a byte 10.
use Rattle.std.specs.Prelude.{◌≡◌, ℕ, zero, suc, ◌+◌, ◌-◌, ◌*◌, ◌/◌, ◌%◌, ◌≤◌, Bool, cond, not, ◌&&◌, List, [], ◌∷◌, ◌++◌, length, Some, None, Option, ◌==◌, nat_le, nat_lt}
use Rattle.std.specs.List.{list_all}

-- the byte of n at the digit of weight w: a space where n has no such digit
abbrev pub digit_text : ℕ → ℕ → ℕ
digit_text n w = cond (nat_lt n w) 32 (48 + (n / w) % 10)

abbrev pub field_text : ℕ → List ℕ
field_text n = digit_text n 1000 ∷ (digit_text n 100 ∷ (digit_text n 10 ∷ ((48 + n % 10) ∷ [])))

abbrev pub line_text : List ℕ → List ℕ
line_text [] = 10 ∷ []
line_text (n ∷ ns) = field_text n ++ line_text ns

-- every number fits a field
abbrev pub Small : List ℕ → Type 0
Small [] = Unit {0}
Small (n ∷ ns) = (n ≤ 9999) × Small ns

-- the same as a test
abbrev pub all_small : List ℕ → Bool
all_small ns = list_all (λ n. nat_le n 9999) ns

abbrev pub is_digit : ℕ → Bool
is_digit b = nat_le 48 b && nat_le b 57

abbrev pub when : Bool → ℕ → Option ℕ
when b n = cond b (Some n) None

-- the number whose text four bytes are, if they are one's: by how many of them are digits
abbrev pub field_number : ℕ → ℕ → ℕ → ℕ → Option ℕ
field_number a b c d =
    cond (not (is_digit d)) None
    (cond (c == 32) (when (a == 32 && b == 32) (d - 48))
    (cond (not (is_digit c)) None
    (cond (b == 32) (when (a == 32 && nat_lt 48 c) ((c - 48) * 10 + (d - 48)))
    (cond (not (is_digit b)) None
    (cond (a == 32) (when (nat_lt 48 b) ((b - 48) * 100 + (c - 48) * 10 + (d - 48)))
    (when (is_digit a && nat_lt 48 a) ((a - 48) * 1000 + (b - 48) * 100 + (c - 48) * 10 + (d - 48))))))))

-- a number before the numbers of the rest, if both are there
abbrev pub joined_to : Option ℕ → Option (List ℕ) → Option (List ℕ)
joined_to (Some n) (Some ns) = Some (n ∷ ns)
joined_to (Some n) None = None
joined_to None r = None

-- the numbers of a line of k fields
abbrev pub line_numbers : ℕ → List ℕ → Option (List ℕ)
line_numbers zero [] = None
line_numbers zero (e ∷ []) = cond (e == 10) (Some []) None
line_numbers zero (e ∷ (f ∷ bs)) = None
line_numbers (suc k) [] = None
line_numbers (suc k) (a ∷ []) = None
line_numbers (suc k) (a ∷ (b ∷ [])) = None
line_numbers (suc k) (a ∷ (b ∷ (c ∷ []))) = None
line_numbers (suc k) (a ∷ (b ∷ (c ∷ (d ∷ bs)))) = joined_to (field_number a b c d) (line_numbers k bs)

-- k numbers that fit, and the bytes are their text
abbrev pub IsLine : ℕ → List ℕ → List ℕ → Type 0
IsLine k ns bytes = (length ns ≡ k) × Small ns × (bytes ≡ line_text ns)

-- Reading, both ways: the bytes are the text of the numbers read, and of no others; where nothing is
-- read, they are the text of none.
abbrev pub Reads : ℕ → List ℕ → Option (List ℕ) → Type 0
Reads k bytes (Some ns) = IsLine k ns bytes × ((ms : List ℕ) → IsLine k ms bytes → ms ≡ ns)
Reads k bytes None = (ns : List ℕ) → IsLine k ns bytes → ⊥
