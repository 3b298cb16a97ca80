-- One field: four bytes and the number whose text they are.
use Rattle.std.proofs.Common.{◌≡◌, ℕ, ◌+◌, ◌-◌, ◌*◌, ◌%◌, ◌<◌, ◌≤◌, ◌⊎◌, [], ◌∷◌, Some, inl, inr, arith}
use Rattle.std.proofs.lemmas.Bool.Decides.{nat_tests}
use Rattle.text.specs.Lines.{digit_text, field_text, field_number}

-- four bytes and their number, by how many of the bytes are digits
abbrev Spells : ℕ → ℕ → ℕ → ℕ → ℕ → Type 0
Spells a b c d n =
    ((a ≡ 32) × (b ≡ 32) × (c ≡ 32) × (48 ≤ d) × (d ≤ 57) × (n ≡ d - 48))
    ⊎ (((a ≡ 32) × (b ≡ 32) × (48 < c) × (c ≤ 57) × (48 ≤ d) × (d ≤ 57) × (n ≡ (c - 48) * 10 + (d - 48)))
    ⊎ (((a ≡ 32) × (48 < b) × (b ≤ 57) × (48 ≤ c) × (c ≤ 57) × (48 ≤ d) × (d ≤ 57) × (n ≡ (b - 48) * 100 + (c - 48) * 10 + (d - 48)))
    ⊎ ((48 < a) × (a ≤ 57) × (48 ≤ b) × (b ≤ 57) × (48 ≤ c) × (c ≤ 57) × (48 ≤ d) × (d ≤ 57) × (n ≡ (a - 48) * 1000 + (b - 48) * 100 + (c - 48) * 10 + (d - 48)))))

read_spells : (a b c d n : ℕ) → field_number a b c d ≡ Some n → Spells a b c d n
read_spells a b c d n e = grind (arith, nat_tests)

spells_read : (a b c d n : ℕ) → Spells a b c d n → field_number a b c d ≡ Some n
spells_read a b c d n (inl h) = grind (arith, nat_tests)
spells_read a b c d n (inr (inl h)) = grind (arith, nat_tests)
spells_read a b c d n (inr (inr (inl h))) = grind (arith, nat_tests)
spells_read a b c d n (inr (inr (inr h))) = grind (arith, nat_tests)

spells_text : (a b c d n : ℕ) → Spells a b c d n → (n ≤ 9999) × (a ∷ (b ∷ (c ∷ (d ∷ []))) ≡ field_text n)
spells_text a b c d n h = grind (arith, nat_tests)

text_spells : (n : ℕ) → n ≤ 9999 → Spells (digit_text n 1000) (digit_text n 100) (digit_text n 10) (48 + n % 10) n
text_spells n h = grind (arith, nat_tests)

-- what is read fits a field, and the bytes are its text
pub field_read : (a b c d n : ℕ) → field_number a b c d ≡ Some n → (n ≤ 9999) × (a ∷ (b ∷ (c ∷ (d ∷ []))) ≡ field_text n)
field_read a b c d n e = spells_text a b c d n (read_spells a b c d n e)

-- the text of a number that fits is read as that number
pub field_read_back : (n : ℕ) → n ≤ 9999 → field_number (digit_text n 1000) (digit_text n 100) (digit_text n 10) (48 + n % 10) ≡ Some n
field_read_back n h = spells_read _ _ _ _ n (text_spells n h)
