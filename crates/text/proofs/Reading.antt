-- Reading a line field by field.
use Rattle.std.proofs.Common.{◌≡◌, ℕ, zero, suc, ◌+◌, ◌*◌, ◌/◌, ◌%◌, ◌<◌, ◌≤◌, Bool, true, false, not, List, [], ◌∷◌, ◌++◌, length, get_or, take, drop, set, Some, None, Option, sym, refl, ap, ◌∙◌, append_assoc, append-nil, arith}
use Rattle.std.proofs.lemmas.List.{drop_more, drop_all, take_all, take_more_set}
use Rattle.std.proofs.lemmas.Slice.Eq.{bytes_eq-Decides}
use Rattle.std.specs.Bool.{Decides}
use Rattle.std.specs.Simd.{first_chunks}
use Rattle.std.specs.Str.{bytes_eq}
use Rattle.text.specs.Lines.{line_text, field_number, joined_to, line_numbers, Reads}
use Rattle.text.proofs.Lines.{length_line, line_end, numbers_read}

-- k fields are 4 k bytes, and a byte 10 follows them: where that fails, nothing is read
unread_of : (k : ℕ) (bytes : List ℕ) (r : Option (List ℕ)) → Reads k bytes r → (length bytes ≡ 4 * k + 1 → get_or bytes (4 * k) 0 ≡ 10 → ⊥) → None ≡ r
unread_of k bytes (Some ns) h bad =
    let is = h.0 in
    let four : 4 * k ≡ 4 * length ns = omega arith in
    absurd (bad (omega (arith, ap length is.2, length_line ns)) (ap (λ (xs : List ℕ). get_or xs (4 * k) 0) is.2 ∙ ap (λ (m : ℕ). get_or (line_text ns) m 0) four ∙ line_end ns))
unread_of k bytes None h bad = refl

pub unread : (k : ℕ) (bytes : List ℕ) → (length bytes ≡ 4 * k + 1 → get_or bytes (4 * k) 0 ≡ 10 → ⊥) → None ≡ line_numbers k bytes
unread k bytes bad = unread_of k bytes (line_numbers k bytes) (numbers_read k bytes) bad

-- the number of a field's bytes
abbrev pub number_in : List ℕ → Option ℕ
number_in f = field_number (get_or f 0 0) (get_or f 1 0) (get_or f 2 0) (get_or f 3 0)

-- the numbers of fields, if all are there
abbrev pub numbers_in : List (List ℕ) → Option (List ℕ)
numbers_in [] = Some []
numbers_in (f ∷ fs) = joined_to (number_in f) (numbers_in fs)

-- a line's numbers are those of its fields
line_of_fields : (k : ℕ) (bytes : List ℕ) → length bytes ≡ 4 * k + 1 → drop (4 * k) bytes ≡ 10 ∷ [] → numbers_in (first_chunks 4 k bytes) ≡ line_numbers k bytes
line_of_fields zero bytes l h = ap (λ (xs : List ℕ). line_numbers 0 xs) (sym h)
line_of_fields (suc k) [] l h = absurd (omega arith)
line_of_fields (suc k) (a ∷ []) l h = absurd (omega arith)
line_of_fields (suc k) (a ∷ (b ∷ [])) l h = absurd (omega arith)
line_of_fields (suc k) (a ∷ (b ∷ (c ∷ []))) l h = absurd (omega arith)
line_of_fields (suc k) (a ∷ (b ∷ (c ∷ (d ∷ bytes)))) l h =
    let e : 4 * suc k ≡ suc (suc (suc (suc (4 * k)))) = omega arith in
    ap (λ (r : Option (List ℕ)). joined_to (field_number a b c d) r) (line_of_fields k bytes (omega arith) (rw e at h))

pub line_is_fields : (k : ℕ) (bytes end : List ℕ) (fields : List (List ℕ)) → fields ≡ first_chunks 4 (length bytes / 4) bytes → length fields ≡ length bytes / 4 → end ≡ drop (length bytes / 4 * 4) bytes → length end ≡ length bytes % 4 → end ≡ 10 ∷ [] → length fields ≡ k → numbers_in fields ≡ line_numbers k bytes
line_is_fields k bytes end fields f n e m ten long =
    let l : length bytes ≡ 4 * k + 1 = omega (arith, ap length ten) in
    let q : length bytes / 4 ≡ k = omega arith in
    let p : length bytes / 4 * 4 ≡ 4 * k = omega arith in
    let d : drop (4 * k) bytes ≡ 10 ∷ [] = cc in
    let r = line_of_fields k bytes l d in
    cc

-- a byte 10 behind k fields is all that is left behind them
pub ends_there : (k : ℕ) (bytes end : List ℕ) → end ≡ drop (length bytes / 4 * 4) bytes → length bytes ≡ 4 * k + 1 → get_or bytes (4 * k) 0 ≡ 10 → end ≡ 10 ∷ []
ends_there k bytes end e l h =
    let p : length bytes / 4 * 4 ≡ 4 * k = omega arith in
    let m = drop_more bytes (4 * k) 0 (omega arith) in
    let n = drop_all (4 * k + 1) bytes (omega arith) in
    cc

-- what `!=` between byte strings tells
decided : {P : Type 0} (b ne : Bool) → Decides b P → ne ≡ not b → (ne ≡ true → P → ⊥) × (ne ≡ false → P)
decided true ne d e = (λ t p. cc, λ f. d.0 refl)
decided false ne d e = (λ t p. let y = d.1 p in cc, λ f. cc)

pub unequal : (xs ys : List ℕ) (ne : Bool) → ne ≡ not (bytes_eq xs ys) → (ne ≡ true → xs ≡ ys → ⊥) × (ne ≡ false → xs ≡ ys)
unequal xs ys ne e = decided (bytes_eq xs ys) ne (bytes_eq-Decides xs ys) e

-- numbers before those of the rest, if they are there
abbrev pub prepend : List ℕ → Option (List ℕ) → Option (List ℕ)
prepend xs (Some ys) = Some (xs ++ ys)
prepend xs None = None

prepend_joined : (xs : List ℕ) (n : ℕ) (r : Option (List ℕ)) → prepend xs (joined_to (Some n) r) ≡ prepend (xs ++ (n ∷ [])) r
prepend_joined xs n (Some ys) = ap (λ (zs : List ℕ). Some zs) (sym (append_assoc xs (n ∷ []) ys))
prepend_joined xs n None = refl

-- the first i of the numbers, and what the other fields read as
abbrev pub both_at : List (List ℕ) → ℕ → List ℕ → Option (List ℕ)
both_at fields i ns = prepend (take i ns) (numbers_in (drop i fields))

module _ (fields : List (List ℕ)) (i : ℕ) (ns : List ℕ) where
  -- one field on
  both_next : (o : Option ℕ) → i < length fields → o ≡ number_in (get_or fields i []) → prepend (take i ns) (joined_to o (numbers_in (drop (i + 1) fields))) ≡ both_at fields i ns
  both_next o h e =
      ap (λ (x : Option ℕ). prepend (take i ns) (joined_to x (numbers_in (drop (i + 1) fields)))) e
      ∙ ap (λ (fs : List (List ℕ)). prepend (take i ns) (numbers_in fs)) (sym (drop_more fields i [] h))

  -- a field that is no number's text leaves nothing
  pub both_stop : i < length fields → None ≡ number_in (get_or fields i []) → None ≡ both_at fields i ns
  both_stop h e = both_next None h e

  pub both_more : (n : ℕ) → i < length fields → i < length ns → Some n ≡ number_in (get_or fields i []) → both_at fields (i + 1) (set ns i n) ≡ both_at fields i ns
  both_more n h l e =
      ap (λ (xs : List ℕ). prepend xs (numbers_in (drop (i + 1) fields))) (take_more_set ns i n l)
      ∙ sym (prepend_joined (take i ns) n (numbers_in (drop (i + 1) fields)))
      ∙ both_next (Some n) h e

  pub both_all : length fields ≤ i → length ns ≤ i → Some ns ≡ both_at fields i ns
  both_all h l =
      let d = drop_all i fields h in
      sym (ap (λ (fs : List (List ℕ)). prepend (take i ns) (numbers_in fs)) d ∙ ap (λ (xs : List ℕ). Some xs) (append-nil (take i ns) ∙ take_all i ns l))
