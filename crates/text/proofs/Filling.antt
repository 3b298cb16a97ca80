-- Writing a line field by field.
use Rattle.std.proofs.Common.{◌≡◌, ℕ, ◌+◌, ◌*◌, ◌<◌, ◌≤◌, true, List, [], ◌∷◌, ◌++◌, length, get_or, take, drop, set, Ok, Err, refl, ap, ◌∙◌, append_assoc, arith}
use Rattle.std.specs.List.{flat_map}
use Rattle.std.proofs.lemmas.List.{length-take-le, take_all, set_at, drop_more}
use Rattle.std.proofs.lemmas.Bool.Decides.{nat_tests}
use Rattle.text.specs.declared.Unwritten.TheVariants.{Short}
use Rattle.text.specs.Lines.{field_text, line_text, all_small}
use Rattle.text.specs.Writing.{over, written}
use Rattle.text.proofs.Lines.{length_line}

-- the texts of the first i numbers, and the rest of the buffer as it was
abbrev pub filled : List ℕ → ℕ → List ℕ → List ℕ
filled ns i out = flat_map field_text (take i ns) ++ drop (4 * i) out

length_fields : (ns : List ℕ) → length (flat_map field_text ns) ≡ 4 * length ns
length_fields [] = refl
length_fields (n ∷ ns) = omega (arith, length_fields ns)

line_is : (ns : List ℕ) → flat_map field_text ns ++ (10 ∷ []) ≡ line_text ns
line_is [] = refl
line_is (n ∷ ns) = ap (λ (bs : List ℕ). field_text n ++ bs) (line_is ns)

pub written_short : (ns out : List ℕ) → all_small ns ≡ true → length out ≤ 4 * length ns → (Err Short, out) ≡ written ns out
written_short ns out s h = let e = length_line ns in grind (arith, nat_tests)

written_line : (ns out : List ℕ) → all_small ns ≡ true → 4 * length ns < length out → (Ok (4 * length ns + 1), over (line_text ns) out) ≡ written ns out
written_line ns out s h = let e = length_line ns in grind (arith, nat_tests)

module _ (ns : List ℕ) (i : ℕ) (out xs : List ℕ) (so_far : xs ≡ filled ns i out) (within : i ≤ length ns) (fits : 4 * length ns < length out) where
  front : length (flat_map field_text (take i ns)) ≡ 4 * i
  front = length_fields (take i ns) ∙ ap (λ (m : ℕ). 4 * m) (length-take-le i ns within)

  filled_all : length ns ≡ i → set xs (4 * length ns) 10 ≡ over (line_text ns) out
  filled_all h =
      let before = flat_map field_text (take i ns) in
      let t : take i ns ≡ ns = take_all i ns (omega arith) in
      let d = drop_more out (4 * i) 0 (omega arith) in
      let e = set_at before (get_or out (4 * i) 0) (drop (4 * i + 1) out) 10 (4 * i) front in
      let a = append_assoc before (10 ∷ []) (drop (4 * i + 1) out) in
      let l = line_is ns in
      let m : 4 * i + 1 ≡ length (line_text ns) = omega (arith, length_line ns) in
      cc

  pub written_all : all_small ns ≡ true → length ns ≡ i → (Ok (4 * length ns + 1), set xs (4 * length ns) 10) ≡ written ns out
  written_all s h = ap (λ (ys : List ℕ). (Ok (4 * length ns + 1), ys)) (filled_all h) ∙ written_line ns out s fits
