-- Lines: what is read is the text of the numbers, and the text of numbers that fit is read as those.
use Rattle.std.proofs.Common.{◌≡◌, ℕ, zero, suc, ◌+◌, ◌*◌, true, leb, List, [], ◌∷◌, ◌++◌, length, get_or, Some, None, Option, sym, refl, ap, ◌∙◌, subst, arith}
use Rattle.std.proofs.lemmas.Bool.{and_from, le-leb}
use Rattle.std.proofs.lemmas.Bool.Decides.{nat_tests}
use Rattle.text.specs.Lines.{field_text, line_text, Small, all_small, field_number, joined_to, line_numbers, Reads, IsLine}
use Rattle.text.proofs.Fields.{field_read, field_read_back}

pub small_is_all : (ns : List ℕ) → Small ns → all_small ns ≡ true
small_is_all [] h = refl
small_is_all (n ∷ ns) h = and_from (leb n 9999) (all_small ns) (le-leb n 9999 h.0) (small_is_all ns h.1)

pub length_line : (ns : List ℕ) → length (line_text ns) ≡ 4 * length ns + 1
length_line [] = refl
length_line (n ∷ ns) = omega (arith, length_line ns)

-- the byte at the end of a line
pub line_end : (ns : List ℕ) → get_or (line_text ns) (4 * length ns) 0 ≡ 10
line_end [] = refl
line_end (n ∷ ns) = let e : 4 * length (n ∷ ns) ≡ suc (suc (suc (suc (4 * length ns)))) = omega arith in rw e (line_end ns)

-- nothing is not something
apart : {A B : Type 0} {x : A} → None ≡ Some x → B
apart e = let z : ◌≡◌ {A = ℕ} 0 1 = cc in let y : ⊥ = omega arith in absurd y

-- where something is joined, both parts are there
joined_some : (o : Option ℕ) (r : Option (List ℕ)) (ns : List ℕ) → joined_to o r ≡ Some ns → (n : ℕ) × (ms : List ℕ) × (o ≡ Some n) × (r ≡ Some ms) × (n ∷ ms ≡ ns)
joined_some (Some n) (Some ms) ns e = (n, ms, refl, refl, cc)
joined_some (Some n) None ns e = apart e
joined_some None r ns e = apart e

end_read : (f : ℕ) (ns : List ℕ) → line_numbers 0 (f ∷ []) ≡ Some ns → (f ≡ 10) × ([] ≡ ns)
end_read f ns e = grind (arith, nat_tests)

read_told : (k : ℕ) (bytes ns : List ℕ) → line_numbers k bytes ≡ Some ns → IsLine k ns bytes
read_told zero [] ns e = apart e
read_told zero (f ∷ []) ns e =
    let p = end_read f ns e in
    subst (λ (xs : List ℕ). (length xs ≡ 0) × Small xs × (f ∷ [] ≡ line_text xs)) p.1 (refl, tt, ap (λ (g : ℕ). g ∷ []) p.0)
read_told zero (f ∷ (g ∷ bytes)) ns e = apart e
read_told (suc k) [] ns e = apart e
read_told (suc k) (a ∷ []) ns e = apart e
read_told (suc k) (a ∷ (b ∷ [])) ns e = apart e
read_told (suc k) (a ∷ (b ∷ (c ∷ []))) ns e = apart e
read_told (suc k) (a ∷ (b ∷ (c ∷ (d ∷ bytes)))) ns e =
    let p = joined_some (field_number a b c d) (line_numbers k bytes) ns e in
    let n = p.0 in
    let here = field_read a b c d n p.2 in
    let rest = read_told k bytes p.1 p.3 in
    subst (λ (xs : List ℕ). (length xs ≡ suc k) × Small xs × (a ∷ (b ∷ (c ∷ (d ∷ bytes))) ≡ line_text xs)) p.4
    (ap suc rest.0, (here.0, rest.1), ap (λ (xs : List ℕ). xs ++ bytes) here.1 ∙ ap (λ (xs : List ℕ). field_text n ++ xs) rest.2)

pub line_read_back : (ns : List ℕ) → Small ns → line_numbers (length ns) (line_text ns) ≡ Some ns
line_read_back [] h = refl
line_read_back (n ∷ ns) h = ap (λ (o : Option ℕ). joined_to o (line_numbers (length ns) (line_text ns))) (field_read_back n h.0) ∙ ap (λ (r : Option (List ℕ)). joined_to (Some n) r) (line_read_back ns h.1)

-- a line's text reads as its numbers
is_read : (k : ℕ) (bytes ns : List ℕ) → IsLine k ns bytes → line_numbers k bytes ≡ Some ns
is_read k bytes ns h = ap (λ (xs : List ℕ). line_numbers k xs) h.2 ∙ ap (λ (m : ℕ). line_numbers m (line_text ns)) (sym h.0) ∙ line_read_back ns h.1

-- both ways at once, of whatever equals what is read
pub same_reads : (k : ℕ) (bytes : List ℕ) (r : Option (List ℕ)) → r ≡ line_numbers k bytes → Reads k bytes r
same_reads k bytes (Some ns) e = (read_told k bytes ns (sym e), λ ms h. let read = is_read k bytes ms h in cc)
same_reads k bytes None e = λ ns h. apart (e ∙ is_read k bytes ns h)

pub numbers_read : (k : ℕ) (bytes : List ℕ) → Reads k bytes (line_numbers k bytes)
numbers_read k bytes = same_reads k bytes (line_numbers k bytes) refl
