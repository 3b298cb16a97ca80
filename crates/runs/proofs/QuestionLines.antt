-- A question line that is read is that of the wish, and the line of a wish is read as that wish.
use Rattle.std.proofs.Common.{◌≡◌, ℕ, ◌+◌, ◌<◌, ◌≤◌, ◌%◌, inl, inr, Bool, true, false, cond, ◌==◌, List, [], ◌∷◌, length, get_or, take, drop, set, Some, None, Option, refl, sym, ap, ◌∙◌, subst, slice_index, arith}
use Rattle.std.proofs.lemmas.Bool.{eq-eqb, eqb-true, both_ways}
use Rattle.std.proofs.lemmas.List.{get_or-take, get_or-drop, get_or-set_same, get_or-set_other, set-set, set-get_or, length-take, length-drop}
use Rattle.std.proofs.lemmas.List.Folds.{list_all_at}
use Rattle.std.specs.List.{list_all}
use Rattle.std.proofs.lemmas.Bool.Decides.{nat_tests}
use Rattle.text.specs.Lines.{digit_text, line_text, Small, line_numbers, Reads}
use Rattle.text.proofs.Lines.{numbers_read, line_read_back, length_line}
use Rattle.memory.specs.declared.kinds.Kind.{Kind}
use Rattle.memory.specs.declared.kinds.Kind.TheVariants.{Sequential, ReleaseAcquire}
use Rattle.runs.specs.declared.lines.Wish.{Wish}
use Rattle.runs.specs.Lines.{kind_of, is_blank, filled, wish_for, wish_by, wish_of}
use Rattle.runs.specs.QuestionLines.{memory_number, numbers_of, Fits, full_line, blank_line, LineOf, Says}

-- four targets, one by one
four : (ts : List ℕ) → length ts ≡ 4 → slice_index ts 0 ∷ (slice_index ts 1 ∷ (slice_index ts 2 ∷ (slice_index ts 3 ∷ []))) ≡ ts
four [] e = absurd (omega arith)
four (a ∷ []) e = absurd (omega arith)
four (a ∷ (b ∷ [])) e = absurd (omega arith)
four (a ∷ (b ∷ (c ∷ []))) e = absurd (omega arith)
four (a ∷ (b ∷ (c ∷ (d ∷ [])))) e = refl
four (a ∷ (b ∷ (c ∷ (d ∷ (x ∷ xs))))) e = absurd (omega arith)

-- a field that ends in a digit is not blank
ends : (a b c n : ℕ) → list_all (λ d. d == 32) (a ∷ (b ∷ (c ∷ ((48 + n % 10) ∷ [])))) ≡ false
ends a b c n = grind (arith, nat_tests)

-- so filling leaves the line of a wish
full_not_blank : (w : Wish) → is_blank (full_line w) ≡ false
full_not_blank w = ends (digit_text w.switches 1000) (digit_text w.switches 100) (digit_text w.switches 10) w.switches

full_filled : (w : Wish) → filled (full_line w) ≡ full_line w
full_filled w = ap (λ b. cond b (set (full_line w) 11 50) (full_line w)) (full_not_blank w)

-- and makes it of the one with a blank third field
blank_filled : (w : Wish) → w.switches ≡ 2 → filled (blank_line w) ≡ full_line w
blank_filled w e = sym (ap (λ k. line_text (memory_number w.memory ∷ (w.steps ∷ (k ∷ w.targets)))) e)

length_full : (w : Wish) → length w.targets ≡ 4 → length (full_line w) ≡ 29
length_full w long = omega (arith, length_line w.targets)

length_blank : (w : Wish) → length w.targets ≡ 4 → length (blank_line w) ≡ 29
length_blank w long = omega (arith, length_line w.targets)

-- a wish's line, filled, is the line of its numbers
filled_is : (w : Wish) (line : List ℕ) → LineOf w line → (length line ≡ 29) × (filled line ≡ full_line w)
filled_is w line (fits, inl e) = (ap length e ∙ length_full w fits.0, ap filled e ∙ full_filled w)
filled_is w line (fits, inr (two, e)) = (ap length e ∙ length_blank w fits.0, ap filled e ∙ blank_filled w two)

kinds : (k : Kind) → kind_of (memory_number k) ≡ Some k
kinds Sequential = refl
kinds ReleaseAcquire = refl

-- a wish's numbers wish for it
wished : (w : Wish) → length w.targets ≡ 4 → wish_by (Some (numbers_of w)) ≡ Some w
wished w long =
    ap (λ k. wish_for k (numbers_of w)) (kinds w.memory) ∙ ap (λ ts. Some (record w { targets = ts })) (four w.targets long)

-- and so the line of a wish is read as that wish
read_as : (w : Wish) (line : List ℕ) → LineOf w line → wish_of line ≡ Some w
read_as w line h =
    let f = filled_is w line h in
    let seven : length (numbers_of w) ≡ 7 = omega (arith, h.0.0) in
    let back : line_numbers 7 (line_text (numbers_of w)) ≡ Some (numbers_of w) =
    ap (λ k. line_numbers k (line_text (numbers_of w))) (sym seven) ∙ line_read_back (numbers_of w) h.0.1 in
    ap (λ b. cond b (wish_by (line_numbers 7 (filled line))) None) (eq-eqb (length line) 29 f.0)
    ∙ ap (λ l. wish_by (line_numbers 7 l)) f.1 ∙ ap wish_by back ∙ wished w h.0.0

-- where all are spaces, each is
is_space : (xs : List ℕ) (i : ℕ) (b : Bool) → i < length xs → list_all (λ d. d == 32) xs ≡ true
    → (get_or xs i 0 == 32) ≡ b → get_or xs i 0 ≡ 32
is_space xs i true h all e = eqb-true (get_or xs i 0) 32 e
is_space xs i false h all e = absurd (both_ways (list_all (λ d. d == 32) xs) (list_all_at (λ d. d == 32) xs i 0 h e) all)

-- the bytes of a blank field are spaces
space_at : (line : List ℕ) (i : ℕ) → i < 4 → 12 ≤ length line → is_blank line ≡ true → get_or line (8 + i) 0 ≡ 32
space_at line i h long all =
    let field = take 4 (drop 8 line) in
    let at : get_or field i 0 ≡ get_or line (8 + i) 0 = get_or-take 4 (drop 8 line) i 0 h ∙ get_or-drop 8 line i 0 in
    let in_field : i < length field = omega (arith, length-take 4 (drop 8 line), length-drop 8 line) in
    sym at ∙ is_space field i (get_or field i 0 == 32) in_field all refl

-- the only number below ten whose last digit is 2
two_of : (n : ℕ) → digit_text n 10 ≡ 32 → 48 + n % 10 ≡ 50 → n ≡ 2
two_of n e f = grind (arith, nat_tests)

-- what is filled to a line of numbers is that line, or the same with a blank third field
back_of : (b : Bool) (line : List ℕ) (w : Wish) → is_blank line ≡ b → Fits w → length line ≡ 29 → filled line ≡ full_line w
    → LineOf w line
back_of false line w is fits long e = (fits, inl (sym (ap (λ c. cond c (set line 11 50) line) is) ∙ e))
back_of true line w is fits long e =
    let put : set line 11 50 ≡ full_line w = sym (ap (λ c. cond c (set line 11 50) line) is) ∙ e in
    let tens : digit_text w.switches 10 ≡ 32 =
    sym (ap (λ l. get_or l 10 0) put) ∙ get_or-set_other line 11 10 50 0 (λ q. omega arith) ∙ space_at line 2 (omega arith) (omega arith) is in
    let last : 48 + w.switches % 10 ≡ 50 = sym (ap (λ l. get_or l 11 0) put) ∙ get_or-set_same line 11 50 0 (omega arith) in
    let two : w.switches ≡ 2 = two_of w.switches tens last in
    let old : set (set line 11 50) 11 32 ≡ line =
    set-set line 11 50 32 ∙ ap (set line 11) (sym (space_at line 3 (omega arith) (omega arith) is)) ∙ set-get_or line 11 0 in
    let new : set (full_line w) 11 32 ≡ blank_line w =
    ap (λ k. set (line_text (memory_number w.memory ∷ (w.steps ∷ (k ∷ w.targets)))) 11 32) two in
    (fits, inr (two, sym old ∙ ap (λ l. set l 11 32) put ∙ new))

-- a memory has its number
number_of : (m : Kind) (n : ℕ) (zeroth first : Bool) → (n == 0) ≡ zeroth → (n == 1) ≡ first
    → cond zeroth (Some Sequential) (cond first (Some ReleaseAcquire) None) ≡ Some m → memory_number m ≡ n
number_of m n true first z f e = let is : m ≡ Sequential = cc in ap memory_number is ∙ sym (eqb-true n 0 z)
number_of m n false true z f e = let is : m ≡ ReleaseAcquire = cc in ap memory_number is ∙ sym (eqb-true n 1 f)
number_of m n false false z f e = cc

-- seven numbers, one by one
seven : (ns : List ℕ) → length ns ≡ 7
    → slice_index ns 0 ∷ (slice_index ns 1 ∷ (slice_index ns 2 ∷ (slice_index ns 3 ∷ (slice_index ns 4 ∷ (slice_index ns 5 ∷ (slice_index ns 6 ∷ [])))))) ≡ ns
seven [] e = absurd (omega arith)
seven (a ∷ []) e = absurd (omega arith)
seven (a ∷ (b ∷ [])) e = absurd (omega arith)
seven (a ∷ (b ∷ (c ∷ ds))) e = ap (λ xs. a ∷ (b ∷ (c ∷ xs))) (four ds (omega arith))

-- numbers that wish for something are those of the wish
of_numbers : (k : Option Kind) (ns : List ℕ) (w : Wish) → length ns ≡ 7 → kind_of (slice_index ns 0) ≡ k → wish_for k ns ≡ Some w
    → (length w.targets ≡ 4) × (numbers_of w ≡ ns)
of_numbers (Some m) ns w long is e =
    let n = slice_index ns 0 in
    let first : memory_number m ≡ n = number_of m n (n == 0) (n == 1) refl refl is in
    let rest = λ (k : ℕ). k ∷ (slice_index ns 1 ∷ (slice_index ns 2 ∷ (slice_index ns 3 ∷ (slice_index ns 4 ∷ (slice_index ns 5 ∷ (slice_index ns 6 ∷ [])))))) in
    let made : Wish = record {
      memory = m;
      steps = slice_index ns 1;
      switches = slice_index ns 2;
      targets = slice_index ns 3 ∷ (slice_index ns 4 ∷ (slice_index ns 5 ∷ (slice_index ns 6 ∷ [])));
    } in
    let same : made ≡ w = cc in
    subst (λ v. (length v.targets ≡ 4) × (numbers_of v ≡ ns)) same (refl, ap rest first ∙ seven ns long)
of_numbers None ns w long is e = cc

-- by the numbers that a line was read as
of_line : (r : Option (List ℕ)) (line : List ℕ) (w : Wish) → length line ≡ 29 → Reads 7 (filled line) r → wish_by r ≡ Some w
    → LineOf w line
of_line (Some ns) line w long reads e =
    let p = of_numbers (kind_of (slice_index ns 0)) ns w reads.0.0 refl e in
    back_of (is_blank line) line w refl (p.0, subst Small (sym p.1) reads.0.1) long (reads.0.2 ∙ ap line_text (sym p.1))
of_line None line w long reads e = cc

of_long : (long : Bool) (line : List ℕ) (w : Wish) → (length line == 29) ≡ long
    → cond long (wish_by (line_numbers 7 (filled line))) None ≡ Some w → LineOf w line
of_long true line w is e = of_line (line_numbers 7 (filled line)) line w (eqb-true (length line) 29 is) (numbers_read 7 (filled line)) e
of_long false line w is e = cc

-- a line that is read is the line of the wish
read_told : (line : List ℕ) (w : Wish) → wish_of line ≡ Some w → LineOf w line
read_told line w e = of_long (length line == 29) line w refl e

-- both ways at once, of whatever equals what the line wishes for
pub says : (line : List ℕ) (r : Option Wish) → r ≡ wish_of line → Says line r
says line (Some w) e = (read_told line w (sym e), λ v h. let read = read_as v line h in cc)
says line None e = λ w h. let read = read_as w line h in cc

-- a wish's line has 29 bytes
pub line_long : (w : Wish) (line : List ℕ) → LineOf w line → length line ≡ 29
line_long w line h = (filled_is w line h).0

-- a line of another length is that of no wish
pub other_length : (line : List ℕ) → (length line ≡ 29 → ⊥) → Says line None
other_length line ne = λ w h. ne (filled_is w line h).0
