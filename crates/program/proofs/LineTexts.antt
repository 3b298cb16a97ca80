-- The lines of a text and their numbers.
use Rattle.std.proofs.Common.{◌≡◌, ℕ, zero, suc, ◌+◌, ◌*◌, ◌/◌, ◌%◌, ◌≤◌, Bool, true, cond, ◌&&◌, eqb, leb, List, [], ◌∷◌, ◌++◌, length, take, drop, Some, Ok, Err, Option, Result, sym, refl, ap, ◌∙◌, subst, ap₂, arith}
use Rattle.std.proofs.lemmas.Bool.{and_parts, and_from, eqb-true, eq-eqb, leb-true, le-leb}
use Rattle.std.proofs.lemmas.List.{length-append, length-drop, take-append-drop, take_at, drop_at, nil_from_length}
use Rattle.std.specs.Option.{ok_or}
use Rattle.std.specs.List.{AllByRecursion}
use Rattle.text.specs.Lines.{line_text, line_numbers, Reads}
use Rattle.text.proofs.Lines.{length_line, numbers_read, line_read_back}
use Rattle.program.specs.Program.{lines_text, within, Six}
use Rattle.program.specs.Reading.{cons_to, then_do, lines, count_or, numbers_or, lines_or}
use Rattle.program.proofs.Outcomes.{cons_ok, then_ok, or_ok, cond_ok}

-- the numbers read are those whose lines the text is
pub line_is : (b f : List ℕ) → line_numbers 6 b ≡ Some f → Six f × (b ≡ line_text f)
line_is b f e = let r = subst (Reads 6 b) e (numbers_read 6 b) in ((r.0.0, r.0.1), r.0.2)

pub length_lines : (fs : List (List ℕ)) → AllByRecursion Six fs → length (lines_text fs) ≡ 25 * length fs
length_lines [] a = refl
length_lines (f ∷ fs) a = length-append (line_text f) (lines_text fs) ∙ omega (arith, length_line f, a.0.0, length_lines fs a.1)

module _ {E : Type 0} (wrong : ℕ → E) where
  numbers_are : (n i : ℕ) (text : List ℕ) (fs : List (List ℕ)) → length text ≡ 25 * n → numbers_or wrong i (lines n text) ≡ Ok fs → AllByRecursion Six fs × (text ≡ lines_text fs) × (length fs ≡ n)
  numbers_are zero i text fs h e =
      let none : [] ≡ fs = cc in
      subst (λ (z : List (List ℕ)). AllByRecursion Six z × (text ≡ lines_text z) × (length z ≡ 0)) none (tt, nil_from_length text h, refl)
  numbers_are (suc n) i text fs h e =
      let c = cons_ok (ok_or (line_numbers 6 (take 25 text)) (wrong i)) (numbers_or wrong (i + 1) (lines n (drop 25 text))) fs e in
      let f = c.0 in
      let rest = c.1 in
      let one = line_is (take 25 text) f (or_ok (line_numbers 6 (take 25 text)) (wrong i) f c.2) in
      let more = numbers_are n (i + 1) (drop 25 text) rest (length-drop 25 text ∙ omega arith) c.3 in
      let whole : text ≡ line_text f ++ lines_text rest = sym (take-append-drop 25 text) ∙ ap₂ (λ (a b : List ℕ). a ++ b) one.1 more.1 in
      subst (λ (z : List (List ℕ)). AllByRecursion Six z × (text ≡ lines_text z) × (length z ≡ suc n)) (sym c.4) ((one.0, more.0), whole, ap suc more.2)

  -- reading lines gives their numbers back
  numbers_back : (fs : List (List ℕ)) (i : ℕ) → AllByRecursion Six fs → numbers_or wrong i (lines (length fs) (lines_text fs)) ≡ Ok fs
  numbers_back [] i a = refl
  numbers_back (f ∷ fs) i a =
      let long : length (line_text f) ≡ 25 = length_line f ∙ omega (arith, a.0.0) in
      let first : line_numbers 6 (line_text f) ≡ Some f = ap (λ (k : ℕ). line_numbers k (line_text f)) (sym a.0.0) ∙ line_read_back f a.0.1 in
      ap (λ (b : List ℕ). cons_to (ok_or (line_numbers 6 b) (wrong i)) (numbers_or wrong (i + 1) (lines (length fs) (drop 25 (line_text f ++ lines_text fs))))) (take_at (line_text f) (lines_text fs) 25 long)
      ∙ ap (λ (b : List ℕ). cons_to (ok_or (line_numbers 6 (line_text f)) (wrong i)) (numbers_or wrong (i + 1) (lines (length fs) b))) (drop_at (line_text f) (lines_text fs) 25 long)
      ∙ ap (λ (o : Option (List ℕ)). cons_to (ok_or o (wrong i)) (numbers_or wrong (i + 1) (lines (length fs) (lines_text fs)))) first
      ∙ ap (λ (r : Result (List (List ℕ)) E). cons_to (Ok f) r) (numbers_back fs (i + 1) a.1)

module _ {E : Type 0} (low high : ℕ) (e : E) where
  -- a text has so many lines just where its length is theirs and so many are allowed
  pub count_is : (text : List ℕ) (n : ℕ) → count_or low high e text ≡ Ok n → (length text ≡ 25 * n) × (low ≤ n) × (n ≤ high)
  count_is text n h =
      let t = cond_ok (eqb (length text % 25) 0 && within low high (length text / 25)) (Ok (length text / 25)) e n h in
      let u = and_parts (eqb (length text % 25) 0) (within low high (length text / 25)) t.0 in
      let v = and_parts (leb low (length text / 25)) (leb (length text / 25) high) u.1 in
      let whole = eqb-true (length text % 25) 0 u.0 in
      let same : length text / 25 ≡ n = let k = t.1 in cc in
      (omega arith, omega (arith, leb-true low (length text / 25) v.0), omega (arith, leb-true (length text / 25) high v.1))

  -- the other way
  pub count_back : (text : List ℕ) (n : ℕ) → length text ≡ 25 * n → low ≤ n → n ≤ high → count_or low high e text ≡ Ok n
  count_back text n h least most =
      let whole : length text % 25 ≡ 0 = omega arith in
      let same : length text / 25 ≡ n = omega arith in
      let good : (eqb (length text % 25) 0 && within low high (length text / 25)) ≡ true = and_from _ _ (eq-eqb (length text % 25) 0 whole) (and_from _ _ (le-leb low (length text / 25) (omega arith)) (le-leb (length text / 25) high (omega arith))) in
      ap (λ (t : Bool). cond t (Ok (length text / 25)) (Err e)) good ∙ ap Ok same

  module _ (wrong : ℕ → E) where
    -- a text is read as the numbers whose lines it is
    pub lines_are : (text : List ℕ) (fs : List (List ℕ)) → lines_or low high e wrong text ≡ Ok fs → AllByRecursion Six fs × (text ≡ lines_text fs) × (low ≤ length fs) × (length fs ≤ high)
    lines_are text fs h =
        let a = then_ok (count_or low high e text) (λ n. numbers_or wrong 1 (lines n text)) fs h in
        let b = count_is text a.0 a.1 in
        let c = numbers_are wrong a.0 1 text fs b.0 a.2 in
        (c.0, c.1, omega (arith, b.1, c.2), omega (arith, b.2, c.2))

    -- and such a text is read as those
    pub lines_back : (fs : List (List ℕ)) → AllByRecursion Six fs → low ≤ length fs → length fs ≤ high → lines_or low high e wrong (lines_text fs) ≡ Ok fs
    lines_back fs six least most =
        ap (λ (r : Result ℕ E). then_do r (λ n. numbers_or wrong 1 (lines n (lines_text fs)))) (count_back (lines_text fs) (length fs) (length_lines fs six) least most)
        ∙ numbers_back wrong fs 1 six
