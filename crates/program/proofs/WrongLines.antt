-- A text that is not read in lines is wrong in the way that the refusal says.
use Rattle.std.proofs.Common.{◌≡◌, ℕ, zero, suc, ◌+◌, ◌*◌, ◌/◌, ◌%◌, ◌&&◌, eqb, List, [], ◌∷◌, ◌++◌, length, take, drop, Some, None, Ok, Err, sym, ap, ap₂, ◌∙◌, subst, inl, inr, arith}
use Rattle.std.proofs.lemmas.List.{append_assoc, length-take-le, length-drop, take-append-drop}
use Rattle.std.specs.Option.{ok_or}
use Rattle.std.specs.List.{AllByRecursion}
use Rattle.text.specs.Lines.{line_text, line_numbers}
use Rattle.text.proofs.Lines.{line_read_back}
use Rattle.program.specs.Fields.{WrongLength, WrongField}
use Rattle.program.specs.Program.{Six, lines_text, within}
use Rattle.program.specs.Reading.{lines, count_or, numbers_or, lines_or}
use Rattle.program.proofs.LineTexts.{line_is, count_is, count_back}
use Rattle.program.proofs.Outcomes.{cons_err, then_err, or_ok, or_err, cond_err, not_both}

-- a line before others
front : (text f : List ℕ) (before : List (List ℕ)) (more : List ℕ) → take 25 text ≡ line_text f → drop 25 text ≡ lines_text before ++ more
    → text ≡ lines_text (f ∷ before) ++ more
front text f before more first later =
    let parts : text ≡ take 25 text ++ drop 25 text = sym (take-append-drop 25 text) in
    let lines : take 25 text ++ drop 25 text ≡ line_text f ++ (lines_text before ++ more) = ap₂ (λ (a b : List ℕ). a ++ b) first later in
    parts ∙ lines ∙ sym (append_assoc (line_text f) (lines_text before) more)

not_numbers : (b f : List ℕ) → line_numbers 6 b ≡ None → Six f → b ≡ line_text f → ⊥
not_numbers b f none six e =
    let some : line_numbers 6 b ≡ Some f =
    ap (λ (bs : List ℕ). line_numbers 6 bs) e ∙ ap (λ (k : ℕ). line_numbers k (line_text f)) (sym six.0) ∙ line_read_back f six.1 in
    let z : ◌≡◌ {A = ℕ} 0 1 = cc in omega arith

module _ {E : Type 0} (wrong : ℕ → E) where
  -- the lines that are numbers, up to the first that is not
  record Halts (i : ℕ) (text : List ℕ) (f : E) : Type 0 where
    before : List (List ℕ)
    line : List ℕ
    rest : List ℕ
    are : text ≡ lines_text before ++ (line ++ rest)
    six : AllByRecursion Six before
    place : f ≡ wrong (i + length before)
    there : length line ≡ 25
    none : line_numbers 6 line ≡ None

  halts : (n i : ℕ) (text : List ℕ) (f : E) → length text ≡ 25 * n → numbers_or wrong i (lines n text) ≡ Err f → Halts i text f
  halts zero i text f long e = not_both f [] (sym e)
  halts (suc n) i text f long e =
      let more : length (drop 25 text) ≡ 25 * n = length-drop 25 text ∙ omega arith in
      elim (cons_err (ok_or (line_numbers 6 (take 25 text)) (wrong i)) (numbers_or wrong (i + 1) (lines n (drop 25 text))) f e) [
        | inl first ↦
            let t = or_err (line_numbers 6 (take 25 text)) (wrong i) f first in
            let here : i ≡ i + 0 = omega arith in
            record {
              before = [];
              line = take 25 text;
              rest = drop 25 text;
              are = sym (take-append-drop 25 text);
              six = tt;
              place = sym t.1 ∙ ap wrong here;
              there = length-take-le 25 text (omega arith);
              none = t.0;
            }
        | inr later ↦
            let s = halts n (i + 1) (drop 25 text) f more later.2 in
            let one = line_is (take 25 text) later.0 (or_ok (line_numbers 6 (take 25 text)) (wrong i) later.0 later.1) in
            let next : (i + 1) + length s.before ≡ i + suc (length s.before) = omega arith in
            record {
              before = later.0 ∷ s.before;
              line = s.line;
              rest = s.rest;
              are = front text later.0 s.before (s.line ++ s.rest) one.1 s.are;
              six = (one.0, s.six);
              place = s.place ∙ ap wrong next;
              there = s.there;
              none = s.none;
            }
      ]

-- where a wrong length is told as e and line i that is no numbers as wrong i: whatever is told is so
module _ {E : Type 0} (low high : ℕ) (e : E) (wrong : ℕ → E) (text : List ℕ) (Told : E → Type 0)
    (of_length : WrongLength low high text → Told e) (of_field : (i : ℕ) → WrongField low high text i → Told (wrong i)) where
  pub wrong_lines : (f : E) → lines_or low high e wrong text ≡ Err f → Told f
  wrong_lines f h = elim (then_err (count_or low high e text) (λ n. numbers_or wrong 1 (lines n text)) f h) [
    | inl none ↦ elim (cond_err (eqb (length text % 25) 0 && within low high (length text / 25)) (Ok (length text / 25)) e f none) [
      | inl a ↦ subst Told a.1 (of_length (λ n k. not_both f n (sym none ∙ count_back low high e text n k.0 k.1 k.2)))
      | inr a ↦ not_both f (length text / 25) (sym a.1)
    ]
    | inr some ↦
        let long = count_is low high e text some.0 some.1 in
        let s = halts wrong some.0 1 text f long.0 some.2 in
        let place : 1 + length s.before ≡ length s.before + 1 = omega arith in
        subst Told (sym s.place) (of_field (1 + length s.before) (record {
          long = (some.0, long);
          before = s.before;
          line = s.line;
          rest = s.rest;
          are = s.are;
          numbers = s.six;
          place = place;
          there = s.there;
          wrong = λ g six is. not_numbers s.line g s.none six is;
        }))
  ]
