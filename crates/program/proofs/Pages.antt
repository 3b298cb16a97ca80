-- Writing a table's lines one after another into a buffer.
use Rattle.std.proofs.Common.{◌≡◌, ℕ, ◌+◌, ◌*◌, ◌<◌, ◌≤◌, Bool, true, false, cond, leb, List, [], ◌∷◌, ◌++◌, length, get_or, take, drop, Ok, Err, Result, sym, ap, ◌∙◌, refl, ap₂, append_assoc, append-nil, arith, add-one}
use borrow.Rule.Slice.PartMut.{put_mid}
use Rattle.std.proofs.ByRecursion.{All-take, All-get_or}
use Rattle.std.proofs.lemmas.List.{length-take-le, length-map, get_or-map, take_at, drop_at, drop-drop, drop_all, take_more, take_all}
use Rattle.std.proofs.lemmas.Bool.{le-leb, lt-leb}
use Rattle.std.specs.List.{AllByRecursion}
use Rattle.text.specs.declared.Unwritten.{Unwritten}
use Rattle.text.specs.declared.Unwritten.TheVariants as unwritten
use Rattle.text.specs.Lines.{line_text, all_small}
use Rattle.text.specs.Writing.{over, written}
use Rattle.text.proofs.Lines.{length_line, small_is_all}
use Rattle.program.specs.declared.rows.Row.{Row}
use Rattle.program.specs.Program.{Program, row_fields, table_fields, lines_text, is_nothing, kept, Six, proper, header_fields}
use Rattle.program.specs.declared.refusals.Short.{Short}
use Rattle.program.specs.Reading.{read}
use Rattle.program.specs.Tables.{lines_of, text_of, table_written}
use Rattle.program.proofs.LineTexts.{length_lines}
use Rattle.program.proofs.Starts.{kept_proper}
use Rattle.program.proofs.Texts.{fields_six, read_back}

-- a line that fits is written over the front of a buffer that has room for it
pub line_over : (ns out : List ℕ) (r : Result ℕ Unwritten) (after : List ℕ) → all_small ns ≡ true → length (line_text ns) ≤ length out → (r, after) ≡ written ns out → after ≡ over (line_text ns) out
line_over ns out r after small long e =
    let first = ap (λ (b : Bool). cond b (cond (leb (length (line_text ns)) (length out)) (Ok (length (line_text ns)), over (line_text ns) out) (Err unwritten.Short, out)) (Err unwritten.Large, out)) small in
    let second = ap (λ (b : Bool). cond b (Ok (length (line_text ns)), over (line_text ns) out) (Err unwritten.Short, out)) (le-leb (length (line_text ns)) (length out) long) in
    ap (λ (p : Result ℕ Unwritten × List ℕ). p.1) (e ∙ first ∙ second)

-- over the bytes of a line it is all that they hold then
pub put_is : (ns xs after : List ℕ) (r : Result ℕ Unwritten) → length ns ≡ 6 → all_small ns ≡ true → length xs ≡ 25 → (r, after) ≡ written ns xs → after ≡ line_text ns
put_is ns xs after r six small long e =
    let line : length (line_text ns) ≡ 25 = length_line ns ∙ omega (arith, six) in
    let over_all = line_over ns xs r after small (omega arith) e in
    let none = drop_all (length (line_text ns)) xs (omega arith) in
    over_all ∙ ap (λ (z : List ℕ). line_text ns ++ z) none ∙ append-nil (line_text ns)

-- a line over the 25 bytes from a place on
pub line_put : (f ys xs : List ℕ) (at k : ℕ) → k ≡ 25 → ys ≡ line_text f → put_mid at k xs ys ≡ take at xs ++ (line_text f ++ drop (at + 25) xs)
line_put f ys xs at k e w =
    let d = drop-drop 25 at xs in
    cc

lines_push : (fs : List (List ℕ)) (f : List ℕ) → lines_text (fs ++ (f ∷ [])) ≡ lines_text fs ++ line_text f
lines_push [] f = append-nil (line_text f)
lines_push (g ∷ fs) f = ap (λ (z : List ℕ). line_text g ++ z) (lines_push fs f) ∙ sym (append_assoc (line_text g) (lines_text fs) (line_text f))

-- one line more
module _ (fs : List (List ℕ)) (six : AllByRecursion Six fs) (o out : List ℕ) (i : ℕ) (low : i < length fs) (so_far : out ≡ lines_text (take i fs) ++ drop (25 * i) o) where
  front_long : length (lines_text (take i fs)) ≡ 25 * i
  front_long = length_lines (take i fs) (All-take Six i fs six) ∙ ap (λ (n : ℕ). 25 * n) (length-take-le i fs (omega arith))

  pub page_more : (f new : List ℕ) → f ≡ get_or fs i [] → new ≡ take (25 * i) out ++ (line_text f ++ drop (25 * i + 25) out) → new ≡ lines_text (take (i + 1) fs) ++ drop (25 * (i + 1)) o
  page_more f new e n =
      let head : take (25 * i) out ≡ lines_text (take i fs) = ap (λ (z : List ℕ). take (25 * i) z) so_far ∙ take_at (lines_text (take i fs)) (drop (25 * i) o) (25 * i) front_long in
      let tail : drop (25 * i) out ≡ drop (25 * i) o = ap (λ (z : List ℕ). drop (25 * i) z) so_far ∙ drop_at (lines_text (take i fs)) (drop (25 * i) o) (25 * i) front_long in
      let next : 25 * i + 25 ≡ 25 * (i + 1) = omega arith in
      let rest : drop (25 * i + 25) out ≡ drop (25 * (i + 1)) o = sym (drop-drop 25 (25 * i) out) ∙ ap (λ (z : List ℕ). drop 25 z) tail ∙ drop-drop 25 (25 * i) o ∙ ap (λ (k : ℕ). drop k o) next in
      let lines : lines_text (take (i + 1) fs) ≡ lines_text (take i fs) ++ line_text f = ap lines_text (take_more fs i [] low) ∙ lines_push (take i fs) (get_or fs i []) ∙ ap (λ (g : List ℕ). lines_text (take i fs) ++ line_text g) (sym e) in
      n ∙ ap₂ (λ (a b : List ℕ). a ++ (line_text f ++ b)) head rest ∙ sym (append_assoc (lines_text (take i fs)) (line_text f) (drop (25 * (i + 1)) o)) ∙ ap (λ (z : List ℕ). z ++ drop (25 * (i + 1)) o) (sym lines)

-- the first lines of a table's text over the front of a buffer
pub page : Program → ℕ → List ℕ → List ℕ
page p n out = lines_text (take n (table_fields p)) ++ drop (25 * n) out

-- a table of which something was read
module _ (p : Program) (keeps : kept p ≡ true) (some : is_nothing p ≡ false) where
  good : proper p ≡ true
  good = kept_proper p keeps some

  lines_are : lines_of p ≡ table_fields p
  lines_are = ap (λ (b : Bool). cond b [] (table_fields p)) some

  count : length (table_fields p) ≡ length p.rows + 1
  count = omega (arith, length-map p.rows row_fields)

  pub text_back : read (text_of p) ≡ Ok p
  text_back = ap (λ (fs : List (List ℕ)). read (lines_text fs)) lines_are ∙ read_back p good

  row_at : (i : ℕ) (d : Row) → i < length p.rows → row_fields (get_or p.rows i d) ≡ get_or (table_fields p) (i + 1) []
  row_at i d low = rw add-one (sym (get_or-map row_fields p.rows i d [] low))

  pub row_small : (f : List ℕ) (i : ℕ) (d : Row) → f ≡ row_fields (get_or p.rows i d) → i < length p.rows → all_small f ≡ true
  row_small f i d at low = ap all_small (at ∙ row_at i d low) ∙ small_is_all _ (All-get_or Six (table_fields p) (i + 1) [] (omega (arith, count)) (fields_six p good)).1

  module _ (out : List ℕ) where
    pub first_line : (new : List ℕ) → new ≡ line_text (header_fields p.counts (length p.rows)) ++ drop 25 out → new ≡ page p 1 out
    unfolding page
    first_line new e = page_more (table_fields p) (fields_six p good) out out 0 (omega (arith, count)) refl _ new refl e

    pub next_line : (now new f : List ℕ) (i : ℕ) (d : Row) → f ≡ row_fields (get_or p.rows i d) → i < length p.rows → now ≡ page p (i + 1) out → new ≡ take (25 * (i + 1)) now ++ (line_text f ++ drop (25 * (i + 1) + 25) now) → new ≡ page p ((i + 1) + 1) out
    unfolding page
    next_line now new f i d at low so_far e = page_more (table_fields p) (fields_six p good) out now (i + 1) (omega (arith, count)) so_far f new (at ∙ row_at i d low) e

    text_long : 25 * (length p.rows + 1) ≡ length (text_of p)
    text_long = sym (ap (λ (fs : List (List ℕ)). length (lines_text fs)) lines_are ∙ length_lines (table_fields p) (fields_six p good) ∙ ap (λ (n : ℕ). 25 * n) count)

    abbrev answered : Bool → Result ℕ Short × List ℕ
    answered b = cond b (Ok (length (text_of p)), over (text_of p) out) (Err (record { needed = length (text_of p) }), out)

    pub page_short : length out < 25 * (length p.rows + 1) → (Err (record { needed = 25 * (length p.rows + 1) }), out) ≡ table_written p out
    page_short h =
        ap (λ (n : ℕ). (Err (record { needed = n }), out)) text_long ∙ sym (ap answered (lt-leb (length (text_of p)) (length out) (omega (arith, text_long))))

    pub page_all : (i : ℕ) (new : List ℕ) → 25 * (length p.rows + 1) ≤ length out → i ≡ length p.rows → new ≡ page p (i + 1) out → (Ok (25 * (length p.rows + 1)), new) ≡ table_written p out
    unfolding page
    page_all i new h end w =
        let at : 25 * (i + 1) ≡ length (text_of p) = omega (arith, text_long) in
        let whole : new ≡ over (text_of p) out = w ∙ ap₂ (λ (fs : List (List ℕ)) (k : ℕ). lines_text fs ++ drop k out) (take_all (i + 1) (table_fields p) (omega (arith, count)) ∙ sym lines_are) at in
        ap₂ (λ (n : ℕ) (z : List ℕ). (Ok n, z)) text_long whole ∙ sym (ap answered (le-leb (length (text_of p)) (length out) (omega (arith, text_long))))
