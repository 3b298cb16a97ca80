-- The refusal of lines, in the words of who asked for them: as if it had been told so from the start.
use Rattle.std.proofs.Common.{◌≡◌, ℕ, ◌+◌, ◌/◌, ◌%◌, Bool, true, false, cond, ◌&&◌, eqb, List, [], ◌∷◌, length, Some, None, Ok, Err, Option, Result, refl, ap, ap₂, ◌∙◌}
use Rattle.std.specs.Option.{ok_or}
use Rattle.std.specs.Result.{result_map_both}
use Rattle.text.specs.Lines.{line_numbers}
use Rattle.program.specs.declared.lines.Unread.TheVariants as why
use Rattle.program.specs.declared.refusals.Refusal.{Refusal}
use Rattle.program.specs.Program.{within}
use Rattle.program.specs.Reading.{cons_to, then_do, lines, numbers_or, lines_or, table_read, read}
use Rattle.program.specs.Refusals.{unread}

module _ {E F : Type 0} (f : E → F) where
  abbrev pub told : {A : Type 0} → Result A E → Result A F
  told r = result_map_both (λ a. a) f r

  cons_told : {A : Type 0} (r : Result A E) (rs : Result (List A) E) → cons_to (told r) (told rs) ≡ told (cons_to r rs)
  cons_told (Ok a) (Ok rest) = refl
  cons_told (Ok a) (Err e) = refl
  cons_told (Err e) rs = refl

  or_told : {A : Type 0} (o : Option A) (e : E) → ok_or o (f e) ≡ told (ok_or o e)
  or_told (Some a) e = refl
  or_told None e = refl

  numbers_told : (wrong : ℕ → E) (i : ℕ) (bs : List (List ℕ)) → numbers_or (λ k. f (wrong k)) i bs ≡ told (numbers_or wrong i bs)
  numbers_told wrong i [] = refl
  numbers_told wrong i (b ∷ bs) =
      ap₂ (λ (r : Result (List ℕ) F) (rs : Result (List (List ℕ)) F). cons_to r rs) (or_told (line_numbers 6 b) (wrong i)) (numbers_told wrong (i + 1) bs)
      ∙ cons_told (ok_or (line_numbers 6 b) (wrong i)) (numbers_or wrong (i + 1) bs)

  then_told : {A B : Type 0} (t : Bool) (a : A) (e : E) (g : A → Result B E) (h : A → Result B F) → ((x : A) → h x ≡ told (g x)) → then_do (cond t (Ok a) (Err (f e))) h ≡ told (then_do (cond t (Ok a) (Err e)) g)
  then_told true a e g h same = same a
  then_told false a e g h same = refl

  pub lines_told : (low high : ℕ) (e : E) (wrong : ℕ → E) (text : List ℕ) → lines_or low high (f e) (λ k. f (wrong k)) text ≡ told (lines_or low high e wrong text)
  lines_told low high e wrong text =
      then_told (eqb (length text % 25) 0 && within low high (length text / 25)) (length text / 25) e (λ n. numbers_or wrong 1 (lines n text)) (λ n. numbers_or (λ k. f (wrong k)) 1 (lines n text)) (λ n. numbers_told wrong 1 (lines n text))

-- a table's text, by what it is read as in lines
pub read_told : (text : List ℕ) → read text ≡ then_do (told unread (lines_or 2 129 why.Length why.Field text)) table_read
read_told text = ap (λ (r : Result (List (List ℕ)) Refusal). then_do r table_read) (lines_told unread 2 129 why.Length why.Field text)
