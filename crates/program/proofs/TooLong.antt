-- A text of more bytes than the most lines have is refused for its length.
use Rattle.std.proofs.Common.{◌≡◌, ℕ, ◌*◌, ◌/◌, ◌%◌, ◌<◌, true, ◌&&◌, eqb, leb, List, length, Ok, Err, Result, ap, arith}
use Rattle.std.proofs.lemmas.Bool.{and_parts, cond-false, eqb-true, false_from_ne_true, leb-true}
use Rattle.program.specs.declared.refusals.Refusal.{Refusal}
use Rattle.program.specs.declared.refusals.Refusal.TheVariants.{Length, Field}
use Rattle.program.specs.Program.{within}
use Rattle.program.specs.Reading.{then_do, lines, count_or, numbers_or, lines_or, table_read, read}

module _ {E : Type 0} (low high : ℕ) (e : E) where
  not_counted : (text : List ℕ) → 25 * high < length text → count_or low high e text ≡ Err e
  not_counted text long =
      let fits = eqb (length text % 25) 0 && within low high (length text / 25) in
      cond-false fits (Ok (length text / 25)) (Err e) (false_from_ne_true fits (λ (t : fits ≡ true).
      let u = and_parts (eqb (length text % 25) 0) (within low high (length text / 25)) t in
      let v = and_parts (leb low (length text / 25)) (leb (length text / 25) high) u.1 in
      omega (arith, eqb-true (length text % 25) 0 u.0, leb-true (length text / 25) high v.1)))

  pub long_lines : (wrong : ℕ → E) (text : List ℕ) → 25 * high < length text → lines_or low high e wrong text ≡ Err e
  long_lines wrong text long =
      ap (λ (r : Result ℕ E). then_do r (λ (n : ℕ). numbers_or wrong 1 (lines n text))) (not_counted text long)

-- a table has at most 129 lines
pub long_table : (text : List ℕ) → 3225 < length text → read text ≡ Err Length
long_table text long =
    ap (λ (r : Result (List (List ℕ)) Refusal). then_do r table_read) (long_lines 2 129 Length Field text (omega arith))
