-- The words of the rows so far, and of one row more.
use Rattle.std.proofs.Common.{◌≡◌, ℕ, ◌+◌, ◌<◌, List, [], ◌∷◌, ◌++◌, length, get_or, take, sym, ap, ◌∙◌, append_assoc, append-nil}
use Rattle.std.proofs.lemmas.List.{take_more}
use Rattle.std.proofs.Output.{has_written_append, has_written_of_eq}
use Rattle.std.specs.declared.fmt.Formatter.{Formatter}
use Rattle.std.specs.Fmt.{IsPlainFormatter, HasWritten}
use Rattle.program.specs.declared.rows.Row.{Row}
use Rattle.listing.specs.Words.{row_words, rows_words}

one_more : (rows : List Row) (r : Row) → rows_words (rows ++ (r ∷ [])) ≡ rows_words rows ++ row_words r
one_more [] r = append-nil (row_words r)
one_more (q ∷ rows) r = ap (λ (l : List ℕ). row_words q ++ l) (one_more rows r) ∙ sym (append_assoc (row_words q) (rows_words rows) (row_words r))

rows_more : (rows : List Row) (i : ℕ) (d : Row) → i < length rows → rows_words (take i rows) ++ row_words (get_or rows i d) ≡ rows_words (take (i + 1) rows)
rows_more rows i d h = sym (ap rows_words (take_more rows i d h) ∙ one_more (take i rows) (get_or rows i d))

module _ {W : Type 0} (took : W → List ℕ → W → Type 0) (f g h : Formatter W) where
  -- from f to g the rows so far were written, and from g to h the next one
  pub put_row : (rows : List Row) (i : ℕ) (d : Row) → i < length rows → HasWritten took f (rows_words (take i rows)) g → (IsPlainFormatter g → HasWritten took g (row_words (get_or rows i d)) h) → HasWritten took f (rows_words (take (i + 1) rows)) h
  put_row rows i d lt before next =
      let old = rows_words (take i rows) in
      let one = row_words (get_or rows i d) in
      has_written_of_eq took f (old ++ one) (rows_words (take (i + 1) rows)) h (rows_more rows i d lt) (has_written_append took f old g one h before (next before.plain))
