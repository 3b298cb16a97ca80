-- Since the loop began, the rows so far were written.
use Rattle.std.proofs.Common.{take}
use Rattle.std.specs.Fmt.{IsPlainFormatter, HasWritten}
use Rattle.listing.specs.Words.{rows_words}
use Rattle.listing.proofs.tables.ListedDisplay.fmt.Given as goal

abbrev pub invariant-loop-row : goal.invariant-loop-row
invariant-loop-row g l = IsPlainFormatter l.initial.f → HasWritten g.W.Write.write_str_gives l.initial.f (rows_words (take l.row-index l.rows)) l.f
