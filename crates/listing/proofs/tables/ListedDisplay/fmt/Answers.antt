-- Each turn writes one row more.
use Rattle.std.proofs.Common.{refl}
use Rattle.listing.proofs.RowWords.{put_row}
use Rattle.listing.proofs.tables.ListedDisplay.fmt.Goals as goal

pub loop-row-preserved : goal.loop-row-preserved
loop-row-preserved g c plain =
    put_row g.W.Write.write_str_gives c.write.new.self c.loop-row.f c.write-in-loop-row.new.self
    c.rows-rows.result.now c.loop-row.row-index _ c.loop-row-test.true
    (c.loop-row.invariant plain) (λ p. c.in_ok-write-2.ensures.writes p refl)
