-- The rows so far, and those that the lines left give below the last of them, are the rows of all lines.
use Rattle.std.proofs.Common.{◌≡◌, ℕ, ◌+◌, List, [], Ok, sym, ap, ◌∙◌, get_or, drop, arith}
use Rattle.std.proofs.lemmas.Result.{err_from_is_err_and}
use Rattle.std.proofs.lemmas.List.{drop_all}
use Rattle.program.specs.Reading.{rows_read, named}
use Rattle.program.proofs.Fronts.{front, front_all}
use Rattle.program.proofs.Judged.{rows_more, rows_stop, judged_by, counted_rows}
use Rattle.program.proofs.reading.Frame.rows.Goals as goal

pub returns-in_err-above-clause-value : goal.returns-in_err-above-clause-value
returns-in_err-above-clause-value c =
    let p = err_from_is_err_and c.from_residual.result c.from_residual.ensures.1 in
    let self = c.args.self in
    let above = c.loop-i.above in
    let below = drop 1 c.args.lines.now.all.now.items in
    let lines = c.below-line-items.ensures.value in
    let stop = rows_stop self.counts (λ q. get_or self.labels q 0) above.process above.label (c.loop-i.i + 2) c.below-line-items.result.now c.loop-i.i [] c.loop-i-test.true c.loop-i.rows.items c.in_err-above.field-0.0 c.in_err-above.ensures in
    rw (p.1, p.2) (rw lines at (stop ∙ c.loop-i.invariant.read) ∙ judged_by self.counts self.labels below self.few c.requires.counted)

pub loop-i-preserved : goal.loop-i-preserved
loop-i-preserved c =
    let self = c.args.self in
    let i = c.loop-i.i in
    let above = c.loop-i.above in
    let more = rows_more self.counts (λ q. get_or self.labels q 0) above.process above.label (i + 2) c.below-line-items.result.now i [] c.loop-i-test.true c.loop-i.rows.items c.in_ok-above.above c.in_ok-above.ensures in
    let number : (i + 1) + 2 ≡ (i + 2) + 1 = omega arith in
    record { long = omega arith; read = rw (number, c.push.ensures.items) (sym more ∙ c.loop-i.invariant.read) }

pub returns : goal.returns
returns c =
    let self = c.args.self in
    let rows = c.loop-i.rows.items in
    let above = c.loop-i.above in
    let below = drop 1 c.args.lines.now.all.now.items in
    let lines = c.below-line-items.ensures.value in
    let none = drop_all c.loop-i.i c.below-line-items.result.now c.loop-i-test.false in
    let read =
    sym (front_all rows)
    ∙ ap (λ (z : List (List ℕ)). front rows (rows_read self.counts (λ q. get_or self.labels q 0) above.process above.label (c.loop-i.i + 2) z)) (sym none)
    ∙ c.loop-i.invariant.read in
    let value : Ok rows ≡ rows_read self.counts (named below) 0 0 2 below = rw lines at read ∙ judged_by self.counts self.labels below self.few c.requires.counted in
    record { value = value; labels = counted_rows self.counts self.labels below rows c.requires.counted value }
