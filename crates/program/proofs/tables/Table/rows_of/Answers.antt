use Rattle.std.proofs.Common.{◌≡◌, ℕ, ◌-◌, refl, ap, ◌∙◌, arith}
use Rattle.program.specs.Program.{labels_of, rows_below}
use Rattle.program.specs.Tables.{program}
use Rattle.program.proofs.Starts.{past_last, start_at, next_at}
use Rattle.program.proofs.tables.Table.rows_of.Goals as goal

pub returns-then-at-gt4 : goal.returns-then-at-gt4
returns-then-at-gt4 c =
    let t = c.args.self.now in
    let none = past_last (program t) t.keeps c.args.process (omega arith) in
    rw none refl

pub slice_bounds-result-count : goal.slice_bounds-result-count
slice_bounds-result-count c =
    let t = c.args.self.now in
    let low = start_at t.starts t.rows.items t.placed c.from-at.result (omega arith) in
    let high = next_at t.starts t.rows.items t.placed c.from-at.result (omega arith) in
    omega arith

pub slice_bounds-result-start : goal.slice_bounds-result-start
slice_bounds-result-start c =
    let t = c.args.self.now in
    let low = start_at t.starts t.rows.items t.placed c.from-at.result (omega arith) in
    let high = next_at t.starts t.rows.items t.placed c.from-at.result (omega arith) in
    omega arith

pub returns : goal.returns
returns c =
    let t = c.args.self.now in
    let rows = t.rows.items in
    let at = c.from-at.ensures in
    let low = start_at t.starts rows t.placed c.from-at.result (omega arith) in
    let high = next_at t.starts rows t.placed c.from-at.result (omega arith) in
    let first : c.from-first.result ≡ rows_below rows c.args.process = c.from-first.ensures ∙ low ∙ ap (λ (q : ℕ). rows_below rows q) at in
    let count : c.from-end.result - c.from-first.result ≡ labels_of rows c.args.process = ap (λ (n : ℕ). c.from-end.result - n) (c.from-first.ensures ∙ low) ∙ omega (arith, high) ∙ ap (λ (q : ℕ). labels_of rows q) at in
    rw (count, first, c.deref.ensures.0) refl
