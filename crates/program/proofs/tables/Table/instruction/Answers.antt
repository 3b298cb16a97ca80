use Rattle.std.proofs.Common.{◌∙◌, arith}
use Rattle.program.specs.Tables.{program}
use Rattle.program.proofs.Starts.{found_in, found_none, fits_at}
use Rattle.program.proofs.tables.Table.instruction.Goals as goal

pub returns-in_err-checked_sub-clause-value : goal.returns-in_err-checked_sub-clause-value
returns-in_err-checked_sub-clause-value c =
    let t = c.args.self.now in
    c.from_residual.ensures ∙ found_none (program t) t.keeps c.args.process c.rows_of.result.now c.rows_of.ensures c.args.label (λ both. omega (arith, both.0, both.1, c.in_err-checked_sub.ensures))

pub returns-in_err-row-clause-value : goal.returns-in_err-row-clause-value
returns-in_err-row-clause-value c =
    let t = c.args.self.now in
    c.from_residual-in_err-row.ensures ∙ found_none (program t) t.keeps c.args.process c.rows_of.result.now c.rows_of.ensures c.args.label (λ both. omega (arith, both.0, both.1, c.in_ok-checked_sub.ensures, c.in_err-row.ensures.lookup))

pub returns : goal.returns
returns c =
    let t = c.args.self.now in
    let row = c.in_ok-row.row.now in
    let value = found_in (program t) t.keeps c.args.process c.rows_of.result.now c.rows_of.ensures c.in_ok-checked_sub.field-0 c.args.label row row (omega (arith, c.in_ok-checked_sub.ensures)) (omega (arith, c.in_ok-row.ensures.lookup)) c.in_ok-row.ensures.lookup.1 in
    record { value = value; fits = fits_at (program t) t.keeps c.args.process c.args.label _ value }
