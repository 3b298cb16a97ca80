use Rattle.std.proofs.Common.{ap, arith}
use Rattle.program.specs.declared.rows.Counts.{Counts}
use Rattle.program.specs.Tables.{program}
use Rattle.worlds.proofs.Fitting.{registers_fit_at, low_at, values_at}
use Rattle.worlds.proofs.worlds.World.standing.Goals as goal

pub invariant_of-result : goal.invariant_of-result
invariant_of-result g c =
    let t = program c.args.table.now in
    let label = c.in_ok-place.field-0.now.label in
    let x = c.in_ok-instruction.instruction in
    let fits = c.in_ok-instruction.ensures.fits in
    let some = values_at t c.args.process label x fits in
    record {
      registers = registers_fit_at t c.args.process label x fits;
      low = low_at t c.args.process label x fits;
      some = let values = ap (λ (n : Counts). n.values) c.counts.ensures in omega (arith, some, values);
    }
