use Rattle.std.proofs.Common.{sym, arith}
use Rattle.text.proofs.Filling.{written_short, written_all}
use Rattle.text.proofs.write_line.Goals as goal

pub returns-then-out-end : goal.returns-then-out-end
returns-then-out-end c = written_short c.args.numbers.now c.args.out.now (sym c.if-not-fit.ensures) (omega arith)

pub returns : goal.returns
returns c =
    written_all c.args.numbers.now c.loop-i.i c.args.out.now c.loop-i.out c.loop-i.invariant (omega arith) (omega arith)
    (sym c.if-not-fit.ensures) (omega arith)
