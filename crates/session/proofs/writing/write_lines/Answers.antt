use Rattle.std.proofs.Common.{◌*◌, [], get_or, rules, refl, arith}
use Rattle.std.proofs.ByRecursion.{All-get_or}
use Rattle.text.proofs.Lines.{small_is_all}
use Rattle.program.specs.Program.{Six}
use Rattle.program.proofs.Pages.{page_more, line_put, put_is}
use Rattle.session.proofs.writing.write_lines.Goals as goal

pub loop-i-preserved : goal.loop-i-preserved
loop-i-preserved c =
    let lines = c.args.lines.now in
    let i = c.loop-i.i in
    let line = get_or lines i [] in
    let six = All-get_or Six lines i [] c.loop-i-test.true c.requires.six in
    page_more lines c.requires.six c.args.out.now c.loop-i.out i c.loop-i-test.true c.loop-i.invariant line _ refl
    (line_put line c.write_line.new.out c.loop-i.out (25 * i) _ (omega arith)
    (put_is line _ c.write_line.new.out c.write_line.result six.0 (small_is_all line six.1) (search rules) c.write_line.ensures))
