use Rattle.std.proofs.Common.{arith}
use Rattle.program.proofs.Pages.{put_is}
use Rattle.program.proofs.writing.put.Goals as goal

pub returns : goal.returns
returns c = put_is c.args.numbers c.args.line.now c.write_line.new.out c.write_line.result (omega arith) c.requires.0 c.requires.1 c.write_line.ensures
