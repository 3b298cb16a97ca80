-- A line that was read is what is printed of it again.
use Rattle.std.proofs.Common.{sym, rules}
use Rattle.steps.proofs.Again.{take_repeats}
use Rattle.steps.proofs.asking.read_take.Goals as goal

pub returns : goal.returns
returns c = record { value = search rules; words = take_repeats c.args.line.now _ (sym (search rules)) }
