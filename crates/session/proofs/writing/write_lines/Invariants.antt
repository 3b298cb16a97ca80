use Rattle.std.proofs.Common.{◌≡◌, ◌*◌, ◌++◌, take, drop}
use Rattle.program.specs.Program.{lines_text}
use Rattle.session.proofs.writing.write_lines.Given as goal

abbrev pub invariant-loop-i : goal.invariant-loop-i
invariant-loop-i l = l.out ≡ lines_text (take l.i l.lines) ++ drop (25 * l.i) l.fn.out
