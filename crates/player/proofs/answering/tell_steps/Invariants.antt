use Rattle.std.proofs.Common.{◌≡◌, ◌++◌, string_bytes, drop}
use Rattle.program.specs.Tables.{program}
use Rattle.player.specs.Answers.{steps_words}
use Rattle.player.proofs.answering.tell_steps.Given as goal

-- what was told, and what the lines that are left tell
abbrev pub invariant-loop-line : goal.invariant-loop-line
invariant-loop-line l =
    let t = program l.fn.table in
    string_bytes l.told ++ steps_words t (drop l.line-index l.fn.lines) ≡ string_bytes l.fn.told ++ steps_words t l.fn.lines
