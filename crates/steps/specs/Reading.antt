-- What the lines that are left stand for.
use Rattle.std.specs.Prelude.{List}
use Rattle.steps.specs.declared.lines.Line.{Line}
use Rattle.steps.specs.declared.lines.Lines.{Lines}
use Rattle.steps.specs.Cutting.{Numbered, lines_of, numbered}

abbrev pub left_of : Lines → List Numbered
left_of s = numbered s.passed (lines_of s.rest.now)

abbrev pub the_line : Line → Numbered
the_line l = record { number = l.number; bytes = l.text.now }
