-- An interrupted write leaves the writer as it was.
use Rattle.std.specs.Io.KnownBytes.{Keeps}
use Rattle.intake.proofs.writing.write_uninterrupted.Given as goal

abbrev pub invariant-loop : goal.invariant-loop
invariant-loop g l = Keeps (g.W.Write.contents l.initial.writer) (g.W.Write.contents l.writer)
