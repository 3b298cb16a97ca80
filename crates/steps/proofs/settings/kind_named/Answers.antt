-- The bytes that were matched are the name.
use Rattle.std.proofs.Common.{codes, refl, rules, arith}
use Rattle.std.proofs.lemmas.Slice.Eq.{text_from_reads}
use Rattle.steps.proofs.settings.kind_named.Goals as goal

pub returns-in-sequential : goal.returns-in-sequential
returns-in-sequential c = rw (text_from_reads c.args.line.now (codes "sequential") (omega arith) (search rules)) refl

pub returns-in-114 : goal.returns-in-114
returns-in-114 c = rw (text_from_reads c.args.line.now (codes "release-acquire") (omega arith) (search rules)) refl
