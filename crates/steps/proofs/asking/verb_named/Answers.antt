-- The bytes that were matched are the name.
use Rattle.std.proofs.Common.{codes, refl, rules, arith}
use Rattle.std.proofs.lemmas.Slice.Eq.{text_from_reads}
use Rattle.steps.proofs.asking.verb_named.Goals as goal

pub returns-in-local : goal.returns-in-local
returns-in-local c = rw (text_from_reads c.args.word.now (codes "local") (omega arith) (search rules)) refl

pub returns-in-write : goal.returns-in-write
returns-in-write c = rw (text_from_reads c.args.word.now (codes "write") (omega arith) (search rules)) refl

pub returns-in-fence : goal.returns-in-fence
returns-in-fence c = rw (text_from_reads c.args.word.now (codes "fence") (omega arith) (search rules)) refl
