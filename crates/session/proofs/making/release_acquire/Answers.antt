use Rattle.session.specs.Contents.{content}
use Rattle.session.proofs.Frees.{freed}
use Rattle.session.proofs.making.release_acquire.Goals as goal

pub returns-clause-free : goal.returns-clause-free
returns-clause-free c = freed (content c.new-2.result) c.new-2.ensures
