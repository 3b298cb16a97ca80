-- What is printed follows what was read.
use Rattle.program.proofs.Taken.{read_ok, read_err}
use Rattle.listing.proofs.answering.answer.Goals as goal

pub returns-in-Ok : goal.returns-in-Ok
returns-in-Ok c = rw (read_ok _ _ _ c.in-Ok.ensures.value) c.format.ensures.ok

pub returns-in-Err : goal.returns-in-Err
returns-in-Err c = rw (read_err _ _ _ _ c.in-Err.ensures.value) c.format-in-Err.ensures.ok
