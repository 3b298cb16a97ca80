-- What was written is the text of the variant that the refusal is.
use Rattle.program.proofs.printing.RefusalDisplay.fmt.Goals as goal

pub returns-in-Length-clause-writes : goal.returns-in-Length-clause-writes
returns-in-Length-clause-writes g c = rw c.in-Length.is c.write.ensures.writes

pub returns-in-Field-clause-writes : goal.returns-in-Field-clause-writes
returns-in-Field-clause-writes g c = rw c.in-Field.is c.write-in-Field.ensures.writes

pub returns-in-Header-clause-writes : goal.returns-in-Header-clause-writes
returns-in-Header-clause-writes g c = rw c.in-Header.is c.write-in-Header.ensures.writes

pub returns-in-Order-clause-writes : goal.returns-in-Order-clause-writes
returns-in-Order-clause-writes g c = rw c.in-Order.is c.write-in-Order.ensures.writes

pub returns-in-Operand-clause-writes : goal.returns-in-Operand-clause-writes
returns-in-Operand-clause-writes g c = rw c.in-Operand.is c.write-in-Operand.ensures.writes

pub returns-in-NoTerm-clause-writes : goal.returns-in-NoTerm-clause-writes
returns-in-NoTerm-clause-writes g c = rw c.in-NoTerm.is c.write-in-NoTerm.ensures.writes

pub returns-in-NoProcess-clause-writes : goal.returns-in-NoProcess-clause-writes
returns-in-NoProcess-clause-writes g c = rw c.in-NoProcess.is c.write-in-NoProcess.ensures.writes
