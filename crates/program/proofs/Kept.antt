-- Every table keeps its properties, or nothing was read into it.
use Rattle.std.proofs.Common.{◌≡◌, true}
use Rattle.program.specs.declared.tables.Table.{Table}
use Rattle.program.specs.Program.{kept}
use Rattle.program.specs.Tables.{program}

pub keeps_of : (t : Table) → kept (program t) ≡ true
keeps_of t = t.keeps
