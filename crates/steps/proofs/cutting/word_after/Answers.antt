-- What was read is what it means.
use Rattle.std.proofs.Common.{Some, None, refl, rules}
use Rattle.steps.proofs.cutting.word_after.Goals as goal

pub returns : goal.returns
returns g c meant says =
    let e = says c.cut.result.0.now (Some c.in_ok-read.field-0) (c.cut.result.0, c.in_ok-read.ensures, refl) in
    search rules

pub returns-in_err-read : goal.returns-in_err-read
returns-in_err-read g c meant says =
    let e = says c.cut.result.0.now None (c.cut.result.0, c.in_err-read.ensures, refl) in
    search rules
