-- Wherever the reading ends, what was read is the case with which the batch begins.
use Rattle.std.proofs.Common.{Some, rules}
use Rattle.sittings.specs.Cases.{First}
use Rattle.sittings.proofs.Readings.{begins_with}
use Rattle.sittings.proofs.cases.first_case.Goals as goal

pub returns-in_err-length-clause-only : goal.returns-in_err-length-clause-only
returns-in_err-length-clause-only c = begins_with c.args.batch.now _ (search rules)

pub returns-in_err-length-2-clause-only : goal.returns-in_err-length-2-clause-only
returns-in_err-length-2-clause-only c = begins_with c.args.batch.now _ (search rules)

pub returns-in_err-room-clause-only : goal.returns-in_err-room-clause-only
returns-in_err-room-clause-only c = begins_with c.args.batch.now _ (search rules)

pub returns-in_err-room-2-clause-only : goal.returns-in_err-room-2-clause-only
returns-in_err-room-2-clause-only c = begins_with c.args.batch.now _ (search rules)

pub returns-in_err-input-clause-only : goal.returns-in_err-input-clause-only
returns-in_err-input-clause-only c = begins_with c.args.batch.now _ (search rules)

pub returns-clause-only : goal.returns-clause-only
returns-clause-only c =
    let case : First = record { input = c.in_ok-input.input.now; room = c.in_ok-room-2.room; rest = c.in_ok-input.rest.now } in
    begins_with c.args.batch.now (Some case) (search rules)
