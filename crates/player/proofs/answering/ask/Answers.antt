use Rattle.std.proofs.Common.{string_bytes}
use Rattle.memory.specs.declared.kinds.Kind.TheVariants.{Sequential, ReleaseAcquire}
use Rattle.program.specs.Tables.{program}
use Rattle.player.proofs.Asks.{if_made, over}
use Rattle.player.proofs.answering.ask.Goals as goal

pub returns-in-Sequential : goal.returns-in-Sequential
returns-in-Sequential c =
    if_made _ _ c.play_over.result (λ s. over c.args.wish (program c.args.table.now) c.args.run.now (string_bytes s) c.in-Ok.question Sequential c.in-Sequential.is c.in-Ok.ensures.outcome c.in-Ok.ensures.asks) c.play_over.ensures

pub returns-in-ReleaseAcquire : goal.returns-in-ReleaseAcquire
returns-in-ReleaseAcquire c =
    if_made _ _ c.play_over-in-ReleaseAcquire.result (λ s. over c.args.wish (program c.args.table.now) c.args.run.now (string_bytes s) c.in-Ok.question ReleaseAcquire c.in-ReleaseAcquire.is c.in-Ok.ensures.outcome c.in-Ok.ensures.asks) c.play_over-in-ReleaseAcquire.ensures
