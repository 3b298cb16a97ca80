use Rattle.std.proofs.Common.{◌≡◌, ◌+◌, ap, sym, ◌∙◌, rules}
use Rattle.memory.specs.declared.actions.Action.{Action}
use Rattle.memory.specs.Rules.{raise, reads}
use Rattle.memory.specs.ReleaseAcquire.{step}
use Rattle.memory.specs.MessageTable.{view_of, config, posted}
use Rattle.memory.proofs.release_acquire.ReleaseAcquire.perform.Goals as goal

pub returns-in-Swap-clause-next : goal.returns-in-Swap-clause-next
returns-in-Swap-clause-next c =
    let read : view_of c.reading-taken.result.view ≡ reads (config c.args.self.now).store c.args.process c.in-Swap.variable c.args.at = search rules in
    c.post-in-Swap.ensures
    ∙ (ap (posted (config c.args.self.now) c.args.process c.in-Swap.variable (c.args.at + 1) c.in-Swap.new)
    (c.raised-view-in-Swap.ensures ∙ ap (λ w. raise w c.in-Swap.variable (c.args.at + 1)) read)
    ∙ ap (λ (a : Action). (step (config c.args.self.now) c.args.process a c.args.at).next) (sym c.in-Swap.is))
