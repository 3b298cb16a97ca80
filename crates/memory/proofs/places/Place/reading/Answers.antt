use Rattle.std.proofs.Common.{sym, ap, ap₂, ◌∙◌}
use Rattle.memory.specs.Rules.{changes, or_first}
use Rattle.memory.specs.MessageTable.{slot_of}
use Rattle.memory.proofs.places.Place.reading.Goals as goal

pub returns-clause-switch : goal.returns-clause-switch
returns-clause-switch c =
    c.is_changed_by.ensures
    ∙ ap₂ (λ v m. changes c.args.self.now.memory.now.shape.variables v (or_first m).view)
    c.view-old.ensures (ap slot_of (sym c.in-Some.is) ∙ c.message.ensures)
