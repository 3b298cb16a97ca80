-- What a place stands for: the store of its memory, the message there, and the view of the process that accesses it.
use Rattle.std.specs.Prelude.{Option}
use Rattle.memory.specs.declared.places.Place.{Place}
use Rattle.memory.specs.Rules.{Message, Store, View}
use Rattle.memory.specs.MessageTable.{config}

abbrev pub store_at : Place → Store
store_at p = (config p.memory.now).store

abbrev pub slot_at : Place → Option Message
slot_at p = (store_at p).pool p.access.variable p.at

abbrev pub view_at : Place → View
view_at p = (store_at p).views p.access.process
