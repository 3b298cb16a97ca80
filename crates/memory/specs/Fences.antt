-- The fence layer: a fence is a swap of variable 0 from 0 to 0, and every other action is passed on.
use Rattle.memory.specs.declared.actions.Action.{Action}
use Rattle.memory.specs.declared.actions.Action.TheVariants.{Local, Read, Write, Swap, Fence}
use Rattle.memory.specs.Machine.{Machine}

abbrev pub lowered : Action → Action
lowered Local = Local
lowered (Read x) = Read x
lowered (Write x v) = Write x v
lowered (Swap x old new) = Swap x old new
lowered Fence = Swap 0 0 0

abbrev pub fenced : {Config : Type 0} → Machine Config → Machine Config
fenced m = record {
  initial = m.initial;
  offer = λ s p a. m.offer s p (lowered a);
  step = λ s p a c. m.step s p (lowered a) c;
}
