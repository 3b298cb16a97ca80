-- A step at the timestamp of a choice is a take of the choice.
use Rattle.std.proofs.Common.{◌≡◌, ℕ, ap, ◌∙◌}
use Rattle.memory.specs.declared.actions.Action.{Action}
use Rattle.memory.specs.declared.actions.Seen.{Seen}
use Rattle.memory.specs.Machine.{Accepted}
use Rattle.memory.specs.ReleaseAcquire.{Config, step, machine}
use Rattle.memory.specs.MessageTable.{Found}

-- the step at the timestamp of a choice is the step of the choice
pub choice_taken : (s : Config) (p : ℕ) (a : Action) (c t : ℕ) (u : Config) (seen : Seen) → Found s p a c t
    → u ≡ (step s p a t).next → seen.value ≡ (step s p a t).value → seen.switch ≡ (step s p a t).mark → Accepted machine s p a c u seen
choice_taken s p a c t u seen found next value mark = record {
  offered = found.offered;
  after = next ∙ ap (λ j. (step s p a j).next) found.chosen;
  value = value ∙ ap (λ j. (step s p a j).value) found.chosen;
  mark = mark ∙ ap (λ j. (step s p a j).mark) found.chosen;
}
