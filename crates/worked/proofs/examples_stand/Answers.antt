use Rattle.std.proofs.Common.{refl}
use Rattle.worked.proofs.Sittings.{written}
use Rattle.worked.proofs.examples_stand.Goals as goal

pub returns-clause-examples : goal.returns-clause-examples
returns-clause-examples c = record {
  is_read = refl;
  efforts = record { first = refl; second = refl; third = refl; fourth = refl };
  reports = record { written = λ out. refl; steps = refl; sixth = refl; ninth = refl };
  sittings = record { written = written };
  replays = record { same = refl; choice_2 = refl; choice_1 = refl; all_1 = refl; numbers = (refl, refl, refl) };
  no_steps = record { anywhere = refl; at_2 = refl };
  message_passing = record { is_read = refl; one_switch = refl; no_switch = refl };
  limits = record { steps_24 = refl; steps_25 = refl; bounds_number = refl; million = refl; none = refl; too_much = refl; effort_number = refl };
}
