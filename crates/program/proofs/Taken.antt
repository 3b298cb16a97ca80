-- What a text was read as, from what reading it into a table answered; for the crates above.
use Rattle.std.proofs.Common.{◌≡◌, Ok, Err, Result, sym, ap}
use Rattle.program.specs.declared.refusals.Refusal.{Refusal}
use Rattle.program.specs.Program.{Program}
use Rattle.program.specs.Tables.{taken_in}
use Rattle.program.proofs.Outcomes.{not_both}

abbrev told : Result (Unit {0}) Refusal × Program → Result (Unit {0}) Refusal
told z = z.0

pub read_ok : (old p : Program) (o : Result Program Refusal) → (Ok tt, p) ≡ taken_in old o → o ≡ Ok p
read_ok old p (Ok q) h = sym (ap (λ (z : Result (Unit {0}) Refusal × Program). Ok z.1) h)
read_ok old p (Err f) h = not_both f tt (sym (ap told h))

pub read_err : (old p : Program) (f : Refusal) (o : Result Program Refusal) → (Err f, p) ≡ taken_in old o → o ≡ Err f
read_err old p f (Ok q) h = not_both f tt (ap told h)
read_err old p f (Err e) h = let same : Err f ≡ Err e = ap told h in cc
