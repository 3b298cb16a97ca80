-- One more turn.
use Rattle.std.proofs.Common.{◌≡◌, ℕ, ◌+◌, Bool, false, cond, eqb, Some, None, Ok, Err, Result, sym, ap, ◌∙◌, arith, ne_eqb}
use Rattle.program.specs.declared.refusals.Refusal.{Refusal}
use Rattle.program.specs.Program.{Program}
use Rattle.program.specs.Tables.{taken_in}
use Rattle.rereading.specs.declared.Outcomes.{Outcomes}
use Rattle.rereading.specs.Turns.{repeated}

-- the outcomes with one more
abbrev pub with_one : Outcomes → Result (Unit {0}) Refusal → Outcomes
with_one o (Ok _) = record { accepted = o.accepted + 1; refused = o.refused; last = o.last }
with_one o (Err f) = record { accepted = o.accepted; refused = o.refused + 1; last = Some f }

pub not_none : (n : ℕ) → eqb (n + 1) 0 ≡ false
not_none n = ne_eqb (n + 1) 0 (λ e. omega (arith, e))

pub one_more : (old held next : Program) (o : Outcomes) (r : Result Program Refusal) (said : Result (Unit {0}) Refusal) (n : ℕ) → (o, held) ≡ repeated old r n → (said, next) ≡ taken_in held r → (with_one o said, next) ≡ repeated old r (n + 1)
one_more old held next o (Ok p) said n before now =
    ap (λ (t : Result (Unit {0}) Refusal × Program). (with_one o t.0, t.1)) now
    ∙ ap (λ (t : Outcomes × Program). (with_one t.0 (Ok tt), p)) before
    ∙ ap (λ (b : Bool). (record { accepted = n + 1; refused = 0; last = None }, cond b old p)) (sym (not_none n))
one_more old held next o (Err f) said n before now =
    ap (λ (t : Result (Unit {0}) Refusal × Program). (with_one o t.0, t.1)) now
    ∙ ap (λ (t : Outcomes × Program). (with_one t.0 (Err f), t.1)) before
    ∙ ap (λ (b : Bool). (record { accepted = 0; refused = n + 1; last = cond b None (Some f) }, old)) (sym (not_none n))
