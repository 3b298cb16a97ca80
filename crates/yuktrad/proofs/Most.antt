-- What is printed for an input goes by its first 4,001 bytes.
use Rattle.std.proofs.Common.{◌≡◌, ℕ, ◌<◌, true, cond, leb, List, length, take, drop, replicate, Err, Result, sym, ap, ◌∙◌, inl, inr, arith}
use Rattle.std.proofs.lemmas.Bool.{cases_lt, and_parts, cond-false, false_from_ne_true, leb-true}
use Rattle.std.proofs.lemmas.List.{length-take, take_all}
use Rattle.program.specs.Program.{within}
use Rattle.runs.specs.declared.lines.Wish.{Wish}
use Rattle.runs.specs.Lines.{wish_of}
use Rattle.session.specs.declared.refusals.Refusal.{Refusal}
use Rattle.session.specs.declared.refusals.Refusal.TheVariants.{Buffer, Input}
use Rattle.sitting.specs.Inputs.{asked_by, asked_in}
use Rattle.sitting.specs.Outputs.{sat_by}
use Rattle.yuktrad.specs.Printing.{printed, written}

-- a longer input is too long
too_long : (input : List ℕ) → 4000 < length input → asked_in input ≡ Err Input
too_long input long =
    let fits = within 29 4000 (length input) in
    cond-false fits (asked_by (wish_of (take 29 input)) (drop 29 input)) (Err Input) (false_from_ne_true fits (λ (t : fits ≡ true).
    omega (arith, leb-true (length input) 4000 (and_parts (leb 29 (length input)) (leb (length input) 4000) t).1)))

-- and so is what was looked at of it
asked_alike : (given : List ℕ) → asked_in (take 4001 given) ≡ asked_in given
asked_alike given = elim (cases_lt (length given) 4001) [
  | inl short ↦ ap asked_in (take_all 4001 given (omega arith))
  | inr long ↦ too_long (take 4001 given) (omega (arith, length-take 4001 given)) ∙ sym (too_long given (omega arith))
]

pub printed_alike : (given : List ℕ) → printed (take 4001 given) ≡ printed given
printed_alike given =
    let out = replicate 625 0 in
    ap (λ (r : Result (Wish × List ℕ) Refusal). written (cond (leb 625 (length out)) (sat_by r out) (Err Buffer, out)))
    (asked_alike given)
