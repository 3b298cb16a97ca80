-- A sitting's thousand works come to one effort of a thousand million, which computes.
use Rattle.std.proofs.Common.{◌≡◌, ℕ, ◌≤◌, cond, List, length, Ok, Err, Result, nat_le, refl, ap, ◌∙◌, arith}
use Rattle.std.proofs.lemmas.Bool.{cond-true, le-leb}
use Rattle.text.specs.Writing.{over}
use Rattle.ceiling.specs.Ceiling.{memory}
use Rattle.program.specs.Program.{Program}
use Rattle.runs.specs.declared.questions.Question.{Question}
use Rattle.session.specs.declared.refusals.Refusal.{Refusal}
use Rattle.session.specs.declared.refusals.Refusal.TheVariants.{Buffer, Short}
use Rattle.session.specs.Outcomes.{put_out}
use Rattle.session.specs.Answers.{reported, text_after}
use Rattle.session.specs.Series.{Book, asked, from}
use Rattle.sitting.specs.Outputs.{in_a_line, sat_in, works}
use Rattle.sitting.proofs.Sits.{works_asked}
use Rattle.worked.specs.Tables.{store_buffering}
use Rattle.worked.specs.Examples.{sb_input, sb_report}

module _ (out : List ℕ) (room : 625 ≤ length out) where
  abbrev outcome : Book → Result ℕ Refusal × List ℕ
  outcome b = in_a_line memory (reported memory b out)

  abbrev short : Result ℕ Refusal × List ℕ
  short = (Err Buffer, out)

  -- the report after all works, in a buffer that has room
  done : (t : Program) (q : Question) (text : List ℕ) → text_after memory t q 1000000000 ≡ text → length text ≡ 225
      → cond (nat_le 625 (length out)) (cond (nat_le 625 (length out)) (outcome (from (asked t q 0) (works 1000))) short) short ≡ (Ok 225, over text out)
  done t q text is size =
      let long = le-leb 625 (length out) room in
      cond-true (nat_le 625 (length out)) (cond (nat_le 625 (length out)) (outcome (from (asked t q 0) (works 1000))) short) short long
      ∙ cond-true (nat_le 625 (length out)) (outcome (from (asked t q 0) (works 1000))) short long
      ∙ ap outcome (works_asked t q 0 1000)
      ∙ ap (λ (x : List ℕ). in_a_line memory (put_out x out)) is
      ∙ ap (in_a_line memory) (cond-true (nat_le (length text) (length out)) (Ok (length text), over text out) (Err (Short (length text)), out)
      (le-leb (length text) (length out) (omega arith)))
      ∙ ap (λ (n : ℕ). (Ok n, over text out)) size

  pub written : sat_in sb_input out ≡ (Ok 225, over sb_report out)
  written = done store_buffering _ sb_report refl refl
