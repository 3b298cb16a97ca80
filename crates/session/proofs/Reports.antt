-- A report's lines as its text at the front of a buffer.
use Rattle.std.proofs.Common.{◌≡◌, ℕ, ◌*◌, ◌<◌, ◌≤◌, Bool, cond, List, length, Ok, Err, Result, sym, ap, ap₂, ◌∙◌, arith}
use Rattle.std.proofs.lemmas.Bool.{le-leb, lt-leb}
use Rattle.std.specs.List.{AllByRecursion}
use Rattle.text.specs.Writing.{over}
use Rattle.program.specs.Program.{Six, lines_text}
use Rattle.program.proofs.LineTexts.{length_lines}
use Rattle.session.specs.declared.refusals.Refusal.{Refusal}
use Rattle.session.specs.declared.refusals.Refusal.TheVariants.{Short}
use Rattle.session.specs.Outcomes.{put_out}

module _ (fs text : List (List ℕ)) (out : List ℕ) (same : fs ≡ text) (six : AllByRecursion Six fs) where
  long : length (lines_text text) ≡ 25 * length fs
  long = ap (λ (x : List (List ℕ)). length (lines_text x)) (sym same) ∙ length_lines fs six

  abbrev put_if : Bool → Result ℕ Refusal × List ℕ
  put_if b = cond b (Ok (length (lines_text text)), over (lines_text text) out) (Err (Short (length (lines_text text))), out)

  pub put_whole : (new : List ℕ) → 25 * length fs ≤ length out → new ≡ over (lines_text fs) out
      → (Ok (25 * length fs), new) ≡ put_out (lines_text text) out
  put_whole new room e =
      let bytes : new ≡ over (lines_text text) out = e ∙ ap (λ (x : List (List ℕ)). over (lines_text x) out) same in
      ap₂ (λ (n : ℕ) (z : List ℕ). (Ok n, z)) (sym long) bytes
      ∙ sym (ap put_if (le-leb (length (lines_text text)) (length out) (omega (arith, long))))

  pub put_short : length out < 25 * length fs → (Err (Short (25 * length fs)), out) ≡ put_out (lines_text text) out
  put_short room =
      ap (λ (n : ℕ). (Err (Short n), out)) (sym long)
      ∙ sym (ap put_if (lt-leb (length (lines_text text)) (length out) (omega (arith, long))))
