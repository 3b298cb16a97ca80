-- What is refused is wrong in the way that the refusal says: the lines and the header.
use Rattle.std.proofs.Common.{◌≡◌, ℕ, ◌≤◌, List, ◌∷◌, length, Ok, Err, sym, ap, ◌∙◌, subst, inl, inr}
use Rattle.std.specs.List.{AllByRecursion}
use Rattle.program.specs.declared.refusals.Refusal.{Refusal}
use Rattle.program.specs.declared.refusals.Refusal.TheVariants.{Length, Field, Header}
use Rattle.program.specs.Faults.{Faulty}
use Rattle.program.specs.Program.{Six, lines_text}
use Rattle.program.specs.Reading.{lines_read, header_read, header_fits, counts_of}
use Rattle.program.proofs.Outcomes.{cond_err, not_both}
use Rattle.program.proofs.Texts.{header_back}
use Rattle.program.proofs.WrongLines.{wrong_lines}

pub no_lines : (text : List ℕ) (f : Refusal) → lines_read text ≡ Err f → Faulty text f
no_lines text f e = wrong_lines 2 129 Length Field text (Faulty text) (λ h. h) (λ i h. h) f e

pub no_header : (text h : List ℕ) (fs : List (List ℕ)) (f : Refusal) → AllByRecursion Six (h ∷ fs) → text ≡ lines_text (h ∷ fs) → 1 ≤ length fs → length fs ≤ 128 → header_read h (length fs) ≡ Err f → Faulty text f
no_header text h fs f six are low high e = elim (cond_err (header_fits h (length fs)) (Ok (counts_of h)) Header f e) [
  | inl t ↦ subst (Faulty text) t.1 (record {
    first = h;
    others = fs;
    numbers = six;
    are = are;
    some = (low, high);
    wrong = λ c fit is. not_both f c (sym e ∙ ap (λ (x : List ℕ). header_read x (length fs)) is ∙ header_back c (length fs) fit low high);
  })
  | inr t ↦ not_both f (counts_of h) (sym t.1)
]
