-- The ends of the processes, one pair of rows at a time.
use Rattle.std.proofs.Common.{◌≡◌, ℕ, ◌+◌, ◌≤◌, Bool, true, cond, ◌⊎◌, List, [], ◌∷◌, length, get_or, take, drop, Err, sym, ap, ◌∙◌, inl, inr, arith}
use Rattle.std.proofs.lemmas.List.{drop-drop}
use Rattle.std.proofs.lemmas.Bool.{or_left, or_right, eq-eqb}
use Rattle.program.specs.declared.refusals.Refusal.TheVariants.{NoTerm}
use Rattle.program.specs.declared.rows.Row.{Row}
use Rattle.program.specs.Program.{is_term}
use Rattle.program.specs.Reading.{ends_read}

-- a row is followed by one of its process, or is TERM
abbrev pub Passes : List Row → Row → Type 0
Passes pair d = ((get_or pair 0 d).process ≡ (get_or pair 1 d).process) ⊎ (is_term (get_or pair 0 d).instruction ≡ true)

ends_pass : (P i : ℕ) (left : List Row) (d : Row) → 2 ≤ length left → Passes (take 2 left) d → ends_read P i left ≡ ends_read P (i + 1) (drop 1 left)
ends_pass P i [] d long e = absurd (omega arith)
ends_pass P i (r ∷ []) d long e = absurd (omega arith)
ends_pass P i (r ∷ (s ∷ rows)) d long e =
    ap (λ (b : Bool). cond b (ends_read P (i + 1) (s ∷ rows)) (Err (NoTerm i))) (elim e [
      | inl same ↦ or_left _ _ (eq-eqb _ _ same)
      | inr term ↦ or_right _ _ term
    ])

pub ends_more : (P k n : ℕ) (rows left pair : List Row) (d : Row) → left ≡ drop k rows → pair ≡ take 2 left → 2 ≤ length left → n ≡ k + 1 → Passes pair d → ends_read P (n + 2) (drop n rows) ≡ ends_read P (k + 2) (drop k rows)
ends_more P k n rows left pair d at two long e pass =
    let number : n + 2 ≡ (k + 2) + 1 = omega arith in
    let rest : drop n rows ≡ drop 1 (drop k rows) = ap (λ (m : ℕ). drop m rows) e ∙ sym (drop-drop 1 k rows) in
    rw (number, rest, ← at) (sym (ends_pass P (k + 2) left d long (rw two at pass)))
