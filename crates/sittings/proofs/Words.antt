-- What is printed for a batch, in a reader's words.
use Rattle.std.proofs.Common.{◌≡◌, ℕ, zero, suc, ◌+◌, ◌<◌, ◌≤◌, List, [], ◌∷◌, ◌++◌, length, Some, None, Ok, Err, inl, inr, Option, Result, refl, sym, ap, ◌∙◌, subst, arith, append_assoc}
use Rattle.std.specs.List.{flat_map}
use Rattle.intake.specs.Serving.{Serves}
use Rattle.sittings.specs.Cases.{Begins, First, case_of}
use Rattle.sittings.specs.Batches.{Answers, Holds, batch_text, case_text, ending, text_by, texts}
use Rattle.sittings.proofs.Readings.{begins_with}
use Rattle.sittings.proofs.Turns.{shorter}

-- what is printed from case n on
record Answered (n : ℕ) (batch text : List ℕ) : Type 0 where
  cases : List First
  left : List ℕ
  holds : Holds batch cases left
  text_is : text ≡ flat_map case_text cases ++ ending (n + length cases) left

no_case : (batch : List ℕ) (c : First) → length batch ≤ 0 → Begins batch c → ⊥
no_case batch c few b = absurd (omega (arith, shorter batch c b))

answered_by : (turns n : ℕ) (batch : List ℕ) (o : Option First) → o ≡ case_of batch
    → ((c : First) → length c.rest < length batch → Answered (n + 1) c.rest (texts turns (n + 1) c.rest))
    → Answered n batch (text_by n batch (texts turns (n + 1)) o)
answered_by turns n batch None e after =
    let same : n ≡ n + 0 = omega arith in
    record { cases = []; left = batch; holds = (refl, begins_with batch None e); text_is = ap (λ (k : ℕ). ending k batch) same }
answered_by turns n batch (Some c) e after =
    let b = (begins_with batch (Some c) e).0 in
    let more = after c (shorter batch c b) in
    let same : n + 1 + length more.cases ≡ n + length (c ∷ more.cases) = omega arith in
    record {
      cases = c ∷ more.cases;
      left = more.left;
      holds = (b, more.holds);
      text_is =
          ap (λ (l : List ℕ). case_text c ++ l) (more.text_is ∙ ap (λ (k : ℕ). flat_map case_text more.cases ++ ending k more.left) same)
          ∙ sym (append_assoc (case_text c) (flat_map case_text more.cases) (ending (n + length (c ∷ more.cases)) more.left));
    }

answered : (turns n : ℕ) (batch : List ℕ) → length batch ≤ turns → Answered n batch (texts turns n batch)
answered zero n batch few =
    let same : n ≡ n + 0 = omega arith in
    record { cases = []; left = batch; holds = (refl, λ c b. no_case batch c few b); text_is = ap (λ (k : ℕ). ending k batch) same }
answered (suc turns) n batch few =
    answered_by turns n batch (case_of batch) refl (λ c less. answered turns (n + 1) c.rest (omega arith))

answers : (batch : List ℕ) → Answers batch (batch_text batch)
answers batch =
    let all = answered (length batch) 1 batch (omega arith) in
    record { cases = all.cases; left = all.left; holds = all.holds; text_is = all.text_is }

-- so what serves the one serves the other
pub in_words : {E : Type 0} (given old new : Option (List ℕ)) (r : Result (Unit {0}) E)
    → Serves (λ given text. text ≡ batch_text given) given old new r → Serves Answers given old new r
in_words (Some bytes) old new (Ok u) s = (s.0, subst (Answers bytes) (sym s.1) (answers bytes), s.2)
in_words None old new (Ok u) s = tt
in_words given old new (Err e) (inl kept) = inl kept
in_words (Some bytes) old new (Err e) (inr s) = inr (s.0, subst (Answers bytes) (sym s.1) (answers bytes), s.2)
in_words None old new (Err e) (inr s) = inr tt
