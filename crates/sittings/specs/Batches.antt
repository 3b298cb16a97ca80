-- What is printed for a batch.
use Rattle.std.specs.Prelude.{◌≡◌, ℕ, zero, suc, ◌+◌, List, [], ◌∷◌, ◌++◌, length, take, replicate, Some, None, Ok, Err, Option, Result, codes, decimal}
use Rattle.std.specs.List.{flat_map}
use Rattle.session.specs.declared.refusals.Refusal.{Refusal}
use Rattle.session.specs.Notices.{notice}
use Rattle.sitting.specs.Outputs.{sat_in}
use Rattle.sittings.specs.Cases.{Begins, First, case_of}

-- a line with the number of bytes that a sitting wrote, and these bytes; or a line with its refusal
abbrev pub outcome_text : Result ℕ Refusal × List ℕ → List ℕ
outcome_text (Ok n, out) = decimal n ++ (codes "\n" ++ take n out)
outcome_text (Err why, out) = codes "refused " ++ (decimal (notice why).number ++ codes "\n")

-- for a case: of a sitting on its input, in a buffer of so many zeros as its room says
abbrev pub case_text : First → List ℕ
case_text c = outcome_text (sat_in c.input (replicate c.room 0))

-- after the last case: nothing at the end of the batch, or the line of the case that cannot be read
abbrev pub ending : ℕ → List ℕ → List ℕ
ending n [] = []
ending n (b ∷ bs) =
    codes "case " ++ (decimal n ++
    codes " cannot be read: a case is a line of two numbers, the bytes of its input and of its buffer, and then its input\n")

-- the text of the case with which it begins, and then what follows; or the ending, where it begins with none
abbrev pub text_by : ℕ → List ℕ → (List ℕ → List ℕ) → Option First → List ℕ
text_by n batch more (Some c) = case_text c ++ more c.rest
text_by n batch more None = ending n batch

-- case after case, where the next is case n, in at most so many turns
abbrev pub texts : ℕ → ℕ → List ℕ → List ℕ
texts zero n batch = ending n batch
texts (suc turns) n batch = text_by n batch (texts turns (n + 1)) (case_of batch)

-- cases count from 1, and a batch has no more of them than bytes
abbrev pub batch_text : List ℕ → List ℕ
batch_text batch = texts (length batch) 1 batch

-- The same in a reader's words. The batch is these cases, one after another, and then what is left, with which no case begins.
abbrev pub Holds : List ℕ → List First → List ℕ → Type 0
Holds batch [] left = (batch ≡ left) × ((c : First) → Begins batch c → ⊥)
Holds batch (c ∷ cs) left = Begins batch c × Holds c.rest cs left

-- The text is that of each of its cases, and then the ending.
pub record Answers (batch text : List ℕ) : Type 0 where
  pub cases : List First
  pub left : List ℕ
  pub holds : Holds batch cases left
  pub text_is : text ≡ flat_map case_text cases ++ ending (1 + length cases) left
