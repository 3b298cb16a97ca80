-- What is printed for an input, by what is read of it.
use Rattle.std.proofs.Common.{◌≡◌, ℕ, List, Some, None as Nothing, Ok, Err, Result, IfOk, sym, ap, ◌∙◌, subst}
use Rattle.memory.specs.declared.kinds.Kind.{Kind}
use Rattle.program.specs.declared.refusals.Refusal.{Refusal}
use Rattle.program.specs.Program.{Program}
use Rattle.program.specs.Reading.{read}
use Rattle.runs.specs.declared.lines.Wish.{Wish}
use Rattle.runs.specs.declared.questions.Question.{Question}
use Rattle.runs.specs.Asked.{judged, Asks}
use Rattle.runs.specs.Lines.{wish_of}
use Rattle.player.specs.Answers.{Answered, Asked, Read, Wished, played_over, told}
use Rattle.player.specs.Parts.{question_part, table_part, run_part}

-- over the memory that is asked for
pub over : (w : Wish) (t : Program) (run out : List ℕ) (q : Question) (kind : Kind)
    → w.memory ≡ kind → Ok tt ≡ judged t w.steps w.switches w.targets → Asks t w.steps w.switches w.targets q
    → out ≡ told t run (played_over kind t q run) → Asked w t run out (judged t w.steps w.switches w.targets)
over w t run out q kind k e asks h =
    subst (Asked w t run out) e (q, asks, h ∙ ap (λ (x : Kind). told t run (played_over x t q run)) (sym k))

-- what follows of whatever was made, if there was memory for it
pub if_made : {T E : Type 0} (P Q : T → Type 0) (made : Result T E) → ((x : T) → P x → Q x) → IfOk made P → IfOk made Q
if_made P Q (Ok x) f h = f x h
if_made P Q (Err e) f h = tt

-- an input whose question line is not read, whose table is not, or whose question can be put to its table
module _ (input out : List ℕ) where
  pub unread : Nothing ≡ wish_of (question_part input) → Wished input out Nothing → Answered input out
  unread e h = subst (Wished input out) e h

  module _ (w : Wish) (wished : Some w ≡ wish_of (question_part input)) where
    pub untabled : (f : Refusal) → Err f ≡ read (table_part input) → Read w (run_part input) out (Err f) → Answered input out
    untabled f e h = subst (Wished input out) wished (subst (Read w (run_part input) out) e h)

    pub asked : (t : Program) → Ok t ≡ read (table_part input)
        → Asked w t (run_part input) out (judged t w.steps w.switches w.targets) → Answered input out
    asked t e h = subst (Wished input out) wished (subst (Read w (run_part input) out) e h)
