-- One case after another.
use Rattle.std.proofs.Common.{◌≡◌, ℕ, suc, ◌+◌, ◌<◌, false, eqb, codes, decimal, refl, List, [], ◌∷◌, ◌++◌, length, Some, None, Option, Result, IsErr, sym, ap, ◌∙◌, subst, arith, append_assoc}
use Rattle.std.proofs.lemmas.List.{length-append}
use Rattle.std.specs.Io.KnownBytes.{Appends}
use Rattle.std.proofs.lemmas.Result.{MatchResult-from_err}
use Rattle.std.proofs.KnownBytes.{Appends-nil, Appends-trans}
use Rattle.intake.specs.Serving.{AppendsFront, Writes}
use Rattle.intake.proofs.Serving.{front_after, front_of_first, writes_after}
use Rattle.sittings.specs.Cases.{Begins, First, case_of}
use Rattle.sittings.specs.Batches.{case_text, ending, text_by, texts}

-- some bytes are left
pub ending_some : (n : ℕ) (rest : List ℕ) → eqb (length rest) 0 ≡ false
    → codes "case " ++ (decimal n ++ codes " cannot be read: a case is a line of two numbers, the bytes of its input and of its buffer, and then its input\n")
    ≡ ending n rest
ending_some n [] e = cc
ending_some n (b ∷ bs) e = refl

-- an error before anything is written, and one after a front of it was
pub unwritten : {E : Type 0} (old : Option (List ℕ)) (r : Result (Unit {0}) E) (text : List ℕ) → IsErr r → Writes old old r text
unwritten old r text failed = MatchResult-from_err r (λ _. Appends old old text) (λ _. AppendsFront old old text) failed (λ _. (0, Appends-nil old))

pub stopped : {E : Type 0} (old new : Option (List ℕ)) (r : Result (Unit {0}) E) (text : List ℕ) → IsErr r → AppendsFront old new text → Writes old new r text
stopped old new r text failed front = MatchResult-from_err r (λ _. Appends old new text) (λ _. AppendsFront old new text) failed (λ _. front)

-- a case has some bytes
pub shorter : (batch : List ℕ) (c : First) → Begins batch c → length c.rest < length batch
shorter batch c b =
    omega (
      arith,
      ap length b.batch_is,
      length-append b.size (32 ∷ (b.space ++ (10 ∷ (c.input ++ c.rest)))),
      length-append b.space (10 ∷ (c.input ++ c.rest)),
      length-append c.input c.rest,
    )

-- What was written, and what is printed of the rest from case n on in so many turns, is all.
pub record Stands (old now : Option (List ℕ)) (turns n : ℕ) (rest all : List ℕ) : Type 0 where
  pub done : List ℕ
  pub bytes : Appends old now done
  pub text : done ++ texts turns n rest ≡ all

module _ (old now : Option (List ℕ)) (all : List ℕ) where
  -- a case's text is written
  pub goes_on : (left turns n : ℕ) (rest : List ℕ) (c : First) (new : Option (List ℕ)) → left ≡ suc turns → Stands old now left n rest all
      → Some c ≡ case_of rest → Appends now new (case_text c) → Stands old new turns (n + 1) c.rest all
  goes_on left turns n rest c new more s is bytes =
      let text : case_text c ++ texts turns (n + 1) c.rest ≡ texts left n rest =
      ap (text_by n rest (texts turns (n + 1))) is ∙ ap (λ (k : ℕ). texts k n rest) (sym more) in
      record {
        done = s.done ++ case_text c;
        bytes = Appends-trans old now new s.done (case_text c) s.bytes bytes;
        text = append_assoc s.done (case_text c) (texts turns (n + 1) c.rest) ∙ ap (λ (l : List ℕ). s.done ++ l) text ∙ s.text;
      }

  -- a case's text is not written to its end
  pub breaks : (left turns n : ℕ) (rest : List ℕ) (c : First) (new : Option (List ℕ)) → left ≡ suc turns → Stands old now left n rest all
      → Some c ≡ case_of rest → AppendsFront now new (case_text c) → AppendsFront old new all
  breaks left turns n rest c new more s is front =
      let text : case_text c ++ texts turns (n + 1) c.rest ≡ texts left n rest =
      ap (text_by n rest (texts turns (n + 1))) is ∙ ap (λ (k : ℕ). texts k n rest) (sym more) in
      subst (AppendsFront old new) (ap (λ (l : List ℕ). s.done ++ l) text ∙ s.text)
      (front_after old now new s.done (case_text c ++ texts turns (n + 1) c.rest) s.bytes (front_of_first now new (case_text c) (texts turns (n + 1) c.rest) front))

  -- the ending is written, where no case begins
  pub ends : {E : Type 0} (left turns n : ℕ) (rest : List ℕ) (new : Option (List ℕ)) (r : Result (Unit {0}) E) → left ≡ suc turns
      → Stands old now left n rest all → None ≡ case_of rest → Writes now new r (ending n rest) → Writes old new r all
  ends left turns n rest new r more s is bytes =
      let text : ending n rest ≡ texts left n rest =
      ap (text_by n rest (texts turns (n + 1))) is ∙ ap (λ (k : ℕ). texts k n rest) (sym more) in
      subst (Writes old new r) (ap (λ (l : List ℕ). s.done ++ l) text ∙ s.text)
      (writes_after old now new r s.done (ending n rest) s.bytes bytes)
