-- What an input asks for, in a reader's words, and what a sitting of its own writes then.
use Rattle.std.proofs.Common.{◌≡◌, ℕ, ◌≤◌, ◌⊎◌, inl, inr, Bool, true, false, cond, leb, List, ◌++◌, length, take, drop, Some, None, Ok, Err, Option, Result, refl, sym, ap, ◌∙◌, subst}
use Rattle.std.proofs.Math.Seq.{take-append_seam}
use Rattle.std.proofs.lemmas.Bool.{and_from, and_parts, both_ways, le-leb, leb-true}
use Rattle.std.proofs.lemmas.List.{take-append-drop}
use Rattle.program.specs.Program.{within}
use Rattle.runs.specs.declared.lines.Wish.{Wish}
use Rattle.runs.specs.Lines.{wish_of}
use Rattle.runs.specs.QuestionLines.{LineOf, Says}
use Rattle.runs.proofs.QuestionLines.{line_long, says}
use Rattle.session.specs.declared.refusals.Refusal.{Refusal}
use Rattle.session.specs.declared.refusals.Refusal.TheVariants as refusal
use Rattle.sitting.specs.Inputs.{asked_by, asked_in}
use Rattle.sitting.specs.Sits.{LineTold, SeatSays, SittingSays, Sized}

-- the input begins with the line of this wish, and then comes the text
record Begins (input : List ℕ) (w : Wish) (text : List ℕ) : Type 0 where
  line : List ℕ
  are : input ≡ line ++ text
  wished : LineOf w line

-- what is read of an input
abbrev Read : List ℕ → Result (Wish × List ℕ) Refusal → Type 0
Read input (Ok (w, text)) = Sized input × Begins input w text
Read input (Err why) =
    ((Sized input → ⊥) × (why ≡ refusal.Input))
    ⊎ (Sized input × ((w : Wish) (line text : List ℕ) → input ≡ line ++ text → LineOf w line → ⊥) × (why ≡ refusal.QuestionLine))

sized_is : (input : List ℕ) → within 29 4000 (length input) ≡ true → Sized input
sized_is input e = let both = and_parts (leb 29 (length input)) (leb (length input) 4000) e in (leb-true 29 (length input) both.0, leb-true (length input) 4000 both.1)

not_sized : (input : List ℕ) → within 29 4000 (length input) ≡ false → Sized input → ⊥
not_sized input e l =
    both_ways (within 29 4000 (length input)) e (and_from (leb 29 (length input)) (leb (length input) 4000) (le-leb 29 (length input) l.0) (le-leb (length input) 4000 l.1))

by_line : (input : List ℕ) → Sized input → (o : Option Wish) → Says (take 29 input) o → Read input (asked_by o (drop 29 input))
by_line input sized (Some w) s = (sized, record { line = take 29 input; are = sym (take-append-drop 29 input); wished = s.0 })
by_line input sized None s = inr (
  sized,
  λ w line text e h.
      let front : take 29 input ≡ line =
      ap (take 29) e ∙ ap (λ (n : ℕ). take n (line ++ text)) (sym (line_long w line h)) ∙ take-append_seam line text in
      s w (subst (LineOf w) (sym front) h),
  refl,
)

reads : (input : List ℕ) → Read input (asked_in input)
reads input = go (within 29 4000 (length input)) refl
  where
    go : (b : Bool) → within 29 4000 (length input) ≡ b → Read input (cond b (asked_by (wish_of (take 29 input)) (drop 29 input)) (Err refusal.Input))
    go true e = by_line input (sized_is input e) (wish_of (take 29 input)) (says (take 29 input) (wish_of (take 29 input)) refl)
    go false e = inl (not_sized input e, refl)

-- a refusal of the input is told in a line
pub tells : (input out new : List ℕ) (n : ℕ) (why : Refusal) → asked_in input ≡ Err why → 625 ≤ length out → LineTold out n new why → SittingSays input out (Ok n) new
tells input out new n why e room line = go (subst (Read input) e (reads input))
  where
    go : Read input (Err why) → SittingSays input out (Ok n) new
    go (inl (other, is)) = (room, inl (other, subst (LineTold out n new) is line))
    go (inr (sized, wrong, is)) = (room, inr (inl (record { sized = sized; wrong = wrong; line = subst (LineTold out n new) is line })))

-- and what is written for a wish and a text belongs to the input that has them
pub seats : (input out new : List ℕ) (r : Result ℕ Refusal) (w : Wish) (text : List ℕ) → asked_in input ≡ Ok (w, text)
    → SeatSays w text out r new → SittingSays input out r new
seats input out new (Err why) w text e says = says
seats input out new (Ok n) w text e says =
    let read : Sized input × Begins input w text = subst (Read input) e (reads input) in (
      says.0,
      inr (inr (record {
        sized = read.0;
        wish = w;
        line = read.1.line;
        text = text;
        are = read.1.are;
        wished = read.1.wished;
        written = says.1;
      })),
    )
