-- What a sitting writes, byte for byte, by the session's own definitions.
use Rattle.std.specs.Prelude.{ℕ, zero, suc, cond, List, [], ◌∷◌, ◌++◌, length, Ok, Err, Result, nat_le}
use Rattle.text.specs.Lines.{line_text}
use Rattle.text.specs.Writing.{over}
use Rattle.memory.specs.declared.kinds.Kind.{Kind}
use Rattle.memory.specs.declared.kinds.Kind.TheVariants.{Sequential, ReleaseAcquire}
use Rattle.memory.specs.Fences.{fenced}
use Rattle.memory.specs.Machine.{Machine}
use Rattle.memory.specs.Sequential as sequential
use Rattle.memory.specs.ReleaseAcquire as release_acquire
use Rattle.runs.specs.declared.lines.Wish.{Wish}
use Rattle.session.specs.declared.refusals.Refusal.{Refusal}
use Rattle.session.specs.declared.refusals.Refusal.TheVariants.{Buffer}
use Rattle.session.specs.Notices.{notice}
use Rattle.session.specs.Series.{Call, load, put, work, blank, booked}
use Rattle.session.specs.Answers.{loaded, opened, reported}
use Rattle.sitting.specs.Inputs.{asked_in}

-- a refusal as a line at the front of the buffer, with its length
abbrev pub told : Refusal → List ℕ → ℕ × List ℕ
told why out = (25, over (line_text (0 ∷ (9 ∷ ((notice why).number ∷ ((notice why).place ∷ (0 ∷ (0 ∷ []))))))) out)

-- so many works with an effort of a million
unfoldable pub works : ℕ → List Call
works zero = []
works (suc n) = works n ++ (work 1000000 ∷ [])

abbrev pub load_call : List ℕ → List Call
load_call text = load text ∷ []

abbrev pub put_calls : Wish → List ℕ → List Call
put_calls w text = load text ∷ (put w.steps w.switches w.targets ∷ [])

-- the calls of a sitting before its report
abbrev pub calls : Wish → List ℕ → List Call
calls w text = put_calls w text ++ works 1000

-- the first refusal and the buffer as it was, or what comes next
abbrev pub unless_refused : {A : Type 0} → Result A Refusal → Result ℕ Refusal × List ℕ → List ℕ → Result ℕ Refusal × List ℕ
unless_refused (Ok u) after out = after
unless_refused (Err why) after out = (Err why, out)

module _ {Config : Type 0} (m : Machine Config) where
  -- load's answer or put's where they are refused, else the report after a thousand works
  abbrev pub answered : Wish → List ℕ → List ℕ → Result ℕ Refusal × List ℕ
  answered w text out =
      unless_refused (loaded blank text)
      (unless_refused (opened (booked (load_call text)) w.steps w.switches w.targets) (reported m (booked (calls w text)) out) out) out

  -- a refusal is told in a line
  abbrev pub in_a_line : Result ℕ Refusal × List ℕ → Result ℕ Refusal × List ℕ
  in_a_line (Ok n, out) = (Ok n, out)
  in_a_line (Err why, out) = let line = told why out in (Ok line.0, line.1)

  abbrev pub sat : Wish → List ℕ → List ℕ → Result ℕ Refusal × List ℕ
  sat w text out = cond (nat_le 625 (length out)) (in_a_line (answered w text out)) (Err Buffer, out)

-- over the memory that is asked for, with its fence layer
abbrev pub sat_over : Kind → Wish → List ℕ → List ℕ → Result ℕ Refusal × List ℕ
sat_over Sequential w text out = sat (fenced sequential.machine) w text out
sat_over ReleaseAcquire w text out = sat (fenced release_acquire.machine) w text out

abbrev pub sat_by : Result (Wish × List ℕ) Refusal → List ℕ → Result ℕ Refusal × List ℕ
sat_by (Ok request) out = sat_over request.0.memory request.0 request.1 out
sat_by (Err why) out = let line = told why out in (Ok line.0, line.1)

-- the one outcome
abbrev pub sat_in : List ℕ → List ℕ → Result ℕ Refusal × List ℕ
sat_in input out = cond (nat_le 625 (length out)) (sat_by (asked_in input) out) (Err Buffer, out)
