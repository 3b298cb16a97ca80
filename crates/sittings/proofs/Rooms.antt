-- A sitting writes at most 625 bytes, and looks only at whether its buffer has so many. So what is printed of a sitting is the
-- same in every buffer that has.
use Rattle.std.proofs.Common.{◌≡◌, ℕ, ◌<◌, ◌≤◌, Bool, true, false, leb, min, List, [], ◌∷◌, ◌++◌, length, take, drop, replicate, Ok, Err, Result, codes, decimal, refl, sym, ap, ap₂, ◌∙◌, subst, arith}
use Rattle.std.proofs.lemmas.Bool.{cond-true, le-leb, leb-true, leb-false}
use Rattle.std.proofs.lemmas.List.{length-replicate}
use Rattle.std.proofs.Math.Seq.{take-append_seam}
use Rattle.text.specs.Lines.{line_text}
use Rattle.text.specs.Writing.{over as written_over}
use Rattle.text.proofs.Lines.{length_line}
use Rattle.memory.specs.declared.kinds.Kind.{Kind}
use Rattle.memory.specs.declared.kinds.Kind.TheVariants.{Sequential, ReleaseAcquire}
use Rattle.memory.specs.Fences.{fenced}
use Rattle.memory.specs.Machine.{Machine}
use Rattle.memory.specs.Sequential as sequential
use Rattle.memory.specs.ReleaseAcquire as release_acquire
use Rattle.runs.specs.declared.lines.Wish.{Wish}
use Rattle.session.specs.declared.refusals.Refusal.{Refusal}
use Rattle.session.specs.declared.refusals.Refusal.TheVariants as refusal
use Rattle.session.specs.Answers.{loaded, opened, reported, text_after}
use Rattle.session.specs.Notices.{notice}
use Rattle.session.specs.Outcomes.{put_out}
use Rattle.session.specs.Series.{Book, blank, held, asked, booked}
use Rattle.sitting.specs.Inputs.{asked_in}
use Rattle.sitting.specs.Outputs.{answered, calls, in_a_line, load_call, sat, sat_by, sat_in, sat_over, told, unless_refused}
use Rattle.sitting.proofs.Lengths.{text_short}
use Rattle.sittings.specs.Batches.{outcome_text}

-- two outcomes of which the same is printed: a refusal, or so many bytes at the front of the buffers
Same : Result ℕ Refusal × List ℕ → Result ℕ Refusal × List ℕ → Type 0
Same (Ok n, a) (Ok k, b) = (n ≡ k) × (take n a ≡ take k b)
Same (Err e, a) (Err f, b) = e ≡ f
Same (Ok n, a) (Err f, b) = ⊥
Same (Err e, a) (Ok k, b) = ⊥

same_at : (w x y z : Result ℕ Refusal × List ℕ) → w ≡ x → z ≡ y → Same x y → Same w z
same_at w x y z p q h = subst (λ (u : Result ℕ Refusal × List ℕ). Same u z) (sym p) (subst (Same x) (sym q) h)

printed : (x y : Result ℕ Refusal × List ℕ) → Same x y → outcome_text x ≡ outcome_text y
unfolding Same
printed (Ok n, a) (Ok k, b) h = ap₂ (λ (i : ℕ) (l : List ℕ). decimal i ++ (codes "\n" ++ l)) h.0 h.1
printed (Err e, a) (Err f, b) h = ap (λ (why : Refusal). codes "refused " ++ (decimal (notice why).number ++ codes "\n")) h
printed (Ok n, a) (Err f, b) h = absurd h
printed (Err e, a) (Ok k, b) h = absurd h

-- what is held after a text was written at the front
front_of : (text out : List ℕ) → take (length text) (written_over text out) ≡ text
front_of text out = take-append_seam text (drop (length text) out)

-- a refusal is told by the same line
told_same : (why : Refusal) (a b : List ℕ) → take 25 (told why a).1 ≡ take 25 (told why b).1
told_same why a b =
    let fields : List ℕ = 0 ∷ (9 ∷ ((notice why).number ∷ ((notice why).place ∷ (0 ∷ (0 ∷ []))))) in
    let line = line_text fields in
    let long : length line ≡ 25 = length_line fields in
    let at : (out : List ℕ) → take 25 (written_over line out) ≡ line = λ out.
    ap (λ (n : ℕ). take n (written_over line out)) (sym long) ∙ front_of line out in
    at a ∙ sym (at b)

module _ (a b : List ℕ) (long_a : 625 ≤ length a) (long_b : 625 ≤ length b) where
  put_same : (text : List ℕ) → length text ≤ 625 → Same (put_out text a) (put_out text b)
  unfolding Same
  put_same text short =
      let n = length text in
      let at : (out : List ℕ) → 625 ≤ length out → put_out text out ≡ (Ok n, written_over text out) = λ out long.
      cond-true (leb n (length out)) (Ok n, written_over text out) (Err (refusal.Short n), out) (le-leb n (length out) (omega arith)) in
      same_at (put_out text a) (Ok n, written_over text a) (Ok n, written_over text b) (put_out text b) (at a long_a) (at b long_b)
      (refl, front_of text a ∙ sym (front_of text b))

  unless_same : {A : Type 0} (r : Result A Refusal) (x y : Result ℕ Refusal × List ℕ) → Same x y
      → Same (unless_refused r x a) (unless_refused r y b)
  unfolding Same
  unless_same (Ok u) x y h = h
  unless_same (Err why) x y h = refl

  module _ {Config : Type 0} (m : Machine Config) where
    report_same : (k : Book) → Same (reported m k a) (reported m k b)
    unfolding Same
    report_same blank = refl
    report_same (held t) = refl
    report_same (asked t q E) = put_same (text_after m t q E) (text_short m t q E)

    line_same : (x y : Result ℕ Refusal × List ℕ) → Same x y → Same (in_a_line m x) (in_a_line m y)
    unfolding Same
    line_same (Ok n, c) (Ok k, d) h = h
    line_same (Err e, c) (Err f, d) h = (refl, ap (λ (why : Refusal). take 25 (told why c).1) h ∙ told_same f c d)
    line_same (Ok n, c) (Err f, d) h = absurd h
    line_same (Err e, c) (Ok k, d) h = absurd h

    answer_same : (w : Wish) (text : List ℕ) → Same (answered m w text a) (answered m w text b)
    answer_same w text =
        let put = opened (booked (load_call text)) w.steps w.switches w.targets in
        let k = booked (calls w text) in
        unless_same (loaded blank text) (unless_refused put (reported m k a) a) (unless_refused put (reported m k b) b)
        (unless_same put (reported m k a) (reported m k b) (report_same k))

    sat_same : (w : Wish) (text : List ℕ) → Same (sat m w text a) (sat m w text b)
    sat_same w text =
        let at : (out : List ℕ) → 625 ≤ length out → sat m w text out ≡ in_a_line m (answered m w text out) = λ out long.
        cond-true (leb 625 (length out)) (in_a_line m (answered m w text out)) (Err refusal.Buffer, out) (le-leb 625 (length out) long) in
        same_at (sat m w text a) (in_a_line m (answered m w text a)) (in_a_line m (answered m w text b)) (sat m w text b)
        (at a long_a) (at b long_b)
        (line_same (answered m w text a) (answered m w text b) (answer_same w text))

  over_same : (k : Kind) (w : Wish) (text : List ℕ) → Same (sat_over k w text a) (sat_over k w text b)
  over_same Sequential w text = sat_same (fenced sequential.machine) w text
  over_same ReleaseAcquire w text = sat_same (fenced release_acquire.machine) w text

  by_same : (r : Result (Wish × List ℕ) Refusal) → Same (sat_by r a) (sat_by r b)
  unfolding Same
  by_same (Ok request) = over_same request.0.memory request.0 request.1
  by_same (Err why) = (refl, told_same why a b)

  in_same : (input : List ℕ) → Same (sat_in input a) (sat_in input b)
  in_same input =
      let at : (out : List ℕ) → 625 ≤ length out → sat_in input out ≡ sat_by (asked_in input) out = λ out long.
      cond-true (leb 625 (length out)) (sat_by (asked_in input) out) (Err refusal.Buffer, out) (le-leb 625 (length out) long) in
      same_at (sat_in input a) (sat_by (asked_in input) a) (sat_by (asked_in input) b) (sat_in input b) (at a long_a) (at b long_b)
      (by_same (asked_in input))

-- so a buffer of 625 bytes serves for any more
pub cut_room : (input : List ℕ) (room : ℕ)
    → outcome_text (sat_in input (replicate (min room 625) 0)) ≡ outcome_text (sat_in input (replicate room 0))
cut_room input room = go (leb 625 room) refl
  where
    go : (b : Bool) → leb 625 room ≡ b
        → outcome_text (sat_in input (replicate (min room 625) 0)) ≡ outcome_text (sat_in input (replicate room 0))
    go true e =
        let high : 625 ≤ room = leb-true 625 room e in
        let least : min room 625 ≡ 625 = omega arith in
        let long : 625 ≤ length (replicate room 0) = omega (arith, length-replicate {A = ℕ} room 0) in
        let short : 625 ≤ length (replicate (min room 625) 0) = omega (arith, length-replicate {A = ℕ} (min room 625) 0) in
        printed (sat_in input (replicate (min room 625) 0)) (sat_in input (replicate room 0))
        (in_same (replicate (min room 625) 0) (replicate room 0) short long input)
    go false e =
        let low : room < 625 = leb-false 625 room e in
        let same : min room 625 ≡ room = omega arith in
        ap (λ (n : ℕ). outcome_text (sat_in input (replicate n 0))) same
