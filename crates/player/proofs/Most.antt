-- What is printed for an input goes by its first 3,856 bytes.
use Rattle.std.proofs.Common.{◌≡◌, ℕ, zero, suc, ◌+◌, ◌<◌, ◌≤◌, Bool, true, false, cond, ◌&&◌, eqb, List, [], ◌∷◌, length, take, drop, Some, None, Ok, Err, Option, Result, sym, refl, ap, ◌∙◌, subst, inl, inr, arith}
use Rattle.std.proofs.lemmas.Bool.{cases_lt}
use Rattle.std.proofs.lemmas.List.{drop-take, length-drop, length-take, take_all, take-take}
use Rattle.memory.specs.declared.kinds.Kind.{Kind}
use Rattle.memory.specs.declared.kinds.Kind.TheVariants.{Sequential, ReleaseAcquire}
use Rattle.memory.specs.Fences.{fenced}
use Rattle.memory.specs.Machine.{Machine}
use Rattle.memory.specs.ReleaseAcquire as release_acquire
use Rattle.memory.specs.Sequential as sequential
use Rattle.program.specs.declared.refusals.Refusal.{Refusal}
use Rattle.program.specs.declared.refusals.Refusal.TheVariants as of_tables
use Rattle.program.specs.Program.{Program}
use Rattle.program.specs.Reading.{then_do, read}
use Rattle.program.proofs.TooLong.{long_lines, long_table}
use Rattle.replay.specs.declared.faults.Fault.TheVariants as of_runs
use Rattle.replay.specs.declared.faults.Played.{Played}
use Rattle.replay.specs.declared.faults.Fault.{Fault}
use Rattle.replay.specs.Playing.{lines_read, played}
use Rattle.runs.specs.declared.lines.Wish.{Wish}
use Rattle.runs.specs.declared.questions.Question.{Question}
use Rattle.runs.specs.declared.questions.Unasked.{Unasked}
use Rattle.runs.specs.Asked.{judged}
use Rattle.runs.specs.Lines.{wish_of}
use Rattle.player.specs.Answers.{Answered, Asked, Read, Wished, end_words, played_over, told}
use Rattle.player.specs.Parts.{after_blank, before_blank}

-- whatever would be done with a run's lines
long_run : (go : List (List ℕ) → Result Played Fault) (run : List ℕ) → 600 < length run
    → then_do (lines_read run) go ≡ Err of_runs.Length
long_run go run long =
    ap (λ (r : Result (List (List ℕ)) Fault). then_do r go) (long_lines 0 24 of_runs.Length of_runs.Field run (omega arith))

long_played : {Config : Type 0} (m : Machine Config) (t : Program) (q : Question) (run : List ℕ) → 600 < length run
    → played m t q run ≡ Err of_runs.Length
long_played m t q run long = long_run _ run long

long_over : (k : Kind) (t : Program) (q : Question) (run : List ℕ) → 600 < length run → played_over k t q run ≡ Err of_runs.Length
long_over Sequential t q run long = long_played (fenced sequential.machine) t q run long
long_over ReleaseAcquire t q run long = long_played (fenced release_acquire.machine) t q run long

-- of a run that is too long no step is told
long_told : (k : Kind) (t : Program) (q : Question) (run : List ℕ) → 600 < length run
    → told t run (played_over k t q run) ≡ end_words (Err of_runs.Length)
long_told k t q run long = ap (told t run) (long_over k t q run long)

-- so one such run is told as another
module _ (w : Wish) (run other out : List ℕ) (long : 600 < length run) (as_long : 600 < length other) where
  asked_alike : (t : Program) (r : Result (Unit {0}) Unasked) → Asked w t run out r → Asked w t other out r
  asked_alike t (Ok u) h = (h.0, h.1, h.2 ∙ long_told w.memory t h.0 run long ∙ sym (long_told w.memory t h.0 other as_long))
  asked_alike t (Err why) h = h

  read_alike : (r : Result Program Refusal) → Read w run out r → Read w other out r
  read_alike (Ok t) h = asked_alike t (judged t w.steps w.switches w.targets) h
  read_alike (Err f) h = h

-- what stands before the first empty line of the front of a text
front : (empty : Bool) (n c : ℕ) (cs : List ℕ) → cond empty [] (c ∷ take n cs) ≡ take (suc n) (cond empty [] (c ∷ cs))
front true n c cs = refl
front false n c cs = refl

before_front : (begins : Bool) (n : ℕ) (text : List ℕ) → before_blank begins (take n text) ≡ take n (before_blank begins text)
before_front begins zero text = refl
before_front begins (suc n) [] = refl
before_front begins (suc n) (c ∷ cs) =
    ap (λ (xs : List ℕ). cond (begins && eqb c 10) [] (c ∷ xs)) (before_front (eqb c 10) n cs)
    ∙ front (begins && eqb c 10) n c (before_blank (eqb c 10) cs)

-- a text is no longer than what stands before its first empty line, that line and what follows
no_longer : (empty : Bool) (c : ℕ) (cs before after : List ℕ) → length cs ≤ length before + 1 + length after
    → length (c ∷ cs) ≤ length (cond empty [] (c ∷ before)) + 1 + length (cond empty cs after)
no_longer true c cs before after h = omega arith
no_longer false c cs before after h = omega arith

parts : (begins : Bool) (text : List ℕ) → length text ≤ length (before_blank begins text) + 1 + length (after_blank begins text)
parts begins [] = omega arith
parts begins (c ∷ cs) = no_longer (begins && eqb c 10) c cs (before_blank (eqb c 10) cs) (after_blank (eqb c 10) cs) (parts (eqb c 10) cs)

-- A table and a run of which the front was looked at: it is as long as the longest ones and one byte more.
module _ (w : Wish) (rest out : List ℕ) (long : 3827 ≤ length rest) where
  abbrev table : List ℕ
  table = before_blank true rest

  abbrev seen : List ℕ
  seen = take 3827 rest

  read_more : Read w (after_blank true seen) out (read (before_blank true seen)) → Read w (after_blank true rest) out (read table)
  read_more h =
      let same : before_blank true seen ≡ take 3827 table = before_front true 3827 rest in
      let whole : length seen ≡ 3827 = omega (arith, length-take 3827 rest) in
      let size = length-take 3827 table in
      elim (cases_lt 3225 (length (take 3827 table))) [
        | inl longer ↦
            let seen_long : read (before_blank true seen) ≡ Err of_tables.Length = ap read same ∙ long_table (take 3827 table) longer in
            let all_long : read table ≡ Err of_tables.Length = long_table table (omega arith) in
            subst (Read w (after_blank true rest) out) (sym all_long) (subst (Read w (after_blank true seen) out) seen_long h)
        | inr few ↦
            let all : before_blank true seen ≡ table = same ∙ take_all 3827 table (omega arith) in
            let size_seen = ap length all in
            read_alike w (after_blank true seen) (after_blank true rest) out
            (omega (arith, parts true seen)) (omega (arith, parts true rest)) (read table)
            (subst (λ (t : List ℕ). Read w (after_blank true seen) out (read t)) all h)
      ]

module _ (given out : List ℕ) (long : 3856 ≤ length given) where
  wished_more : (o : Option Wish) → Wished (take 3856 given) out o → Wished given out o
  wished_more (Some w) h =
      let rest : drop 29 (take 3856 given) ≡ take 3827 (drop 29 given) = drop-take 29 3827 given in
      read_more w (drop 29 given) out (omega (arith, length-drop 29 given))
      (subst (λ (xs : List ℕ). Read w (after_blank true xs) out (read (before_blank true xs))) rest h)
  wished_more None h = h

  longer : Answered (take 3856 given) out → Answered given out
  longer h =
      let o : wish_of (take 29 (take 3856 given)) ≡ wish_of (take 29 given) = ap wish_of (take-take 29 3856 given (omega arith)) in
      subst (Wished given out) o (wished_more (wish_of (take 29 (take 3856 given))) h)

-- what is printed for the front of an input belongs to all of it
pub answered_all : (given out : List ℕ) → Answered (take 3856 given) out → Answered given out
answered_all given out h = elim (cases_lt (length given) 3856) [
  | inl short ↦ subst (λ (xs : List ℕ). Answered xs out) (take_all 3856 given (omega arith)) h
  | inr long ↦ longer given out long h
]
