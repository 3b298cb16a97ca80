-- What the calls of a sitting come to.
use Rattle.std.proofs.Common.{◌≡◌, ℕ, List, Ok, Err, Result, ap, ◌∙◌}
use Rattle.memory.specs.Machine.{Machine}
use Rattle.program.specs.declared.refusals.Refusal.{Refusal as Unreadable}
use Rattle.program.specs.Program.{Program}
use Rattle.program.specs.Reading.{read}
use Rattle.runs.specs.declared.lines.Wish.{Wish}
use Rattle.session.specs.declared.refusals.Refusal.{Refusal}
use Rattle.session.specs.Contents.{Content}
use Rattle.session.specs.Outcomes.{as_table, loaded_in, put_in, taken}
use Rattle.session.specs.Series.{blank, booked, load_on, put_on}
use Rattle.session.specs.Answers.{loaded, opened, reported}
use Rattle.session.specs.Law.{content_of}
use Rattle.session.proofs.Laws.{at_once}
use Rattle.session.proofs.Loads.{put_value}
use Rattle.sitting.specs.Outputs.{answered, calls, load_call, put_calls, unless_refused}

-- load answers as it would in a new session
pub load_answers : (old new : Content) (text : List ℕ) (r : Result (Unit {0}) Refusal) → (r, new) ≡ loaded_in old text → r ≡ loaded blank text
load_answers old new text r e = go (read text) e
  where
    go : (x : Result Program Unreadable) → (r, new) ≡ taken old x → r ≡ as_table x
    go (Ok t) e = ap (λ (y : Result (Unit {0}) Refusal × Content). y.0) e
    go (Err why) e = ap (λ (y : Result (Unit {0}) Refusal × Content). y.0) e

module _ {Config : Type 0} (m : Machine Config) (w : Wish) (text : List ℕ) where
  -- and an accepted one leaves what a new session would hold
  pub load_holds : (old new : Content) → ◌≡◌ {A = Result (Unit {0}) Refusal × Content} (Ok tt, new) (loaded_in old text)
      → new ≡ content_of m (booked (load_call text))
  load_holds old new e = go (read text) e
    where
      go : (x : Result Program Unreadable) → ◌≡◌ {A = Result (Unit {0}) Refusal × Content} (Ok tt, new) (taken old x) → new ≡ content_of m (load_on blank x)
      go (Ok t) e = ap (λ (y : Result (Unit {0}) Refusal × Content). y.1) e
      go (Err why) e = let no : ◌≡◌ {A = Result (Unit {0}) Refusal} (Ok tt) (taken old (Err why)).0 = ap (λ (y : Result (Unit {0}) Refusal × Content). y.0) e in cc

  -- what the put of a sitting answers after it, and what is held then
  pub put_holds : (old new : Content) (r : Result (Unit {0}) Refusal) → old ≡ content_of m (booked (load_call text))
      → (r, new) ≡ put_in old w.steps w.switches w.targets
      → (r ≡ opened (booked (load_call text)) w.steps w.switches w.targets) × (new ≡ content_of m (booked (put_calls w text)))
  put_holds old new r holds e =
      let here = booked (load_call text) in
      at_once m old new (λ x. put_in x w.steps w.switches w.targets) here (put_on here w.steps w.switches w.targets)
      r (opened here w.steps w.switches w.targets) e holds (put_value m w.steps w.switches w.targets here)

  module _ (out : List ℕ) where
    abbrev opening_answer : Result (Unit {0}) Refusal
    opening_answer = opened (booked (load_call text)) w.steps w.switches w.targets

    abbrev last : Result ℕ Refusal × List ℕ
    last = reported m (booked (calls w text)) out

    pub not_loaded : (why : Refusal) → Err why ≡ loaded blank text → (Err why, out) ≡ answered m w text out
    not_loaded why l = ap (λ (r : Result (Unit {0}) Refusal). unless_refused r (unless_refused opening_answer last out) out) l

    pub not_opened : (why : Refusal) → Ok tt ≡ loaded blank text → Err why ≡ opening_answer → (Err why, out) ≡ answered m w text out
    not_opened why l e =
        ap (λ (r : Result (Unit {0}) Refusal). unless_refused r last out) e
        ∙ ap (λ (r : Result (Unit {0}) Refusal). unless_refused r (unless_refused opening_answer last out) out) l

    pub answers_last : (x : Result ℕ Refusal × List ℕ) → Ok tt ≡ loaded blank text → Ok tt ≡ opening_answer → x ≡ last → x ≡ answered m w text out
    answers_last x l o e =
        e ∙ ap (λ (r : Result (Unit {0}) Refusal). unless_refused r last out) o
        ∙ ap (λ (r : Result (Unit {0}) Refusal). unless_refused r (unless_refused opening_answer last out) out) l
