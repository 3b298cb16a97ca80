-- Each call keeps the law of every series of calls.
use Rattle.std.proofs.Common.{◌≡◌, ℕ, List, [], ◌∷◌, Option, Result, refl, ap, ◌∙◌}
use Rattle.memory.specs.Machine.{Machine}
use Rattle.program.specs.Reading.{read}
use Rattle.runs.specs.declared.verdicts.Worked.{Worked}
use Rattle.replay.specs.declared.faults.Played.{Played}
use Rattle.session.specs.declared.refusals.Refusal.{Refusal}
use Rattle.session.specs.declared.standings.Standing.{Standing}
use Rattle.session.specs.declared.steps.Step.{Step}
use Rattle.session.specs.Contents.{Content}
use Rattle.session.specs.Outcomes.{content_after, content_next, loaded_in, put_in, replayed_in, reported_in, standing_in, stepped_in, worked_in}
use Rattle.session.specs.Series as call
use Rattle.session.specs.Answers.{loaded, opened, replayed, reported, stepped, stood, worked}
use Rattle.session.specs.Law.{content_of, Lawful}
use Rattle.session.proofs.Books.{lawful}
use Rattle.session.proofs.Loads.{load_value, put_value, work_value}
use Rattle.session.proofs.Shows.{replay_value, report_value, stand_value, step_value}

module _ {Config : Type 0} (m : Machine Config) where
  -- what a series amounts to, and what a session holds after it, call by call
  pub next_value : (b : call.Book) (c : call.Call) → content_next m (content_of m b) c ≡ content_of m (call.next b c)
  next_value b (call.load text) = ap (λ (y : Result (Unit {0}) Refusal × Content). y.1) (load_value m text b)
  next_value b (call.put n k targets) = ap (λ (y : Result (Unit {0}) Refusal × Content). y.1) (put_value m n k targets b)
  next_value b (call.work e) = ap (λ (y : Result Worked Refusal × Content). y.1) (work_value m e b)
  next_value b call.standing = refl
  next_value b (call.step i) = refl
  next_value b (call.replay text) = refl
  next_value b (call.report out) = refl

  pub after_value : (b : call.Book) (h : List call.Call) → content_after m (content_of m b) h ≡ content_of m (call.from b h)
  after_value b [] = refl
  after_value b (c ∷ h) = ap (λ (x : Content). content_after m x h) (next_value b c) ∙ after_value (call.next b c) h

module _ {Config : Type 0} (m : Machine Config) (old new : Content) where
  -- an outcome that is known of every content is the answer, and what is held then
  pub at_once : {A : Type 0} (f : Content → A × Content) (b next : call.Book) (r a : A) → (r, new) ≡ f old → old ≡ content_of m b
      → f (content_of m b) ≡ (a, content_of m next) → (r ≡ a) × (new ≡ content_of m next)
  at_once f b next r a e s v =
      let all = e ∙ ap f s ∙ v in
      (ap (λ (y : _ × Content). y.0) all, ap (λ (y : _ × Content). y.1) all)

  pub load_lawful : (text : List ℕ) (r : Result (Unit {0}) Refusal) → (r, new) ≡ loaded_in old text
      → Lawful m (call.load text) (λ b. loaded b text) old r new
  load_lawful text r e = lawful m (call.load text) (λ b. loaded b text) old r new
      (λ b good s. at_once (λ c. loaded_in c text) b (call.load_on b (read text)) r (loaded b text) e s (load_value m text b))

  pub put_lawful : (n k : ℕ) (targets : List ℕ) (r : Result (Unit {0}) Refusal) → (r, new) ≡ put_in old n k targets
      → Lawful m (call.put n k targets) (λ b. opened b n k targets) old r new
  put_lawful n k targets r e = lawful m (call.put n k targets) (λ b. opened b n k targets) old r new
      (λ b good s. at_once (λ c. put_in c n k targets) b (call.put_on b n k targets) r (opened b n k targets) e s (put_value m n k targets b))

  pub work_lawful : (e : ℕ) (r : Result Worked Refusal) → (r, new) ≡ worked_in m old e → Lawful m (call.work e) (λ b. worked m b e) old r new
  work_lawful e r d = lawful m (call.work e) (λ b. worked m b e) old r new
      (λ b good s. at_once (λ c. worked_in m c e) b (call.work_on b e) r (worked m b e) d s (work_value m e b))

  pub standing_lawful : (r : Standing) → r ≡ standing_in old → Lawful m call.standing (stood m) old r old
  standing_lawful r e = lawful m call.standing (stood m) old r old (λ b good s. (e ∙ ap standing_in s ∙ stand_value m b good, s))

  module _ (same : new ≡ old) where
    pub step_lawful : (i : ℕ) (o : Option Step) → o ≡ stepped_in m old i → Lawful m (call.step i) (λ b. stepped m b i) old o new
    step_lawful i o e = lawful m (call.step i) (λ b. stepped m b i) old o new
        (λ b good s. (e ∙ ap (λ (c : Content). stepped_in m c i) s ∙ step_value m i b, same ∙ s))

    pub replay_lawful : (text : List ℕ) (r : Result Played Refusal) → r ≡ replayed_in m old text
        → Lawful m (call.replay text) (λ b. replayed m b text) old r new
    replay_lawful text r e = lawful m (call.replay text) (λ b. replayed m b text) old r new
        (λ b good s. (e ∙ ap (λ (c : Content). replayed_in m c text) s ∙ replay_value m text b, same ∙ s))

    pub report_lawful : (out : List ℕ) (r : Result ℕ Refusal × List ℕ) → r ≡ reported_in m old out
        → Lawful m (call.report out) (λ b. reported m b out) old r new
    report_lawful out r e = lawful m (call.report out) (λ b. reported m b out) old r new
        (λ b good s. (e ∙ ap (λ (c : Content). reported_in m c out) s ∙ report_value m out b, same ∙ s))
