-- The ceiling of release-acquire memory loses nothing, whatever calls there were.
use Rattle.std.proofs.Common.{◌≡◌, ℕ, ◌↔◌, true, List, [], Some, refl, sym, ap, ◌∙◌, subst}
use Rattle.memory.specs.Bytes as bytes
use Rattle.memory.specs.Fenced.{leads_below, lowered_takes}
use Rattle.memory.specs.ReleaseAcquire.{Config, machine}
use Rattle.memory.specs.Timely.{always_timely}
use Rattle.memory.proofs.Ceilings.{message_low, seen_low, sent_low}
use Rattle.memory.proofs.Shapings.{shaped_is}
use Rattle.ceiling.specs.declared.moves.Move.{Move}
use Rattle.ceiling.specs.Ceiling.{memory, LosesNothing, Reachable, Reached}
use Rattle.ceiling.specs.Programs.{World, opening}
use Rattle.ceiling.proofs.Both.{enough}
use Rattle.program.specs.Program.{Program, proper}
use Rattle.worlds.specs.declared.places.Place.{Place}
use Rattle.worlds.specs.Worlds.{over}
use Rattle.runs.specs.declared.questions.Question.{Question}
use Rattle.runs.specs.declared.verdicts.Verdict.{Verdict}
use Rattle.runs.specs.declared.verdicts.Verdict.TheVariants.{More, Found, None}
use Rattle.runs.specs.Asked.{Asks, arrived, meets, system}
use Rattle.runs.specs.First.{Decided, front}
use Rattle.runs.specs.Listed.{Within}
use Rattle.runs.specs.Runs.{end_of}
use Rattle.runs.specs.Searches.{shown}
use Rattle.runs.proofs.Asked.{asks_of}
use Rattle.runs.proofs.Works.{tells_by}
use Rattle.replay.proofs.Fits.{end_sound}
use Rattle.session.specs.declared.standings.Stage.TheVariants as stage
use Rattle.session.specs.Outcomes.{content_after, stage_by}
use Rattle.session.specs.Series.{Book, blank, held, asked, booked}
use Rattle.session.specs.Contents.{Content}
use Rattle.session.specs.Free.{Low, Timeless, IfAsked, Freed}
use Rattle.session.specs.Law.{After, content_of}
use Rattle.session.proofs.Books.{Asking, Sound, proper_kept, sound}
use Rattle.session.proofs.Knows.{found_some}
use Rattle.session.proofs.Laws.{after_value}

module _ (t : Program) (q : Question) (good : proper t ≡ true) (asking : Asking t q) where
  asks : Asks t asking.steps asking.switches asking.targets q
  asks = asks_of t asking.steps asking.switches asking.targets q asking.is

  loses_nothing : LosesNothing q.shape (over t) q.steps
  loses_nothing =
      subst (LosesNothing q.shape (over t)) (sym asks.steps)
      (enough Place t.counts.processes t.counts.variables asking.steps (Some q.shape)
      (shaped_is t.counts.processes t.counts.variables asking.steps q.shape asks.shape) (over t))

  abbrev start : World Config Place
  start = opening memory (over t) q.shape

  abbrev Runs : List Move → Type 0
  Runs r = Within (system memory t) start q.steps q.switches r

  reached : (r : List Move) → Runs r → arrived q (end_of (system memory t) start r) ≡ true → Reached q.shape (over t) q.steps q.switches (meets q.targets)
  reached r w a = (r, w.run, w.moves, w.few_switches, a)

  found_of : (v : Verdict) → stage_by v ≡ stage.Found → v ≡ Found
  found_of Found e = refl
  found_of More e = cc
  found_of None e = cc

  abbrev Answer : Type 0
  Answer = Reachable q.shape (over t) q.steps q.switches (meets q.targets)

  -- a settled answer, by its verdict
  pub found_free : (v : Verdict) (x : List Move) → ((v ≡ More → ⊥) → Decided (system memory t) start q.steps q.switches (arrived q) v x)
      → (v ≡ More → ⊥) → (v ≡ Found) ↔ Answer
  found_free v x d closed =
      let some = found_some memory t q v x d closed in
      let free = loses_nothing.answers q.switches (meets q.targets) in (
        λ e. let s = some.0 e in free.0 (reached s.0 s.1.within s.1.reaches),
        λ a. let r = free.1 a in
            some.1 (r.0, record { within = record { run = r.1; moves = r.2; few_switches = r.3 }; reaches = r.4 }),
      )

  by_stage : (v : Verdict) (x : List Move) → ((v ≡ More → ⊥) → Decided (system memory t) start q.steps q.switches (arrived q) v x)
      → (stage_by v ≡ stage.Open → ⊥) → (stage_by v ≡ stage.Found) ↔ Answer
  by_stage v x d closed =
      let free = found_free v x d (λ e. closed (ap stage_by e)) in
      (λ e. free.0 (found_of v e), λ a. ap stage_by (free.1 a))

  run_low : (r : List Move) → Runs r → Low q.steps (end_of (system memory t) start r).config.store
  run_low r w =
      let end = end_of (system memory t) start r in
      let sound = end_sound memory t (proper_kept t good) (bytes.fences machine bytes.release_acquire) q.shape r w.run in
      let timely = always_timely q.shape (lowered_takes machine sound.takes) end.config (leads_below machine (memory.initial q.shape) sound.takes end.config sound.led) in
      let n = asking.steps in
      let by = asks.shape in
      subst (λ (x : ℕ). Low x end.config.store) (sym asks.steps) (record {
        messages = message_low t.counts.processes t.counts.variables n q.shape by end.config timely.0 timely.1;
        sent = sent_low t.counts.processes t.counts.variables n q.shape by end.config timely.0 timely.1;
        seen = seen_low t.counts.processes t.counts.variables n q.shape by end.config timely.0 timely.1;
      })

  pub timeless : (E : ℕ) → Timeless (content_of memory (asked t q E)) q
  timeless E =
      let l = shown memory t q E in
      let tells = tells_by memory t q E l.units l.verdict (front l.left) refl refl (λ _. refl) in
      record { settled = by_stage l.verdict (front l.left) tells.settled; low = run_low }

-- of a new session, after any series of calls
pub freed : (c : Content) → After memory [] c → Freed c
freed c new h = subst (λ (x : Content). IfAsked x x.inquiry) (sym (ap (λ (x : Content). content_after memory x h) new ∙ after_value memory blank h)) (go (booked h) (sound h))
  where
    go : (b : Book) → Sound b → IfAsked (content_of memory b) (content_of memory b).inquiry
    go blank s = tt
    go (held t) s = tt
    go (asked t q E) s = timeless t q s.0 s.1 E
