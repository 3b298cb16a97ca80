-- Where a search stands in the list of runs of its question, and what a work does.
use Rattle.std.specs.Prelude.{◌≡◌, ℕ, ◌+◌, ◌*◌, Bool, List, [], ◌∷◌}
use Rattle.memory.specs.Machine.{Machine}
use Rattle.ceiling.specs.declared.moves.Move.{Move}
use Rattle.program.specs.Program.{Program}
use Rattle.runs.specs.declared.cursors.Cursor.{Cursor}
use Rattle.runs.specs.declared.questions.Question.{Question}
use Rattle.runs.specs.declared.searches.Search.{Search}
use Rattle.runs.specs.declared.verdicts.Verdict.{Verdict}
use Rattle.runs.specs.declared.verdicts.Verdict.TheVariants.{More, Found, None}
use Rattle.runs.specs.declared.verdicts.Worked.{Worked}
use Rattle.runs.specs.Runs.{end_of, list, rest}
use Rattle.runs.specs.Listed.{Lists, TheList}
use Rattle.runs.specs.Look.{Look, answers, look}
use Rattle.runs.specs.First.{Decided, Says}
use Rattle.runs.specs.Asked.{arrived, root, system}
use Rattle.runs.specs.Cursors.{IsPath, Sound}
use Rattle.runs.specs.Paths.{path}

module _ {Config : Type 0} (m : Machine Config) (t : Program) where
  -- the run reaches the targets
  abbrev pub hits : Question → List Move → Bool
  hits q r = arrived q (end_of (system m t) (root m t q).world r)

  -- what looking at the first E runs of the list shows
  abbrev pub shown : Question → ℕ → Look
  shown q E = look (hits q) E (list (system m t) (root m t q))

  -- the runs that are not passed, from the one where the search stands
  abbrev pub pending_at : Question → Verdict → List Move → List (List Move)
  pending_at q More r = r ∷ rest (system m t) (root m t q) r
  pending_at q Found r = r ∷ rest (system m t) (root m t q) r
  pending_at q None r = []

  abbrev pub pending : Search → List (List Move)
  pending s = pending_at s.question s.verdict (path s.run)

  -- what passing along the runs from r with the effort e ends with: the answer, and the run to
  pub record Passed (q : Question) (r : List Move) (e : ℕ) (worked : Worked) (to : List Move) : Type 0 where
    pub looked : look (hits q) e (r ∷ rest (system m t) (root m t q) r)
        ≡ record { units = worked.units; verdict = worked.verdict; left = pending_at q worked.verdict to }
    pub over : worked.verdict ≡ None → to ≡ []

  -- What a work with the effort e does with a search s that stands at a run; after the last run it stands at the first.
  pub record Goes (s : Search) (e : ℕ) (worked : Worked) (new : Search) : Type 0 where
    pub run : IsPath m t s.question (path new.run)
    pub looked : answers s.verdict (hits s.question) e (pending s)
        ≡ record { units = worked.units; verdict = worked.verdict; left = pending_at s.question worked.verdict (path new.run) }
    pub over : s.verdict ≡ More → worked.verdict ≡ None → path new.run ≡ []

  -- the one outcome; a search that has its answer stays as it is, and so does one of another table, which stands at no run
  -- of this one
  pub record Works (s : Search) (e : ℕ) (worked : Worked) (new : Search) : Type 0 where
    pub question : new.question ≡ s.question
    pub verdict : new.verdict ≡ worked.verdict
    pub goes : IsPath m t s.question (path s.run) → Goes s e worked new
    pub stands : (s.verdict ≡ More → ⊥) → (worked.units ≡ 0) × (new ≡ s)
    pub astray : (IsPath m t s.question (path s.run) → ⊥) → (worked.units ≡ 0) × (worked.verdict ≡ s.verdict) × (new ≡ s)

  -- Where a work of the search s leaves the cursor c: as it was, if s has its answer; else at the run where the search stops; and
  -- where s stands at no run, with the run and the room that it had.
  pub record Rests {X : Type 0} (config : X → Config) (s new : Search) (c after : Cursor X) : Type 0 where
    pub answered : (s.verdict ≡ More → ⊥) → after ≡ c
    pub stopped : s.verdict ≡ More → IsPath m t s.question (path s.run) → Sound m t s.question config after × (path after.run ≡ path new.run)
    pub astray : (IsPath m t s.question (path s.run) → ⊥) → (after.run ≡ c.run) × (after.room ≡ c.room)

  -- The search stands where works since the question was put have brought it: their efforts add up to E, their units to U.
  pub record Since (s : Search) (E U : ℕ) : Type 0 where
    pub run : IsPath m t s.question (path s.run)
    pub verdict : s.verdict ≡ (shown s.question E).verdict
    pub left : pending s ≡ (shown s.question E).left
    pub units : U ≡ (shown s.question E).units

  -- What the verdict, the units and the run are after the effort E in all, in a reader's words.
  pub record Tells (q : Question) (E U : ℕ) (verdict : Verdict) (r : List Move) : Type 0 where
    -- of the list of the runs within bounds, whichever way it is given
    pub says : (L : List (List Move)) → Lists (system m t) (root m t q).world q.steps q.switches L
        → Says (system m t) (root m t q).world q.steps q.switches (arrived q) L E verdict U r
    -- which leaves no other answer
    pub one : (L : List (List Move)) → Lists (system m t) (root m t q).world q.steps q.switches L
        → (v : Verdict) (u : ℕ) (x : List Move) → Says (system m t) (root m t q).world q.steps q.switches (arrived q) L E v u x
        → (v ≡ verdict) × (u ≡ U) × (v ≡ Found → x ≡ r)
    -- an answer that is settled is a matter of the runs alone
    pub settled : (verdict ≡ More → ⊥) → Decided (system m t) (root m t q).world q.steps q.switches (arrived q) verdict r

  -- a work since the question was put goes on from the works before it
  abbrev pub Told : Search → ℕ → Worked → Search → Type 0
  Told s e worked new =
      (E U : ℕ) → Since s E U → Since new (E + e) (U + worked.units) × Tells s.question (E + e) (U + worked.units) worked.verdict (path new.run)

  -- the list of the runs of a question, over a memory whose widest offer is given
  abbrev pub HasList : ℕ → Question → Type 0
  HasList widest q = TheList (system m t) (t.counts.processes * widest) (root m t q).world q.steps q.switches
