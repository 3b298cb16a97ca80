-- What is refused is wrong in the way that the refusal says.
use Rattle.std.proofs.Common.{◌≡◌, ℕ, ◌+◌, ◌-◌, ◌<◌, ◌≤◌, Bool, true, false, cond, ◌&&◌, eqb, leb, ltb, ◌⊎◌, List, [], ◌∷◌, ◌++◌, length, get_or, Some, None, Err, Option, sym, refl, ap, ◌∙◌, subst, inl, inr, arith}
use Rattle.std.proofs.lemmas.Bool.{and_parts, and_from, and_cases, eqb-true, eqb-false, leb-true, le-leb, leb-false, ltb-true, ltb-false}
use Rattle.std.proofs.lemmas.List.{length-append}
use Rattle.memory.specs.declared.actions.Action.{Action}
use Rattle.memory.specs.Machine.{Machine}
use Rattle.ceiling.specs.declared.moves.Move.{Move}
use Rattle.ceiling.specs.Programs.{World, deed, offers}
use Rattle.program.specs.Program.{Program, within}
use Rattle.program.proofs.LineTexts.{lines_are}
use Rattle.program.proofs.Outcomes.{then_err}
use Rattle.program.proofs.RowTexts.{six_are}
use Rattle.program.proofs.WrongLines.{wrong_lines}
use Rattle.worlds.specs.declared.places.Place.{Place}
use Rattle.worlds.specs.declared.records.Record.{Record}
use Rattle.worlds.specs.Worlds.{over, label_in, record_of}
use Rattle.runs.specs.declared.questions.Question.{Question}
use Rattle.runs.specs.Runs.{switches_of}
use Rattle.runs.specs.Asked.{system}
use Rattle.replay.specs.declared.faults.Fault.{Fault}
use Rattle.replay.specs.declared.faults.Fault.TheVariants.{Length, Field, Number, Process, Seen, Bounds}
use Rattle.replay.specs.Bounded.{start, led_by, IsBounded}
use Rattle.replay.specs.Faults.{Spells, Line, numbers_of, CanFollow, StandsAt, Reached, Placed, Faulty}
use Rattle.replay.specs.Fields.{run_fields}
use Rattle.replay.specs.Playing.{mark_number, record_fields, move_of, is_label, unoffered, line_fault, lines_read, lines_played, played}
use Rattle.replay.proofs.Breaks.{Breaks, AtEnd, AtLine, breaks, run_more, switches_more}
use Rattle.replay.proofs.Rights.{label_there}

-- a test failed, and its fault is told; or it passed, and what is told comes after it
fails : (b : Bool) (o : Option Fault) (g f : Fault) → cond b o (Some g) ≡ Some f → ((b ≡ false) × (g ≡ f)) ⊎ ((b ≡ true) × (o ≡ Some f))
fails true o g f e = inr (refl, e)
fails false o g f e = inl (refl, cc)

fails_last : (b : Bool) (g f : Fault) → cond b None (Some g) ≡ Some f → (b ≡ false) × (g ≡ f)
fails_last true g f e = let z : ◌≡◌ {A = ℕ} 0 1 = cc in absurd (omega arith)
fails_last false g f e = (refl, cc)

-- a label that is found is there
found : (b : Bool) (l n : ℕ) → is_label (cond b (Some l) None) n ≡ true → (b ≡ true) × (l ≡ n)
found true l n e = (refl, eqb-true l n e)
found false l n e = let z : ◌≡◌ {A = ℕ} 0 1 = cc in absurd (omega arith)

lost : (b : Bool) (l : ℕ) → is_label (cond b (Some l) None) l ≡ false → b ≡ true → ⊥
lost b l e h = let there = label_there b l h in let z : ◌≡◌ {A = ℕ} 0 1 = cc in omega arith

-- the numbers of a line, by their names
abbrev line_of : List ℕ → Line
line_of f = record {
  number = get_or f 0 0;
  process = get_or f 1 0;
  label = get_or f 2 0;
  choice = get_or f 3 0;
  value = get_or f 4 0;
  mark = get_or f 5 0;
}

module _ {Config : Type 0} (m : Machine Config) (t : Program) (q : Question) where
  -- where the lines before line i are those of the run r, which made s switches, and line i has the numbers f
  module _ (text : List ℕ) (i s : ℕ) (r : List Move) (f : List ℕ) (reached : Reached m t q text i r (line_of f)) (six : length f ≡ 6)
      (counted : s ≡ switches_of (system m t) (start m t q) r) where
    abbrev w : World Config Place
    w = led_by m t q r

    abbrev k : Move
    k = move_of f

    abbrev step : Record
    step = record_of m t w k

    abbrev marked : ℕ
    marked = mark_number step.switch

    abbrev offered : ℕ
    offered = offers m (over t) w k.process

    abbrev numbers : List ℕ
    numbers = numbers_of (line_of f)

    abbrev told : Fault → Type 0
    told = Faulty m t q text

    abbrev may_bound : Option Fault
    may_bound = cond (leb i q.steps && leb (s + marked) q.switches) None (Some (Bounds i))

    abbrev may_see : Option Fault
    may_see = cond (eqb (get_or f 4 0) step.value && eqb (get_or f 5 0) marked) may_bound (Some (Seen i))

    abbrev may_choose : Option Fault
    may_choose = cond (ltb k.choice offered) may_see (Some (unoffered i (deed m (over t) w k.process) offered))

    abbrev may_stand : Option Fault
    may_stand = cond (is_label (label_in t w.places k.process) (get_or f 2 0)) may_choose (Some (Process i))

    -- a move that can be made follows the run
    follows : k.choice < offered → CanFollow m t q r k
    follows may = run_more (system m t) (start m t q) r k reached.bounded.run may

    -- the line is the step's, and the bounds are passed
    by_bounds : (fault : Fault) → k.choice < offered → f ≡ record_fields i step → may_bound ≡ Some fault → told fault
    by_bounds fault may is e =
        let a = fails_last (leb i q.steps && leb (s + marked) q.switches) (Bounds i) fault e in
        subst told a.1 (record {
          run = r;
          line = line_of f;
          reached = reached;
          move = k;
          goes_on = follows may;
          right = sym (six_are f six) ∙ is;
          wrong = beyond (and_cases (leb i q.steps) (leb (s + marked) q.switches) a.0);
        })
      where
        beyond : (leb i q.steps ≡ false) ⊎ (leb (s + marked) q.switches ≡ false)
            → (q.steps < length (r ++ (k ∷ []))) ⊎ (q.switches < switches_of (system m t) (start m t q) (r ++ (k ∷ [])))
        beyond (inl a) = inl (omega (arith, leb-false i q.steps a, reached.place, length-append r (k ∷ [])))
        beyond (inr a) = inr (omega (arith, leb-false (s + marked) q.switches a, counted, switches_more (system m t) (start m t q) r k))

    -- the line's number is right, and its process stands at its label
    module _ (number : get_or f 0 0 ≡ i) (stands : StandsAt m t q r k.process (get_or f 2 0)) where
      placed : Placed m t q text i r (line_of f)
      placed = record { reached = reached; number = number; stands = stands }

      by_seen : (fault : Fault) → k.choice < offered → may_see ≡ Some fault → told fault
      by_seen fault may e =
          let sees = eqb (get_or f 4 0) step.value in
          let marks = eqb (get_or f 5 0) marked in
          elim (fails (sees && marks) may_bound (Seen i) fault e) [
            | inl a ↦ subst told a.1 (record {
              run = r;
              line = line_of f;
              placed = placed;
              goes_on = follows may;
              wrong = differs (and_cases sees marks a.0);
            })
            | inr a ↦
                let both = and_parts sees marks a.0 in
                let value = eqb-true (get_or f 4 0) step.value both.0 in
                let mark = eqb-true (get_or f 5 0) marked both.1 in
                let label = sym stands.2 in
                let same : numbers ≡ record_fields i step =
                λ j. number j ∷ (k.process ∷ (label j ∷ (k.choice ∷ (value j ∷ (mark j ∷ []))))) in
                by_bounds fault may (six_are f six ∙ same) a.1
          ]
        where
          differs : (eqb (get_or f 4 0) step.value ≡ false) ⊎ (eqb (get_or f 5 0) marked ≡ false)
              → (get_or f 4 0 ≡ step.value → ⊥) ⊎ (get_or f 5 0 ≡ marked → ⊥)
          differs (inl a) = inl (eqb-false (get_or f 4 0) step.value a)
          differs (inr a) = inr (eqb-false (get_or f 5 0) marked a)

      -- a choice that is not offered
      by_offer : (o : Option Action) → deed m (over t) w k.process ≡ o → offered ≤ k.choice → told (unoffered i o offered)
      by_offer (Some a) is beyond =
          record { run = r; line = line_of f; unoffered = record { placed = placed; beyond = beyond }; does = (a, is); told = refl }
      by_offer None is beyond = record { run = r; line = line_of f; unoffered = record { placed = placed; beyond = beyond }; nothing = is }

      by_choice : (fault : Fault) → may_choose ≡ Some fault → told fault
      by_choice fault e =
          let o = deed m (over t) w k.process in
          elim (fails (ltb k.choice offered) may_see (unoffered i o offered) fault e) [
            | inl a ↦ subst told a.1 (by_offer o refl (ltb-false k.choice offered a.0))
            | inr a ↦ by_seen fault (ltb-true k.choice offered a.0) a.1
          ]

    by_process : (fault : Fault) → get_or f 0 0 ≡ i → may_stand ≡ Some fault → told fault
    by_process fault number e =
        let there = within 1 t.counts.processes k.process in
        let l = (w.places k.process).label in
        elim (fails (is_label (label_in t w.places k.process) (get_or f 2 0)) may_choose (Process i) fault e) [
          | inl a ↦ subst told a.1 (record { run = r; line = line_of f; reached = reached; number = number; wrong = λ h. absent a.0 h })
          | inr a ↦
              let h = found there l (get_or f 2 0) a.0 in
              let both = and_parts (leb 1 k.process) (leb k.process t.counts.processes) h.0 in
              by_choice number (leb-true 1 k.process both.0, leb-true k.process t.counts.processes both.1, h.1) fault a.1
        ]
      where
        absent : is_label (label_in t w.places k.process) (get_or f 2 0) ≡ false → StandsAt m t q r k.process (get_or f 2 0) → ⊥
        absent e h =
            let low = le-leb 1 k.process h.0 in
            let high = le-leb k.process t.counts.processes h.1 in
            let there = and_from (leb 1 k.process) (leb k.process t.counts.processes) low high in
            lost (within 1 t.counts.processes k.process) (w.places k.process).label
            (ap (is_label (label_in t w.places k.process)) h.2 ∙ e) there

    pub at_line : (fault : Fault) → line_fault m t q w i s f ≡ Some fault → told fault
    at_line fault e = elim (fails (eqb (get_or f 0 0) i) may_stand (Number i) fault e) [
      | inl a ↦ subst told a.1 (record { run = r; line = line_of f; reached = reached; wrong = eqb-false (get_or f 0 0) i a.0 })
      | inr a ↦ by_process fault (eqb-true (get_or f 0 0) i a.0) a.1
    ]

  -- lines that are read and then refused
  pub unplayed : (text : List ℕ) (fs : List (List ℕ)) (fault : Fault) → Spells text fs → lines_played m t q (start m t q) 1 0 fs ≡ Err fault
      → Faulty m t q text fault
  unplayed text fs fault spells e = by b.why
    where
      b : Breaks m t q (start m t q) 1 0 fs fault
      b = breaks m t q (start m t q) 1 0 fs fault spells.numbers (omega arith) (omega arith) e

      bounded : IsBounded m t q b.run
      bounded = record { run = b.is_run; moves = omega (arith, b.placed, b.short); few_switches = omega (arith, b.counted, b.few) }

      by : AtEnd m t q (start m t q) 1 b.run b.place fs fault ⊎ AtLine m t q (start m t q) 1 b.run b.place b.count fs fault
          → Faulty m t q text fault
      by (inl a) =
          let place : b.place - 1 ≡ length b.run = omega (arith, b.placed) in
          let whole = subst (Spells text) a.are spells in
          subst (Faulty m t q text) (sym a.told) (record { run = b.run; spells = whole; bounded = bounded; place = place; wrong = a.wrong })
      by (inr a) =
          let are = a.are ∙ ap (λ (f : List ℕ). run_fields m t (start m t q) 1 b.run ++ (f ∷ a.rest)) (six_are a.line a.six) in
          let whole = subst (Spells text) are spells in
          let place : b.place ≡ length b.run + 1 = omega (arith, b.placed) in
          let counted : b.count ≡ switches_of (system m t) (start m t q) b.run = omega (arith, b.counted) in
          let reached : Reached m t q text b.place b.run (line_of a.line) =
          record { rest = a.rest; spells = whole; bounded = bounded; place = place } in
          at_line text b.place b.count b.run a.line reached a.six counted fault a.wrong

  -- whatever is refused
  pub faulted : (text : List ℕ) (fault : Fault) → played m t q text ≡ Err fault → Faulty m t q text fault
  faulted text fault e = elim (then_err (lines_read text) (lines_played m t q (start m t q) 1 0) fault e) [
    | inl a ↦ wrong_lines 0 24 Length Field text (Faulty m t q text) (λ h. h) (λ i h. h) fault a
    | inr a ↦
        let h = lines_are 0 24 Length Field text a.0 a.1 in
        unplayed text a.0 fault (record { few = h.3; numbers = h.0; are = h.1 }) a.2
  ]
