-- Lines that are refused are those of a run within both bounds, up to one of them or to their end.
use Rattle.std.proofs.Common.{◌≡◌, ℕ, ◌+◌, ◌-◌, ◌<◌, ◌≤◌, false, ◌⊎◌, List, [], ◌∷◌, ◌++◌, length, Some, None, Ok, Err, Option, Result, sym, refl, ap₂, inl, inr, arith}
use Rattle.std.specs.List.{AllByRecursion}
use Rattle.memory.specs.Machine.{Machine}
use Rattle.ceiling.specs.declared.moves.Move.{Move}
use Rattle.ceiling.specs.Programs.{World, next}
use Rattle.program.specs.Program.{Program, Six}
use Rattle.program.proofs.Outcomes.{cond_err, not_both}
use Rattle.worlds.specs.declared.places.Place.{Place}
use Rattle.worlds.specs.Worlds.{over, record_of}
use Rattle.runs.specs.declared.questions.Question.{Question}
use Rattle.runs.specs.Runs.{System, IsRun, end_of, switches_of, cost}
use Rattle.runs.specs.Asked.{system, arrived}
use Rattle.replay.specs.declared.faults.Fault.{Fault}
use Rattle.replay.specs.declared.faults.Fault.TheVariants.{Targets}
use Rattle.replay.specs.declared.faults.Played.{Played}
use Rattle.replay.specs.Fields.{run_fields}
use Rattle.replay.specs.Playing.{mark_number, record_fields, move_of, line_fault, lines_played}
use Rattle.replay.proofs.Rights.{right}

-- a run and one move more
module _ {W : Type 0} (S : System W) where
  pub run_more : (w : W) (r : List Move) (k : Move) → IsRun S w r → k.choice < S.offer (end_of S w r) k.process → IsRun S w (r ++ (k ∷ []))
  run_more w [] k run may = (may, tt)
  run_more w (j ∷ r) k run may = (run.0, run_more (S.next w j) r k run.1 may)

  pub switches_more : (w : W) (r : List Move) (k : Move) → switches_of S w (r ++ (k ∷ [])) ≡ switches_of S w r + cost S (end_of S w r) k
  switches_more w [] k = omega arith
  switches_more w (j ∷ r) k = omega (arith, switches_more (S.next w j) r k)

-- a refusal is that of the line, or nothing is wrong with it and the refusal is that of what comes after it
refused : (o : Option Fault) (rest : Result Played Fault) (f : Fault)
    → elim o as (λ z. Result Played Fault) [ Some fault ↦ Err fault | None ↦ rest ] ≡ Err f
    → (o ≡ Some f) ⊎ ((o ≡ None) × (rest ≡ Err f))
refused (Some g) rest f e = inl (cc)
refused None rest f e = inr (refl, e)

module _ {Config : Type 0} (m : Machine Config) (t : Program) (q : Question) where
  -- all lines are the run's, and it does not reach the targets
  pub record AtEnd (w : World Config Place) (i : ℕ) (run : List Move) (place : ℕ) (fs : List (List ℕ)) (fault : Fault) : Type 0 where
    pub are : fs ≡ run_fields m t w i run
    pub told : fault ≡ Targets (place - 1)
    pub wrong : arrived q (end_of (system m t) w run) ≡ false

  -- there is a line after the run's, and the fault is what is wrong with it
  pub record AtLine (w : World Config Place) (i : ℕ) (run : List Move) (place count : ℕ) (fs : List (List ℕ)) (fault : Fault) : Type 0 where
    pub line : List ℕ
    pub rest : List (List ℕ)
    pub are : fs ≡ run_fields m t w i run ++ (line ∷ rest)
    pub six : length line ≡ 6
    pub wrong : line_fault m t q (end_of (system m t) w run) place count line ≡ Some fault

  -- The run from w that the lines are at first, if the first of them is line i and s switches were made before it.
  pub record Breaks (w : World Config Place) (i s : ℕ) (fs : List (List ℕ)) (fault : Fault) : Type 0 where
    pub run : List Move
    pub is_run : IsRun (system m t) w run
    pub place : ℕ
    pub count : ℕ
    pub placed : place ≡ i + length run
    pub counted : count ≡ s + switches_of (system m t) w run
    pub short : place ≤ q.steps + 1
    pub few : count ≤ q.switches
    pub why : AtEnd w i run place fs fault ⊎ AtLine w i run place count fs fault

  pub breaks : (w : World Config Place) (i s : ℕ) (fs : List (List ℕ)) (fault : Fault)
      → AllByRecursion Six fs → i ≤ q.steps + 1 → s ≤ q.switches
      → lines_played m t q w i s fs ≡ Err fault → Breaks w i s fs fault
  breaks w i s [] fault six short few e =
      let end : Played = record { steps = i - 1; switches = s } in
      elim (cond_err (arrived q w) (Ok end) (Targets (i - 1)) fault e) [
        | inl a ↦ record {
          run = [];
          is_run = tt;
          place = i;
          count = s;
          placed = omega arith;
          counted = omega arith;
          short = short;
          few = few;
          why = inl (record { are = refl; told = sym a.1; wrong = a.0 });
        }
        | inr a ↦ not_both fault end (sym a.1)
      ]
  breaks w i s (f ∷ fs) fault six short few e =
      let k = move_of f in
      let v = next m (over t) w k in
      let marked = mark_number (record_of m t w k).switch in
      elim (refused (line_fault m t q w i s f) (lines_played m t q v (i + 1) (s + marked) fs) fault e) [
        | inl a ↦ record {
          run = [];
          is_run = tt;
          place = i;
          count = s;
          placed = omega arith;
          counted = omega arith;
          short = short;
          few = few;
          why = inr (record { line = f; rest = fs; are = refl; six = six.0.0; wrong = a });
        }
        | inr a ↦
            let here = right m t q w i s f six.0.0 a.0 in
            let b = breaks v (i + 1) (s + marked) fs fault six.1 (omega (arith, here.short)) here.few a.1 in
            record {
              run = k ∷ b.run;
              is_run = (here.offered, b.is_run);
              place = b.place;
              count = b.count;
              placed = omega (arith, b.placed);
              counted = omega (arith, b.counted);
              short = b.short;
              few = b.few;
              why = later w i k f here.fields b.run b.place b.count fs fault b.why;
            }
      ]
    where
      -- the line of the move k before the others
      later : (w : World Config Place) (i : ℕ) (k : Move) (f : List ℕ) → f ≡ record_fields i (record_of m t w k)
          → (r : List Move) (place count : ℕ) (fs : List (List ℕ)) (fault : Fault) → let v = next m (over t) w k in
          AtEnd v (i + 1) r place fs fault ⊎ AtLine v (i + 1) r place count fs fault
          → AtEnd w i (k ∷ r) place (f ∷ fs) fault ⊎ AtLine w i (k ∷ r) place count (f ∷ fs) fault
      later w i k f is r place count fs fault (inl a) = inl (record { are = ap₂ ◌∷◌ is a.are; told = a.told; wrong = a.wrong })
      later w i k f is r place count fs fault (inr a) =
          inr (record { line = a.line; rest = a.rest; are = ap₂ ◌∷◌ is a.are; six = a.six; wrong = a.wrong })
