-- Every number of a run's lines fits its field, whatever memory the run is over.
-- What is kept along a run: registers and values seen are bytes, by the laws of every memory; labels are the table's, and choices
-- stay below the widest offer.
use Rattle.std.proofs.Common.{◌≡◌, ℕ, ◌+◌, ◌<◌, ◌≤◌, Bool, true, false, cond, eqb, List, [], ◌∷◌, ◌++◌, length, Some, None, Ok, Option, sym, refl, ap, ◌∙◌, subst, arith}
use Rattle.std.specs.List.{AllByRecursion}
use Rattle.std.proofs.lemmas.Bool.Decides.{nat_tests}
use Rattle.text.specs.Lines.{Small}
use Rattle.memory.specs.declared.actions.Action.{Action}
use Rattle.memory.specs.declared.actions.Take.{Take}
use Rattle.memory.specs.declared.shapes.Shape.{Shape}
use Rattle.memory.specs.Machine.{Machine, Step, Accepted, Leads, InBytes, AllInBytes}
use Rattle.memory.specs.Bytes.{SeesBytes}
use Rattle.memory.proofs.Leads.{leads_more}
use Rattle.ceiling.specs.declared.moves.Move.{Move}
use Rattle.ceiling.specs.Programs.{World, deed, offers, offer_of, step_of, made, next, opening}
use Rattle.program.specs.declared.rows.Counts.{Counts}
use Rattle.program.specs.declared.rows.Instruction.{Instruction}
use Rattle.program.specs.declared.rows.Instruction.TheVariants.{Read, Write, Cas, Set, Add, Jeq, Assume, Fence, Term}
use Rattle.program.specs.Program.{Program, counts_fit, kept, within, labels_of, instruction_at}
use Rattle.program.specs.Tables.{Fits}
use Rattle.program.proofs.Smalls.{within_high}
use Rattle.program.proofs.Starts.{fits_at}
use Rattle.worlds.specs.declared.places.Place.{Place}
use Rattle.worlds.specs.Places.{action_of}
use Rattle.worlds.specs.Worlds.{over, instruction_in, action_by, moved_by, shown_by, record_of}
use Rattle.runs.specs.Runs.{IsRun, end_of}
use Rattle.runs.specs.Asked.{system}
use Rattle.runs.proofs.Works.{narrow}
use Rattle.replay.specs.Playing.{mark_number, record_fields}
use Rattle.replay.specs.Fields.{run_fields}
use Rattle.replay.proofs.Registers.{Bytes, AskedInBytes, asks_small, moved_small, beginning_small}

-- the header's limits
record Limits (c : Counts) : Type 0 where
  crowd : c.processes ≤ 4
  some : 1 ≤ c.values
  few : c.values ≤ 8

limits : (c : Counts) → counts_fit c ≡ true → Limits c
limits c fit = record { crowd = grind (arith, nat_tests); some = grind (arith, nat_tests); few = grind (arith, nat_tests) }

-- an instruction that is found is there, and so is its process
found : (b : Bool) (o : Option Instruction) (x : Instruction) → cond b o None ≡ Some x → (b ≡ true) × (o ≡ Some x)
found true o x e = (refl, e)
found false o x e = let z : ◌≡◌ {A = ℕ} 0 1 = cc in absurd (omega arith)

-- of a value from 0 to 255 such a one is told, and a mark is 0 or 1
shown_small : (o : Option Instruction) (v : ℕ) → v ≤ 255 → shown_by o v ≤ 255
shown_small None v low = omega arith
shown_small (Some (Read r x)) v low = low
shown_small (Some (Write x r)) v low = omega arith
shown_small (Some (Cas x a b)) v low = low
shown_small (Some (Set r k)) v low = omega arith
shown_small (Some (Add r a b)) v low = omega arith
shown_small (Some (Jeq a b l)) v low = omega arith
shown_small (Some (Assume a b)) v low = omega arith
shown_small (Some Fence) v low = omega arith
shown_small (Some Term) v low = omega arith

mark_small : (b : Bool) → mark_number b ≤ 1
mark_small true = omega arith
mark_small false = omega arith

all_more : (ks : List Take) (k : Take) → AllInBytes ks → InBytes k.action → AllInBytes (ks ++ (k ∷ []))
all_more [] k h small = (small, tt)
all_more (j ∷ ks) k h small = (h.0, all_more ks k h.1 small)

either : (b : Bool) (x y : Place) → Bytes x.registers → Bytes y.registers → Bytes (elim b as (λ z. Place) [ true ↦ x | false ↦ y ]).registers
either true x y h k = h
either false x y h k = k

module _ (t : Program) (keeps : kept t ≡ true) where
  stood : (p : ℕ) (at : Place) (x : Instruction) → instruction_in t p at ≡ Some x → Fits t p at.label x
  stood p at x e =
      let there = found (within 1 t.counts.processes p) (instruction_at t.rows p at.label) x e in
      fits_at t keeps p at.label (Some x) (sym there.1)

  -- where a value from 0 to 255 leads a process, its registers hold such values again
  led_small : (p : ℕ) (at : Place) (v : ℕ) (o : Option Instruction) → instruction_in t p at ≡ o → v ≤ 255 → Bytes at.registers
      → Bytes (moved_by t.counts.values o at v).registers
  led_small p at v None e low h = h
  led_small p at v (Some x) e low h =
      let fit = stood p at x e in
      let l = limits t.counts fit.counts in
      moved_small t.counts (labels_of t.rows p) l.some l.few x at v fit.operands low h

module _ {Config : Type 0} (m : Machine Config) (t : Program) where
  -- a process that has a choice stands at an instruction of the table, and asks for an action there
  record Acts (w : World Config Place) (p : ℕ) : Type 0 where
    instruction : Instruction
    action : Action
    stands : instruction_in t p (w.places p) ≡ Some instruction
    asks : action_of instruction (w.places p) ≡ Some action

  asking : (w : World Config Place) (p : ℕ) (x : Instruction) (o : Option Action) → instruction_in t p (w.places p) ≡ Some x
      → action_of x (w.places p) ≡ o → 0 < offer_of m (over t) w.config p o → Acts w p
  asking w p x (Some a) e f h = record { instruction = x; action = a; stands = e; asks = f }
  asking w p x None e f h = absurd (omega arith)

  standing : (w : World Config Place) (p : ℕ) (o : Option Instruction) → instruction_in t p (w.places p) ≡ o
      → 0 < offer_of m (over t) w.config p (action_by o (w.places p)) → Acts w p
  standing w p (Some x) e h = asking w p x (action_of x (w.places p)) e refl h
  standing w p None e h = absurd (omega arith)

  acts : (w : World Config Place) (p : ℕ) → 0 < offers m (over t) w p → Acts w p
  acts w p h = standing w p (instruction_in t p (w.places p)) refl h

-- takes of actions in bytes have led from the start to where the memory stands, and all registers hold bytes
pub record Sound {Config : Type 0} (m : Machine Config) (shape : Shape) (w : World Config Place) : Type 0 where
  pub takes : List Take
  pub led : Leads m (m.initial shape) takes w.config
  pub small : AllInBytes takes
  pub registers : (p : ℕ) → Bytes (w.places p).registers

start_sound : {Config : Type 0} (m : Machine Config) (t : Program) (shape : Shape) → Sound m shape (opening m (over t) shape)
start_sound m t shape = record { takes = []; led = refl; small = tt; registers = λ p. beginning_small }

-- A move that can be made: what it asks for is in bytes, and so is what it sees; so where it leads is sound again, and
-- the numbers of its line fit.
module _ {Config : Type 0} (m : Machine Config) (t : Program) (keeps : kept t ≡ true) (bytes : SeesBytes m) (shape : Shape)
    (w : World Config Place) (k : Move) (sound : Sound m shape w) (a : Acts m t w k.process) (may : k.choice < offers m (over t) w k.process) where
  asked : InBytes a.action
  asked = subst AskedInBytes a.asks (asks_small a.instruction (w.places k.process) (sound.registers k.process))

  does : deed m (over t) w k.process ≡ Some a.action
  does = ap (λ o. action_by o (w.places k.process)) a.stands ∙ a.asks

  steps : made m (over t) w k ≡ m.step w.config k.process a.action k.choice
  steps = ap (λ o. step_of m (over t) w.config k.process o k.choice) does

  sees : (made m (over t) w k).value ≤ 255
  sees = subst (λ (s : Step Config). s.value ≤ 255) (sym steps) (bytes shape sound.takes w.config sound.led sound.small k.process a.action k.choice asked)

  take : Take
  take = record { process = k.process; action = a.action; choice = k.choice }

  took : Accepted m w.config k.process a.action k.choice (made m (over t) w k).next (record { value = (made m (over t) w k).value; switch = (made m (over t) w k).mark })
  took = record {
    offered = subst (λ n. k.choice < n) (ap (offer_of m (over t) w.config k.process) does) may;
    after = ap (λ s. s.next) steps;
    value = ap (λ s. s.value) steps;
    mark = ap (λ s. s.mark) steps;
  }

  sound_next : Sound m shape (next m (over t) w k)
  unfolding take
  sound_next = record {
    takes = sound.takes ++ (take ∷ []);
    led = leads_more m (m.initial shape) sound.takes w.config take (made m (over t) w k).next
        (Ok (record { value = (made m (over t) w k).value; switch = (made m (over t) w k).mark })) sound.led took;
    small = all_more sound.takes take sound.small asked;
    registers = λ q. either (eqb q k.process) _ (w.places q)
        (led_small t keeps q (w.places q) (made m (over t) w k).value (instruction_in t q (w.places q)) refl sees (sound.registers q)) (sound.registers q);
  }

  line_small : (i : ℕ) → i ≤ 24 → k.choice ≤ 9999 → Small (record_fields i (record_of m t w k))
  line_small i early low =
      let fit = stood t keeps k.process (w.places k.process) a.instruction a.stands in
      let crowd : k.process ≤ t.counts.processes = within_high 1 t.counts.processes k.process fit.process in
      let label : (w.places k.process).label ≤ 32 = within_high 1 32 (w.places k.process).label fit.label in
      let value = shown_small (instruction_in t k.process (w.places k.process)) (made m (over t) w k).value sees in
      let mark = mark_small (made m (over t) w k).mark in
      let l = limits t.counts fit.counts in
      (omega arith, (omega (arith, l.crowd), (omega arith, (low, (omega arith, (omega arith, tt))))))

module _ {Config : Type 0} (m : Machine Config) (t : Program) (keeps : kept t ≡ true)
    (widest : ℕ) (bounded : (s : Config) (p : ℕ) (a : Action) → m.offer s p a ≤ widest) (few : widest ≤ 9999) (bytes : SeesBytes m) (shape : Shape) where
  lines_small : (w : World Config Place) (i : ℕ) (r : List Move) → Sound m shape w → IsRun (system m t) w r → i + length r ≤ 25
      → AllByRecursion Small (run_fields m t w i r)
  lines_small w i [] sound run short = tt
  lines_small w i (k ∷ ks) sound run short =
      let a = acts m t w k.process (omega (arith, run.0)) in
      let choice : k.choice ≤ 9999 = omega (arith, run.0, narrow m t widest bounded w k.process) in (
        line_small m t keeps bytes shape w k sound a run.0 i (omega arith) choice,
        lines_small (next m (over t) w k) (i + 1) ks (sound_next m t keeps bytes shape w k sound a run.0) run.1 (omega arith),
      )

  -- the numbers of the lines of a run of at most 24 moves from the start of the shape
  pub fits : (r : List Move) → IsRun (system m t) (opening m (over t) shape) r → length r ≤ 24
      → AllByRecursion Small (run_fields m t (opening m (over t) shape) 1 r)
  fits r run short =
      lines_small (opening m (over t) shape) 1 r (start_sound m t shape) run (omega arith)

-- where a run from the start of the shape leads
module _ {Config : Type 0} (m : Machine Config) (t : Program) (keeps : kept t ≡ true) (bytes : SeesBytes m) (shape : Shape) where
  led_sound : (w : World Config Place) (r : List Move) → Sound m shape w → IsRun (system m t) w r → Sound m shape (end_of (system m t) w r)
  led_sound w [] sound run = sound
  led_sound w (k ∷ ks) sound run =
      let a = acts m t w k.process (omega (arith, run.0)) in
      led_sound (next m (over t) w k) ks (sound_next m t keeps bytes shape w k sound a run.0) run.1

  pub end_sound : (r : List Move) → IsRun (system m t) (opening m (over t) shape) r → Sound m shape (end_of (system m t) (opening m (over t) shape) r)
  end_sound r run = led_sound (opening m (over t) shape) r (start_sound m t shape) run
