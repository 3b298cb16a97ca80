-- The runs that a question asks for, of a table over a memory.
use Rattle.std.specs.Prelude.{◌≡◌, ℕ, ◌+◌, ◌-◌, ◌≤◌, Bool, true, false, cond, ◌&&◌, ◌||◌, T, List, [], ◌∷◌, Some, None, Ok, Err, Option, Result, ◌==◌, nat_le, slice_index}
use Rattle.std.proofs.Common.{leb→le}
use Rattle.memory.specs.Shapes.{shape_by, t_parts}
use Rattle.memory.specs.Machine.{Machine}
use Rattle.memory.specs.declared.shapes.Shape.{Shape}
use Rattle.ceiling.specs.Programs.{World, opening, offers, next, event}
use Rattle.program.specs.Program.{Program, is_nothing, labels_of}
use Rattle.worlds.specs.declared.places.Place.{Place}
use Rattle.worlds.specs.Worlds.{over}
use Rattle.runs.specs.declared.questions.Question.{Question}
use Rattle.runs.specs.declared.questions.Unasked.{Unasked}
use Rattle.runs.specs.declared.questions.Unasked.TheVariants.{NoTable, Bounds, Target}
use Rattle.runs.specs.Runs.{System, Node}
use Rattle.runs.specs.Insides.{inside_of}

-- the processes of a table over a memory
abbrev pub system : {Config : Type 0} → Machine Config → Program → System (World Config Place)
system m t = record {
  processes = t.counts.processes;
  offer = offers m (over t);
  next = next m (over t);
  event = event m (over t);
  inside = inside_of m t;
}

-- where the runs of a question begin
abbrev pub root : {Config : Type 0} → Machine Config → Program → Question → Node (World Config Place)
root m t q = record { left = q.steps; room = q.switches; world = opening m (over t) q.shape; path = [] }

-- the process has no target, or stands at it
abbrev pub met_by : List ℕ → (ℕ → Place) → ℕ → Bool
met_by targets places p = let target = slice_index targets (p - 1) in target == 0 || (places p).label == target

-- each process with a target other than 0 stands at that label
abbrev pub meets : List ℕ → (ℕ → Place) → Bool
meets targets places = met_by targets places 1 && (met_by targets places 2 && (met_by targets places 3 && met_by targets places 4))

abbrev pub arrived : {Config : Type 0} → Question → World Config Place → Bool
arrived q w = meets q.targets w.places

-- each target, from process p on, is one of the process's labels or 0
abbrev pub targets_judged : Program → ℕ → List ℕ → Result (Unit {0}) Unasked
targets_judged t p [] = Ok tt
targets_judged t p (x ∷ xs) = cond (nat_le x (labels_of t.rows p)) (targets_judged t (p + 1) xs) (Err (Target p))

-- Whether a question can be asked: a table was read, the bounds are at most 24, and then process by process the
-- target is one of its labels or 0; processes above the table's have none.
abbrev pub judged : Program → ℕ → ℕ → List ℕ → Result (Unit {0}) Unasked
judged t n k targets = cond (is_nothing t) (Err NoTable) (cond (nat_le n 24 && nat_le k 24) (targets_judged t 1 targets) (Err Bounds))

-- What a question is of: the numbers asked for, and the shape of the table with the step bound as its ceiling.
pub record Asks (t : Program) (n k : ℕ) (targets : List ℕ) (q : Question) : Type 0 where
  pub shape : shape_by t.counts.processes t.counts.variables n ≡ Some q.shape
  pub steps : q.steps ≡ n
  pub switches : q.switches ≡ k
  pub targets_are : q.targets ≡ targets

-- The same as a definition that computes: the question of these numbers, or none just where a bound is above 24 or the
-- table has no shape.
pub bounds : (n k : ℕ) → T (nat_le n 24 && nat_le k 24) → (n ≤ 24) × (k ≤ 24)
bounds n k h = let both = t_parts (nat_le n 24) (nat_le k 24) h in (leb→le n 24 both.0, leb→le k 24 both.1)

abbrev pub question_if : (n k : ℕ) → List ℕ → (b : Bool) → (T b → (n ≤ 24) × (k ≤ 24)) → Option Shape → Option Question
question_if n k targets true h (Some s) =
    Some (record { shape = s; steps = n; switches = k; targets = targets; short = (h tt).0; few = (h tt).1 })
question_if n k targets true h None = None
question_if n k targets false h s = None

abbrev pub question_by : Program → ℕ → ℕ → List ℕ → Option Question
question_by t n k targets =
    question_if n k targets (nat_le n 24 && nat_le k 24) (bounds n k) (shape_by t.counts.processes t.counts.variables n)
