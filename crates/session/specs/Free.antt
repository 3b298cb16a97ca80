-- What release-acquire memory adds to what is known of a question: the ceiling of its timestamps loses nothing.
use Rattle.std.specs.Prelude.{◌≡◌, ℕ, ◌≤◌, ◌↔◌, List, Some, None, Option}
use Rattle.memory.specs.Rules.{Message, Store}
use Rattle.ceiling.specs.declared.moves.Move.{Move}
use Rattle.ceiling.specs.Ceiling.{memory, Reachable}
use Rattle.ceiling.specs.Programs.{opening}
use Rattle.worlds.specs.Worlds.{over}
use Rattle.runs.specs.declared.questions.Question.{Question}
use Rattle.runs.specs.Asked.{meets, system}
use Rattle.runs.specs.Listed.{Within}
use Rattle.runs.specs.Runs.{end_of}
use Rattle.session.specs.declared.standings.Stage.TheVariants as stage
use Rattle.session.specs.Contents.{Content, Inquiry}
use Rattle.session.specs.Outcomes.{content_after, standing_in}
use Rattle.session.specs.Series.{Call}

-- no timestamp of a message or of a view is above n
pub record Low (n : ℕ) (store : Store) : Type 0 where
  pub messages : (x time : ℕ) (o : Message) → store.pool x time ≡ Some o → time ≤ n
  pub sent : (x time : ℕ) (o : Message) → store.pool x time ≡ Some o → (y : ℕ) → o.view y ≤ n
  pub seen : (p x : ℕ) → store.views p x ≤ n

-- of a session that holds c, with the question q
pub record Timeless (c : Content) (q : Question) : Type 0 where
  -- once standing is not open, it is found just if some run within both bounds, by the rules alone and with timestamps of
  -- any size, reaches the targets
  pub settled : ((standing_in c).stage ≡ stage.Open → ⊥)
      → ((standing_in c).stage ≡ stage.Found) ↔ Reachable q.shape (over c.table) q.steps q.switches (meets q.targets)
  -- and where a run of the list leads, no timestamp is above n
  pub low : (r : List Move) → Within (system memory c.table) (opening memory (over c.table) q.shape) q.steps q.switches r
      → Low q.steps (end_of (system memory c.table) (opening memory (over c.table) q.shape) r).config.store

-- of its question, if it has one
abbrev pub IfAsked : Content → Option Inquiry → Type 0
IfAsked c None = Unit {0}
IfAsked c (Some i) = Timeless c i.question

-- of a session that holds c now, after any series of calls
abbrev pub Freed : Content → Type 0
Freed c = (h : List Call) → IfAsked (content_after memory c h) (content_after memory c h).inquiry
