-- What the struct of the release-acquire memory stands for.
use Rattle.std.specs.Prelude.{◌≡◌, ℕ, ◌<◌, ◌≤◌, true, cond, List, [], length, Some, None, Ok, Err, Option, Result, nat_le, slice_index, slice_index_or}
use Rattle.memory.specs.declared.actions.Action.{Action}
use Rattle.memory.specs.declared.actions.NotOffered.{NotOffered}
use Rattle.memory.specs.declared.messages.Message.{Message as Kept}
use Rattle.memory.specs.declared.views.View.{View as Times}
use Rattle.memory.specs.declared.release_acquire.ReleaseAcquire.{ReleaseAcquire}
use Rattle.memory.specs.Rules.{View, Message, Pool, turn, adds}
use Rattle.memory.specs.ReleaseAcquire.{Config, choices, admitted}

abbrev pub view_of : Times → View
view_of v = λ x. slice_index v.times x

abbrev pub message_of : Kept → Message
message_of m = record { value = m.value; view = view_of m.view }

abbrev pub slot_of : Option Kept → Option Message
slot_of (Some m) = Some (message_of m)
slot_of None = None

-- the messages of one variable, and of all
abbrev pub row_of : List (Option Kept) → ℕ → Option Message
row_of row = λ t. slot_of (slice_index_or row t None)

abbrev pub pool_of : List (List (Option Kept)) → Pool
pool_of table = λ x. row_of (slice_index_or table x [])

abbrev pub views_of : List Times → ℕ → View
views_of vs = λ p. view_of (slice_index_or vs p (record { times = [] }))

-- the messages whose timestamp is at most n
abbrev pub upto : ℕ → Pool → Pool
upto n pool = λ x t. cond (nat_le t n) (pool x t) None

abbrev pub config : ReleaseAcquire → Config
config s = record {
  shape = s.shape;
  store = record { pool = upto s.shape.ceiling (pool_of s.messages); views = views_of s.views };
}

-- p goes on to the view w; and a message of x with that view is added at t
abbrev pub turned : Config → ℕ → View → Config
turned s p w = record { shape = s.shape; store = record { pool = s.store.pool; views = turn s.store.views p w } }

abbrev pub posted : Config → ℕ → ℕ → ℕ → ℕ → View → Config
posted s p x t v w = record { shape = s.shape; store = adds s.store p x t v w }

-- What the walk to a choice finds: its timestamp, or how many choices there are.
pub record Found (s : Config) (p : ℕ) (a : Action) (c : ℕ) (t : ℕ) : Type 0 where
  pub offered : c < length (choices s p a)
  pub chosen : t ≡ slice_index (choices s p a) c
  pub low : t ≤ s.shape.ceiling
  pub passes : admitted s p a t ≡ true

pub record Missed (s : Config) (p : ℕ) (a : Action) (c : ℕ) (f : NotOffered) : Type 0 where
  pub offered : f.offered ≡ length (choices s p a)
  pub beyond : f.offered ≤ c

abbrev pub Sought : Config → ℕ → Action → ℕ → Result ℕ NotOffered → Type 0
Sought s p a c (Ok t) = Found s p a c t
Sought s p a c (Err f) = Missed s p a c f
