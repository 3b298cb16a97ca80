-- Release-acquire: the rules, with timestamps of any size.
use Rattle.std.specs.Prelude.{◌≡◌, ℕ, zero, suc, ◌+◌, ◌<◌, ◌≤◌, max, Bool, false, cond, ◌&&◌, ◌||◌, Some, None, Option, ◌==◌, ◌≢◌, nat_le, nat_lt}
use Rattle.memory.specs.declared.actions.Action.{Action}
use Rattle.memory.specs.declared.actions.Action.TheVariants.{Local, Read, Write, Swap, Fence}
use Rattle.memory.specs.Updates.{update}

-- A view gives each variable a timestamp.
abbrev pub View : Type 0
View = ℕ → ℕ

-- A message of a variable. Its own timestamp is its view's entry at that variable.
pub record Message : Type 0 where
  pub value : ℕ
  pub view : View

-- the message that a variable has at a timestamp, if there is one
abbrev pub Pool : Type 0
Pool = ℕ → ℕ → Option Message

-- the messages, and the view of each process
pub record Store : Type 0 where
  pub pool : Pool
  pub views : ℕ → View

-- the entrywise maximum of two views
abbrev pub join : View → View → View
join v w = λ x. max (v x) (w x)

-- the view v with t at x
abbrev pub raise : View → ℕ → ℕ → View
raise v x t = update v x t

-- the views, with v for the process p
abbrev pub turn : (ℕ → View) → ℕ → View → ℕ → View
turn vs p v = update vs p v

-- the messages, with m for the variable x at the timestamp t
abbrev pub put : Pool → ℕ → ℕ → Message → Pool
put pool x t m = λ y s. cond (y == x && s == t) (Some m) (pool y s)

-- At the start each of the variables 0 to V has one message of value 0, and all views are 0.
abbrev pub nought : View
nought = λ x. 0

abbrev pub first : Message
first = record { value = 0; view = nought }

abbrev pub first_pool : ℕ → Pool
first_pool V = λ x t. cond (nat_le x V && t == 0) (Some first) None

abbrev pub start : ℕ → Store
start V = record { pool = first_pool V; views = λ p. nought }

-- the message of x at t (the first one, if there is none)
abbrev pub or_first : Option Message → Message
or_first (Some m) = m
or_first None = first

abbrev pub message : Store → ℕ → ℕ → Message
message C x t = or_first (C.pool x t)

-- The rules: at which timestamps t the process p may take the action. It is the timestamp of the message
-- read; for Write it is that of the message added, and for Local it is 0.
abbrev pub May : Store → ℕ → Action → ℕ → Type 0
May C p Local t = t ≡ 0
May C p (Read x) t = (C.views p x ≤ t) × ((m : Message) × (C.pool x t ≡ Some m))
May C p (Write x v) t = (C.views p x < t) × (C.pool x t ≡ None)
May C p (Swap x old new) t =
    (C.views p x ≤ t) × ((m : Message) × (C.pool x t ≡ Some m) × (m.value ≡ old)) × (C.pool x (t + 1) ≡ None)
May C p Fence t = ⊥

-- what p's view becomes by reading the message of x at t
abbrev pub reads : Store → ℕ → ℕ → ℕ → View
reads C p x t = join (C.views p) (message C x t).view

-- p has the view w, and x a message at t of the value v and that view
abbrev pub adds : Store → ℕ → ℕ → ℕ → ℕ → View → Store
adds C p x t v w = record { pool = put C.pool x t (record { value = v; view = w }); views = turn C.views p w }

-- the store after the action
abbrev pub after : Store → ℕ → Action → ℕ → Store
after C p Local t = C
after C p (Read x) t = record { pool = C.pool; views = turn C.views p (reads C p x t) }
after C p (Write x v) t = adds C p x t v (raise (C.views p) x t)
after C p (Swap x old new) t = adds C p x (t + 1) new (raise (reads C p x t) x (t + 1))
after C p Fence t = C

-- the value seen
abbrev pub value : Store → Action → ℕ → ℕ
value C Local t = 0
value C (Read x) t = (message C x t).value
value C (Write x v) t = 0
value C (Swap x old new) t = (message C x t).value
value C Fence t = 0

-- whether joining w changes v, at one of the variables below n
abbrev pub changes_below : ℕ → View → View → Bool
changes_below zero v w = false
changes_below (suc n) v w = changes_below n v w || nat_lt (v n) (w n)

-- at one of the variables 0 to V
abbrev pub changes : ℕ → View → View → Bool
changes V v w = changes_below (V + 1) v w

-- whether the step is a switch: the message read changes p's view
abbrev pub mark : ℕ → Store → ℕ → Action → ℕ → Bool
mark V C p Local t = false
mark V C p (Read x) t = changes V (C.views p) (message C x t).view
mark V C p (Write x v) t = false
mark V C p (Swap x old new) t = changes V (C.views p) (message C x t).view
mark V C p Fence t = false

-- The same in words: what joining the message's view makes of p's view differs from it at one of the
-- variables 0 to V.
abbrev pub Alters : ℕ → View → View → Type 0
Alters V v w = (x : ℕ) × (x ≤ V) × (join v w x ≢ v x)

abbrev pub Switches : ℕ → Store → ℕ → Action → ℕ → Type 0
Switches V C p Local t = ⊥
Switches V C p (Read x) t = Alters V (C.views p) (message C x t).view
Switches V C p (Write x v) t = ⊥
Switches V C p (Swap x old new) t = Alters V (C.views p) (message C x t).view
Switches V C p Fence t = ⊥

-- the timestamp that the action adds, if it adds one, is at most n
abbrev pub Below : ℕ → Action → ℕ → Type 0
Below n Local t = Unit {0}
Below n (Read x) t = Unit {0}
Below n (Write x v) t = t ≤ n
Below n (Swap x old new) t = t + 1 ≤ n
Below n Fence t = Unit {0}
