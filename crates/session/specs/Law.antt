-- A session after a series of calls, and the law of one call more.
use Rattle.std.specs.Prelude.{◌≡◌, ℕ, List, [], ◌∷◌, ◌++◌, Some, None}
use Rattle.memory.specs.Machine.{Machine}
use Rattle.program.specs.Program.{Program, nothing}
use Rattle.runs.specs.declared.questions.Question.{Question}
use Rattle.runs.specs.Searches.{shown}
use Rattle.session.specs.Contents.{Content, Inquiry, inquiry_at}
use Rattle.session.specs.Series.{Call, Book, blank, held, asked, booked}

module _ {Config : Type 0} (m : Machine Config) where
  -- what the first E runs of the list show of a question, and the run where that stops
  abbrev pub inquiry_after : Program → Question → ℕ → Inquiry
  inquiry_after t q E = inquiry_at q (shown m t q E)

  -- what a session holds whose calls amount to this
  abbrev pub content_of : Book → Content
  content_of blank = record { table = nothing; inquiry = None }
  content_of (held t) = record { table = t; inquiry = None }
  content_of (asked t q E) = record { table = t; inquiry = Some (inquiry_after t q E) }

  -- the session began new and then had the calls h
  abbrev pub After : List Call → Content → Type 0
  After h c = c ≡ content_of (booked h)

  -- The call c takes a session from one content to another and answers a; after every series of calls the answer is
  -- that of what the series amounts to.
  pub record Lawful {A : Type 0} (c : Call) (answer : Book → A) (old : Content) (a : A) (new : Content) : Type 0 where
    pub after : (h : List Call) → After h old → After (h ++ (c ∷ [])) new
    pub answers : (h : List Call) → After h old → a ≡ answer (booked h)
