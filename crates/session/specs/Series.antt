-- A series of calls, and what it amounts to by the arguments of the calls alone.
use Rattle.std.specs.Prelude.{ℕ, ◌+◌, cond, List, [], ◌∷◌, Some, None, Ok, Err, Option, Result}
use Rattle.program.specs.declared.refusals.Refusal.{Refusal as Unreadable}
use Rattle.program.specs.Program.{Program, within}
use Rattle.program.specs.Reading.{read}
use Rattle.runs.specs.declared.questions.Question.{Question}
use Rattle.runs.specs.declared.questions.Unasked.{Unasked}
use Rattle.runs.specs.Asked.{judged, question_by}

-- a call with its arguments
pub data Call : Type 0 where
  -- a text
  load : List ℕ → Call
  -- n, k and the targets
  put : ℕ → ℕ → List ℕ → Call
  -- an effort
  work : ℕ → Call
  standing : Call
  -- a step's number
  step : ℕ → Call
  -- a text
  replay : List ℕ → Call
  -- what the buffer holds
  report : List ℕ → Call

-- What a series amounts to: nothing was read; a table; or a table, a question about it, and the efforts of the works
-- that were accepted since it was put, added up.
pub data Book : Type 0 where
  blank : Book
  held : Program → Book
  asked : Program → Question → ℕ → Book

-- an accepted load sets the table and ends the question
abbrev pub load_on : Book → Result Program Unreadable → Book
load_on b (Ok t) = held t
load_on b (Err why) = b

-- An accepted put sets the question, with no effort. A table that was read has a shape for every such question, so that
-- there is none does not occur.
abbrev pub put_by : Book → Program → Result (Unit {0}) Unasked → Option Question → Book
put_by b t (Ok u) (Some q) = asked t q 0
put_by b t (Ok u) None = b
put_by b t (Err why) q = b

abbrev pub put_on : Book → ℕ → ℕ → List ℕ → Book
put_on blank n k targets = blank
put_on (held t) n k targets = put_by (held t) t (judged t n k targets) (question_by t n k targets)
put_on (asked t q E) n k targets = put_by (asked t q E) t (judged t n k targets) (question_by t n k targets)

-- an accepted work adds its effort
abbrev pub work_on : Book → ℕ → Book
work_on blank e = blank
work_on (held t) e = held t
work_on (asked t q E) e = cond (within 1 1000000 e) (asked t q (E + e)) (asked t q E)

-- every other call, and each refused one, changes nothing
abbrev pub next : Book → Call → Book
next b (load text) = load_on b (read text)
next b (put n k targets) = put_on b n k targets
next b (work e) = work_on b e
next b standing = b
next b (step i) = b
next b (replay text) = b
next b (report out) = b

abbrev pub from : Book → List Call → Book
from b [] = b
from b (c ∷ h) = from (next b c) h

-- what the series amounts to for a session that began new
abbrev pub booked : List Call → Book
booked h = from blank h
