-- What a series of calls amounts to, one call after another.
use Rattle.std.proofs.Common.{◌≡◌, ℕ, ◌+◌, true, false, ◌&&◌, List, [], ◌∷◌, ◌++◌, length, Some, None, Ok, Err, Option, Result, leb, refl, sym, ap, ◌∙◌, arith}
use Rattle.std.proofs.lemmas.Bool.{and_parts, cond_both, ne_eqb, or_right}
use Rattle.memory.specs.Machine.{Machine}
use Rattle.program.specs.declared.refusals.Refusal.{Refusal as Unreadable}
use Rattle.program.specs.Program.{Program, counts_fit, counts_none, is_nothing, kept, proper, rows_fit, labels_of, within}
use Rattle.program.specs.Reading.{read}
use Rattle.program.proofs.Texts.{ends_some, read_is}
use Rattle.runs.specs.declared.questions.Question.{Question}
use Rattle.runs.specs.declared.questions.Unasked.{Unasked}
use Rattle.runs.specs.Asked.{judged, question_by}
use Rattle.session.specs.Contents.{Content}
use Rattle.session.specs.Series.{Call, Book, load, put, work, standing, step, replay, report, blank, held, asked, load_on, put_by, next, from, booked}
use Rattle.session.specs.Law.{content_of, Lawful}

pub from_more : (b : Book) (h : List Call) (c : Call) → from b (h ++ (c ∷ [])) ≡ next (from b h) c
from_more b [] c = refl
from_more b (d ∷ h) c = from_more (next b d) h c

-- the question is one that the table can be asked
pub record Asking (t : Program) (q : Question) : Type 0 where
  pub steps : ℕ
  pub switches : ℕ
  pub targets : List ℕ
  pub is : question_by t steps switches targets ≡ Some q

-- A table that was read has all the properties, and a question was made of numbers.
abbrev pub Sound : Book → Type 0
Sound blank = Unit {0}
Sound (held t) = proper t ≡ true
Sound (asked t q E) = (proper t ≡ true) × Asking t q

sound_load : (b : Book) (text : List ℕ) → Sound b → Sound (load_on b (read text))
sound_load b text h = go (read text) refl
  where
    go : (r : Result Program Unreadable) → read text ≡ r → Sound (load_on b r)
    go (Ok t) e = (read_is text t e).0
    go (Err why) e = h

sound_put : (b : Book) (t : Program) (n k : ℕ) (targets : List ℕ) → proper t ≡ true → Sound b
    → Sound (put_by b t (judged t n k targets) (question_by t n k targets))
sound_put b t n k targets good h = go (judged t n k targets) (question_by t n k targets) refl
  where
    go : (r : Result (Unit {0}) Unasked) (q : Option Question) → question_by t n k targets ≡ q → Sound (put_by b t r q)
    go (Ok u) (Some q) e = (good, record { steps = n; switches = k; targets = targets; is = e })
    go (Ok u) None e = h
    go (Err why) q e = h

pub sound_next : (b : Book) (c : Call) → Sound b → Sound (next b c)
sound_next b (load text) h = sound_load b text h
sound_next blank (put n k targets) h = tt
sound_next (held t) (put n k targets) h = sound_put (held t) t n k targets h h
sound_next (asked t q E) (put n k targets) h = sound_put (asked t q E) t n k targets h.0 h
sound_next blank (work e) h = tt
sound_next (held t) (work e) h = h
sound_next (asked t q E) (work e) h = cond_both (within 1 1000000 e) (asked t q (E + e)) (asked t q E) Sound (λ _. h) (λ _. h)
sound_next b standing h = h
sound_next b (step i) h = h
sound_next b (replay text) h = h
sound_next b (report out) h = h

sound_from : (b : Book) (h : List Call) → Sound b → Sound (from b h)
sound_from b [] s = s
sound_from b (c ∷ h) s = sound_from (next b c) h (sound_next b c s)

pub sound : (h : List Call) → Sound (booked h)
sound h = sound_from blank h tt

-- what holds for every book holds after every series
pub lawful : {A Config : Type 0} (m : Machine Config) (c : Call) (answer : Book → A) (old : Content) (a : A) (new : Content)
    → ((b : Book) → Sound b → old ≡ content_of m b → (a ≡ answer b) × (new ≡ content_of m (next b c))) → Lawful m c answer old a new
lawful m c answer old a new f = record {
  after = λ h s. (f (booked h) (sound h) s).1 ∙ ap (content_of m) (sym (from_more blank h c));
  answers = λ h s. (f (booked h) (sound h) s).0;
}

-- a table with all the properties keeps what every table keeps
pub proper_kept : (t : Program) → proper t ≡ true → kept t ≡ true
proper_kept t good = or_right (counts_none t.counts && is_nothing t) (proper t) good

-- a table that was read has rows
pub proper_some : (t : Program) → proper t ≡ true → is_nothing t ≡ false
proper_some t e =
    let rows = and_parts (leb (length t.rows) 128) _ (and_parts (counts_fit t.counts) _ e).1 in
    let ends = and_parts (rows_fit t.counts (labels_of t.rows) 0 0 t.rows) _ rows.1 in
    let some = ends_some t.counts.processes t.rows ends.1 in
    ne_eqb (length t.rows) 0 (λ z. omega arith)
