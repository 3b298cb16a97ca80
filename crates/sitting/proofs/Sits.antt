-- What a sitting writes, in a reader's words.
-- The works of a sitting are one effort of a thousand million; what is known after that effort is said of the bytes.
use Rattle.std.proofs.Common.{◌≡◌, ℕ, zero, suc, ◌+◌, ◌*◌, ◌≤◌, ◌⊎◌, inl, inr, Bool, true, false, cond, List, length, Some, Ok, Err, Result, nat_le, refl, sym, ap, ap₂, ◌∙◌, arith}
use Rattle.std.proofs.lemmas.Bool.{cond-false, cond-true, le-leb, leb-false, leb-true}
use Rattle.text.specs.Writing.{over as written_over}
use Rattle.memory.specs.declared.actions.Action.{Action}
use Rattle.memory.specs.Machine.{Machine}
use Rattle.ceiling.specs.Ceiling.{memory as weak}
use Rattle.program.specs.declared.refusals.Refusal.{Refusal as Unreadable}
use Rattle.program.specs.Program.{Program, nothing, proper}
use Rattle.program.specs.Reading.{read}
use Rattle.program.specs.Source.{Accepted, Refused, SaysOf}
use Rattle.program.specs.Tables.{taken_in}
use Rattle.program.proofs.Blocks.{proper_source}
use Rattle.program.proofs.Texts.{read_is}
use Rattle.program.proofs.Words.{accepts}
use Rattle.runs.specs.declared.lines.Wish.{Wish}
use Rattle.runs.specs.declared.questions.Question.{Question}
use Rattle.runs.specs.declared.questions.Unasked.{Unasked}
use Rattle.runs.specs.Askable.{Askable}
use Rattle.runs.specs.Asked.{judged, question_by}
use Rattle.runs.specs.First.{front}
use Rattle.runs.specs.Searches.{shown}
use Rattle.runs.proofs.Asked.{asked_by, asks_of}
use Rattle.runs.proofs.Judged.{judges}
use Rattle.session.specs.declared.refusals.Refusal.{Refusal}
use Rattle.session.specs.declared.refusals.Refusal.TheVariants as refusal
use Rattle.session.specs.Contents.{if_found}
use Rattle.session.specs.Outcomes.{as_question, as_table, put_out}
use Rattle.session.specs.Series.{Book, blank, held, asked, booked, from, load_on, put_by, put_on, work_on}
use Rattle.session.specs.Answers.{opened, reported}
use Rattle.session.specs.Words.{report_of}
use Rattle.session.proofs.Books.{Asking}
use Rattle.session.proofs.Frees.{found_free}
use Rattle.session.proofs.Knows.{asked_some, known}
use Rattle.session.proofs.Tellings.{ok_one, report_is}
use Rattle.sitting.specs.Outputs.{answered, calls, in_a_line, load_call, put_calls, sat, told, unless_refused, works}
use Rattle.sitting.specs.Sits.{LineTold, NoQuestion, NoTable, OfTable, Reports, Sits, TooShort, Weakly, Written}
use Rattle.sitting.proofs.Lengths.{report_short}
use Rattle.sitting.proofs.Settles.{works_more, works_none}

err_one : {A E : Type 0} {a b : E} → ◌≡◌ {A = Result A E} (Err a) (Err b) → a ≡ b
err_one e = cc

-- a line that is told, with its length
ok_line : (out new : List ℕ) (n : ℕ) (why : Refusal)
    → ◌≡◌ {A = Result ℕ Refusal × List ℕ} (Ok n, new) (Ok (told why out).0, (told why out).1) → LineTold out n new why
ok_line out new n why e = ap₂ (λ (k : ℕ) (z : List ℕ). (k, z)) (ok_one (ap (λ (y : Result ℕ Refusal × List ℕ). y.0) e)) (ap (λ (y : Result ℕ Refusal × List ℕ). y.1) e)

-- a thousand works add a million each
pub works_asked : (t : Program) (q : Question) (E n : ℕ) → from (asked t q E) (works n) ≡ asked t q (E + 1000000 * n)
works_asked t q E zero = let e : E ≡ E + 1000000 * 0 = omega arith in sym (works_none (asked t q E)) ∙ ap (asked t q) e
works_asked t q E (suc n) =
    let e : E + 1000000 * n + 1000000 ≡ E + 1000000 * suc n = omega arith in
    works_more (asked t q E) n ∙ ap (λ (b : Book). work_on b 1000000) (works_asked t q E n) ∙ ap (asked t q) e

module _ {Config : Type 0} (m : Machine Config) (widest : ℕ) (bounded : (s : Config) (p : ℕ) (a : Action) → m.offer s p a ≤ widest) where
  -- the report of what any effort shows, which has room in a buffer of 625 bytes
  abbrev pub report : Program → Question → ℕ → List ℕ
  report t q E = let l = shown m t q E in report_of m t q l.verdict (if_found l.verdict (front l.left))

  module _ (t : Program) (q : Question) (E : ℕ) (out : List ℕ) (room : 625 ≤ length out) where
    short : length (report t q E) ≤ length out
    short = omega (arith, report_short m t q E)

    pub fits : reported m (asked t q E) out ≡ (Ok (length (report t q E)), written_over (report t q E) out)
    fits =
        let l = shown m t q E in
        ap (λ (z : List ℕ). put_out z out) (report_is m t q l.verdict (if_found l.verdict (front l.left)))
        ∙ cond-true (nat_le (length (report t q E)) (length out)) (Ok (length (report t q E)), written_over (report t q E) out)
        (Err (refusal.Short (length (report t q E))), out) (le-leb (length (report t q E)) (length out) short)

  -- the text is read as a table's, of which the question is judged right
  pub record Accepts (w : Wish) (text : List ℕ) (t : Program) : Type 0 where
    pub table : read text ≡ Ok t
    pub question : judged t w.steps w.switches w.targets ≡ Ok tt

  module _ (w : Wish) (text out : List ℕ) (t : Program) (a : Accepts w text t) (E : ℕ) (all : 0 + 1000000 * 1000 ≡ E) where
    good : proper t ≡ true
    good = (read_is text t a.table).0

    abbrev there : (q : Question) × (question_by t w.steps w.switches w.targets ≡ Some q)
    there = asked_some m t w.steps w.switches w.targets good a.question

    loads : booked (load_call text) ≡ held t
    loads = ap (load_on blank) a.table

    puts : (q : Question) → question_by t w.steps w.switches w.targets ≡ Some q → booked (put_calls w text) ≡ asked t q 0
    puts q is =
        ap (λ (b : Book). put_on b w.steps w.switches w.targets) loads
        ∙ ap (λ (r : Result (Unit {0}) Unasked). put_by (held t) t r (question_by t w.steps w.switches w.targets)) a.question
        ∙ ap (put_by (held t) t (Ok tt)) is

    books : (q : Question) → question_by t w.steps w.switches w.targets ≡ Some q → booked (calls w text) ≡ asked t q E
    books q is = ap (λ (b : Book). from b (works 1000)) (puts q is) ∙ works_asked t q 0 1000 ∙ ap (asked t q) all

    not_refused : answered m w text out ≡ reported m (booked (calls w text)) out
    not_refused =
        ap (λ (r : Result Program Unreadable). unless_refused (as_table r) (unless_refused (opened (booked (load_call text)) w.steps w.switches w.targets) (reported m (booked (calls w text)) out) out) out) a.table
        ∙ ap (λ (b : Book). unless_refused (opened b w.steps w.switches w.targets) (reported m (booked (calls w text)) out) out) loads
        ∙ ap (λ (r : Result (Unit {0}) Unasked). unless_refused (as_question r) (reported m (booked (calls w text)) out) out) a.question

    -- what is answered and held, by what the efforts in all show
    pub told_all : (n : ℕ) (new : List ℕ) (b : Bool) → nat_le 625 (length out) ≡ b
        → ◌≡◌ {A = Result ℕ Refusal × List ℕ} (Ok n, new) (cond b (in_a_line m (answered m w text out)) (Err refusal.Buffer, out))
        → (q : Question) → question_by t w.steps w.switches w.targets ≡ Some q
        → (n ≡ length (report t q E)) × (new ≡ written_over (report t q E) out)
    told_all n new true room e q is =
        let whole = fits t q E out (leb-true 625 (length out) room) in
        let same : ◌≡◌ {A = Result ℕ Refusal × List ℕ} (Ok n, new) (Ok (length (report t q E)), written_over (report t q E) out) =
        e ∙ ap (in_a_line m) (not_refused ∙ ap (λ (b : Book). reported m b out) (books q is) ∙ whole) in
        (ok_one (ap (λ (y : Result ℕ Refusal × List ℕ). y.0) same), ap (λ (y : Result ℕ Refusal × List ℕ). y.1) same)
    told_all n new false room e q is = let no = ap (λ (y : Result ℕ Refusal × List ℕ). y.0) e in cc

  reports : (w : Wish) (text out : List ℕ) (t : Program) (a : Accepts w text t) (n : ℕ) (new : List ℕ) → (Ok n, new) ≡ sat m w text out
      → Reports m widest w t out n new
  reports w text out t a n new e =
      let q = there w text out t a 1000000000 refl in
      let both = told_all w text out t a 1000000000 refl n new (nat_le 625 (length out)) refl e q.0 q.1 in
      let l = shown m t q.0 1000000000 in
      record {
        asked = q.0;
        asks = asks_of t w.steps w.switches w.targets q.0 q.1;
        units = l.units;
        verdict = l.verdict;
        run = front l.left;
        known = known m widest bounded t q.0 1000000000;
        bytes = both.0;
        written = both.1;
      }

  -- where there is room, by what is read of the text and judged of the question
  module _ (w : Wish) (text out : List ℕ) (n : ℕ) (new : List ℕ) (all : (Ok n, new) ≡ sat m w text out) (room : nat_le 625 (length out) ≡ true) where
    lined : (Ok n, new) ≡ in_a_line m (answered m w text out)
    lined = all ∙ cond-true (nat_le 625 (length out)) (in_a_line m (answered m w text out)) (Err refusal.Buffer, out) room

    abbrev last : Result ℕ Refusal × List ℕ
    last = reported m (booked (calls w text)) out

    abbrev asks_of_load : Result (Unit {0}) Refusal → Result ℕ Refusal × List ℕ
    asks_of_load r = unless_refused r (unless_refused (opened (booked (load_call text)) w.steps w.switches w.targets) last out) out

    told_as : (why : Refusal) → answered m w text out ≡ (Err why, out) → LineTold out n new why
    told_as why e = ok_line out new n why (lined ∙ ap (in_a_line m) e)

    not_read : (why : Unreadable) → read text ≡ Err why → Refused text why → NoTable text out n new
    not_read why e h = record { why = why; refused = h; line = told_as (refusal.Table why) (ap (λ (x : Result Program Unreadable). asks_of_load (as_table x)) e) }

    abbrev Shows : Program → Type 0
    Shows t = Reports m widest w t out n new

    of_table : (t : Program) → read text ≡ Ok t → Accepted text t → OfTable w text out n new Shows
    of_table t e h = record { table = t; accepted = h; asked = go (judged t w.steps w.switches w.targets) refl }
      where
        asked_of : answered m w text out ≡ unless_refused (as_question (judged t w.steps w.switches w.targets)) last out
        asked_of =
            ap (λ (x : Result Program Unreadable). asks_of_load (as_table x)) e
            ∙ ap (λ (b : Book). unless_refused (opened b w.steps w.switches w.targets) last out) (ap (load_on blank) e)

        go : (x : Result (Unit {0}) Unasked) → judged t w.steps w.switches w.targets ≡ x
            → NoQuestion w t out n new ⊎ (Askable t w.steps w.switches w.targets × Shows t)
        go (Ok tt) j = inr (judges t w.steps w.switches w.targets (Ok tt) j, reports w text out t (record { table = e; question = j }) n new all)
        go (Err why) j = inl (record {
          why = why;
          wrong = judges t w.steps w.switches w.targets (Err why) j;
          line = told_as (refusal.Question why) (asked_of ∙ ap (λ (x : Result (Unit {0}) Unasked). unless_refused (as_question x) last out) j);
        })

    pub written : Written w text out n new Shows
    written = go (read text) refl (accepts text nothing _ _ refl)
      where
        go : (x : Result Program Unreadable) → read text ≡ x → SaysOf text (taken_in nothing x).0 (taken_in nothing x).1 → Written w text out n new Shows
        go (Ok t) e h = inr (of_table t e h)
        go (Err why) e h = inl (not_read why e h)

  pub sits : (w : Wish) (text out : List ℕ) (r : Result ℕ Refusal) (new : List ℕ) → (r, new) ≡ sat m w text out → Sits m widest w text out r new
  sits w text out (Ok n) new e = go (nat_le 625 (length out)) refl
    where
      go : (b : Bool) → nat_le 625 (length out) ≡ b → Sits m widest w text out (Ok n) new
      go true room = (leb-true 625 (length out) room, written w text out n new e room)
      go false room =
          let other = e ∙ cond-false (nat_le 625 (length out)) (in_a_line m (answered m w text out)) (Err refusal.Buffer, out) room in
          let never = ap (λ (y : Result ℕ Refusal × List ℕ). y.0) other in cc
  sits w text out (Err why) new e = kept (nat_le 625 (length out)) (answered m w text out) refl e
    where
      kept : (b : Bool) (x : Result ℕ Refusal × List ℕ) → nat_le 625 (length out) ≡ b
          → ◌≡◌ {A = Result ℕ Refusal × List ℕ} (Err why, new) (cond b (in_a_line m x) (Err refusal.Buffer, out)) → TooShort why out new
      kept true (Ok k, z) room e = let never = ap (λ (y : Result ℕ Refusal × List ℕ). y.0) e in cc
      kept true (Err f, z) room e = let never = ap (λ (y : Result ℕ Refusal × List ℕ). y.0) e in cc
      kept false x room e = record {
        is = err_one (ap (λ (y : Result ℕ Refusal × List ℕ). y.0) e);
        short = leb-false 625 (length out) room;
        kept = ap (λ (y : Result ℕ Refusal × List ℕ). y.1) e;
      }

-- over release-acquire memory a settled verdict holds for timestamps of any size
pub weakly : (w : Wish) (text : List ℕ) (t : Program) (out : List ℕ) (n : ℕ) (new : List ℕ) → Accepted text t
    → Reports weak 25 w t out n new → Weakly w t out n new
weakly w text t out n new a r =
    let made = a.text_of.0 in
    let asking : Asking t r.asked = record {
      steps = w.steps;
      switches = w.switches;
      targets = w.targets;
      is = asked_by t w.steps w.switches w.targets r.asked r.asks;
    } in
    record { reports = r; free = found_free t r.asked (ap proper made.2 ∙ proper_source made.0 made.1) asking r.verdict r.run r.known.tells.settled }
