use Rattle.std.proofs.Common.{◌≡◌, ℕ, ◌⊎◌, inl, inr, List, Ok, Err, Result, sym, subst}
use Rattle.memory.specs.declared.kinds.Kind.{Kind}
use Rattle.memory.specs.declared.kinds.Kind.TheVariants.{Sequential, ReleaseAcquire}
use Rattle.memory.specs.Fences.{fenced}
use Rattle.memory.specs.Sequential as sequential
use Rattle.ceiling.specs.Ceiling.{memory as weak}
use Rattle.runs.specs.declared.lines.Wish.{Wish}
use Rattle.runs.specs.Askable.{Askable}
use Rattle.session.specs.declared.refusals.Refusal.{Refusal}
use Rattle.sitting.specs.Sits.{Answer, NoQuestion, Reports, Sits, SeatSays, Written}
use Rattle.sitting.proofs.Sits.{weakly}
use Rattle.sitting.proofs.sittings.seat.Goals as goal

-- what is written over release-acquire memory holds for timestamps of any size
freely : (w : Wish) (text out : List ℕ) (n : ℕ) (new : List ℕ) → Written w text out n new (λ t. Reports weak 25 w t out n new)
    → Written w text out n new (Answer ReleaseAcquire w out n new)
freely w text out n new (inl none) = inl none
freely w text out n new (inr of) = inr (record { table = of.table; accepted = of.accepted; asked = go of.asked })
  where
    go : NoQuestion w of.table out n new ⊎ (Askable of.table w.steps w.switches w.targets × Reports weak 25 w of.table out n new)
        → NoQuestion w of.table out n new ⊎ (Askable of.table w.steps w.switches w.targets × Answer ReleaseAcquire w out n new of.table)
    go (inl none) = inl none
    go (inr (can, reports)) = inr (can, weakly w text of.table out n new of.accepted reports)

by_weak : (w : Wish) (text out : List ℕ) (r : Result ℕ Refusal) (new : List ℕ) → w.memory ≡ ReleaseAcquire
    → Sits weak 25 w text out r new → SeatSays w text out r new
by_weak w text out (Ok n) new is h = (h.0, subst (λ (k : Kind). Written w text out n new (Answer k w out n new)) (sym is) (freely w text out n new h.1))
by_weak w text out (Err why) new is h = h

by_sequential : (w : Wish) (text out : List ℕ) (r : Result ℕ Refusal) (new : List ℕ) → w.memory ≡ Sequential
    → Sits (fenced sequential.machine) 1 w text out r new → SeatSays w text out r new
by_sequential w text out (Ok n) new is h = (h.0, subst (λ (k : Kind). Written w text out n new (Answer k w out n new)) (sym is) h.1)
by_sequential w text out (Err why) new is h = h

pub returns-in-Sequential-clause-words : goal.returns-in-Sequential-clause-words
returns-in-Sequential-clause-words c =
    by_sequential c.args.wish c.args.text.now c.args.out.now c.sit.result c.sit.new.out c.in-Sequential.is c.sit.ensures.words

pub returns-in-ReleaseAcquire-clause-words : goal.returns-in-ReleaseAcquire-clause-words
returns-in-ReleaseAcquire-clause-words c =
    by_weak c.args.wish c.args.text.now c.args.out.now c.sit-in-ReleaseAcquire.result c.sit-in-ReleaseAcquire.new.out c.in-ReleaseAcquire.is
    c.sit-in-ReleaseAcquire.ensures.words
