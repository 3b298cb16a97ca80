-- The question that a table is asked is the one that its numbers make.
use Rattle.std.proofs.Common.{◌≡◌, ℕ, ◌≤◌, Bool, true, false, T, nat_le, ◌&&◌, List, Some, None, Option, refl, sym, ap, ◌∙◌}
use Rattle.std.proofs.lemmas.Bool.{and_from, and_parts, le-leb, leb-true}
use Rattle.std.proofs.lemmas.Option.{same_Some}
use native.Mathlib.Bridge.{le_prop}
use Rattle.memory.specs.declared.shapes.Shape.{Shape}
use Rattle.memory.specs.Shapes.{shape_by}
use Rattle.memory.proofs.Shapings.{shape_there}
use Rattle.program.specs.Program.{Program, counts_fit, within}
use Rattle.runs.specs.declared.questions.Question.{Question}
use Rattle.runs.specs.Asked.{Asks, question_if, question_by, bounds}

-- the facts of the two are the same
itself : (q : Question) (b : Bool) (h : T b → (q.steps ≤ 24) × (q.switches ≤ 24)) → b ≡ true
    → question_if q.steps q.switches q.targets b h (Some q.shape) ≡ Some q
itself q true h e = ap Some (λ i. record {
  shape = q.shape;
  steps = q.steps;
  switches = q.switches;
  targets = q.targets;
  short = le_prop (h tt).0 q.short i;
  few = le_prop (h tt).1 q.few i;
})
itself q false h e = cc

low : (n : ℕ) → n ≤ 24 → nat_le n 24 ≡ true
low n h = le-leb n 24 h

pub asked_by : (t : Program) (n k : ℕ) (targets : List ℕ) (q : Question) → Asks t n k targets q → question_by t n k targets ≡ Some q
asked_by t n k targets q a =
    ap (λ (x : ℕ). question_by t x k targets) (sym a.steps)
    ∙ ap (λ (x : ℕ). question_by t q.steps x targets) (sym a.switches)
    ∙ ap (λ (x : List ℕ). question_by t q.steps q.switches x) (sym a.targets_are)
    ∙ ap (λ (s : Option Shape). question_if q.steps q.switches q.targets (nat_le q.steps 24 && nat_le q.switches 24) (bounds q.steps q.switches) s)
    (ap (shape_by t.counts.processes t.counts.variables) a.steps ∙ a.shape)
    ∙ itself q (nat_le q.steps 24 && nat_le q.switches 24) (bounds q.steps q.switches) (and_from (nat_le q.steps 24) (nat_le q.switches 24) (low q.steps q.short) (low q.switches q.few))

-- where the bounds and the table's counts are within their limits, there is a question
pub asked_there : (t : Program) (n k : ℕ) (targets : List ℕ) → counts_fit t.counts ≡ true → nat_le n 24 && nat_le k 24 ≡ true
    → (q : Question) × (question_by t n k targets ≡ Some q)
asked_there t n k targets fit low =
    let a = and_parts (within 1 4 t.counts.processes) _ fit in
    let b = and_parts (within 1 4 t.counts.variables) _ a.1 in
    let p = and_parts (nat_le 1 t.counts.processes) (nat_le t.counts.processes 4) a.0 in
    let v = and_parts (nat_le 1 t.counts.variables) (nat_le t.counts.variables 4) b.0 in
    let l = and_parts (nat_le n 24) (nat_le k 24) low in
    let shape = shape_there t.counts.processes t.counts.variables n
    (leb-true 1 t.counts.processes p.0, leb-true t.counts.processes 4 p.1, leb-true 1 t.counts.variables v.0, leb-true t.counts.variables 4 v.1, leb-true n 24 l.0) in
    go (nat_le n 24 && nat_le k 24) (bounds n k) (shape_by t.counts.processes t.counts.variables n) shape.0 low shape.1
  where
    go : (b : Bool) (h : T b → (n ≤ 24) × (k ≤ 24)) (o : Option Shape) (s : Shape) → b ≡ true → o ≡ Some s
        → (q : Question) × (question_if n k targets b h o ≡ Some q)
    go true h (Some x) s e es = (_, refl)
    go true h None s e es = cc
    go false h o s e es = cc

-- what a question is of, from how it is made
pub asks_of : (t : Program) (n k : ℕ) (targets : List ℕ) (q : Question) → question_by t n k targets ≡ Some q → Asks t n k targets q
asks_of t n k targets q = go (nat_le n 24 && nat_le k 24) (bounds n k) (shape_by t.counts.processes t.counts.variables n) refl
  where
    go : (b : Bool) (h : T b → (n ≤ 24) × (k ≤ 24)) (o : Option Shape) → shape_by t.counts.processes t.counts.variables n ≡ o
        → question_if n k targets b h o ≡ Some q → Asks t n k targets q
    go true h (Some s) is e =
        let same = same_Some _ q e in
        record {
          shape = is ∙ ap (λ (x : Question). Some x.shape) same;
          steps = sym (ap (λ (x : Question). x.steps) same);
          switches = sym (ap (λ (x : Question). x.switches) same);
          targets_are = sym (ap (λ (x : Question). x.targets) same);
        }
    go true h None is e = cc
    go false h o is e = cc
