-- How many runs are within bounds at most. Over any system.
use Rattle.std.proofs.Common.{◌≡◌, ℕ, zero, suc, ◌+◌, ◌-◌, ◌*◌, ◌≤◌, Bool, true, false, nat_le, List, [], ◌∷◌, ◌++◌, length, sym, ap, ◌∙◌, length-append, suc-mul, zero-mul, mul-le-mul_right, mul_assoc, le_trans, arith}
use Rattle.ceiling.specs.declared.moves.Move.{Move}
use Rattle.runs.specs.Runs.{System, cost, move, span, runs}
use Rattle.runs.specs.Listed.{geometric}
use Rattle.runs.proofs.Spans.{pick}
use Rattle.runs.proofs.Members.{by_move, by_choice, by_process}
use Rattle.runs.proofs.Powers.{geometric_front}

-- j lists of at most B elements, joined
pub length_span : {A : Type 0} (f : ℕ → List A) (B : ℕ) → ((x : ℕ) → length (f x) ≤ B) → (i j : ℕ) → length (span f i j) ≤ j * B
length_span f B h i zero = omega (arith, zero-mul B)
length_span f B h i (suc j) =
    let a = h i in
    let r = length_span f B h (i + 1) j in
    omega (arith, length-append (f i) (span f (i + 1) j), suc-mul j B)

length_pick : (b : Bool) (L : List (List Move)) (B : ℕ) → length L ≤ B → length (pick b L) ≤ B
length_pick true L B h = h
length_pick false L B h = omega arith

module _ {W : Type 0} (S : System W) (widest : ℕ) (narrow : (w : W) (p : ℕ) → S.offer w p ≤ widest) where
  -- those that go on by any choice of p, where each choice has at most B
  length_process : (n k : ℕ) (w : W) (path : List Move) (B : ℕ)
      → ((p c : ℕ) → length (by_choice S n k w path p c) ≤ B) → (p : ℕ) → length (by_process S n k w path p) ≤ widest * B
  length_process n k w path B h p =
      let most = narrow w p in
      let l : S.offer w p - 0 ≤ widest = omega arith in
      le_trans (length_span (by_choice S n k w path p) B (h p) 0 (S.offer w p - 0)) (mul-le-mul_right B l)

  pub length_runs : (n k : ℕ) (w : W) (path : List Move) → length (runs S n k w path) ≤ geometric (S.processes * widest) n
  length_runs zero k w path = omega arith
  length_runs (suc n) k w path =
      let B = geometric (S.processes * widest) n in
      let room = λ (p c : ℕ). nat_le (cost S w (move p c)) k in
      let next = λ (p c : ℕ). length_runs n (k - cost S w (move p c)) (S.next w (move p c)) (path ++ (move p c ∷ [])) in
      let one = λ (p c : ℕ). length_pick (room p c) (by_move S n k w path (move p c)) B (next p c) in
      let all = length_span (by_process S n k w path) (widest * B) (length_process n k w path B one) 1 (S.processes + 1 - 1) in
      let e : S.processes + 1 - 1 ≡ S.processes = omega arith in
      let total : (S.processes + 1 - 1) * (widest * B) ≡ S.processes * widest * B = ap (λ (x : ℕ). x * (widest * B)) e ∙ sym (mul_assoc S.processes widest B) in
      let front = geometric_front (S.processes * widest) n in
      omega arith
