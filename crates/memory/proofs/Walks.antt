-- Walks over the numbers: one counts those that pass a test, and one stops at a choice among them.
use Rattle.std.proofs.Common.{◌≡◌, ℕ, ◌+◌, ◌<◌, ◌≤◌, Bool, true, false, length, get_or, sym, ◌∙◌, ◌≢◌, subst, arith}
use Rattle.std.specs.Int.{from_bool}
use Rattle.memory.specs.ReleaseAcquire.{passing}
use Rattle.memory.specs.Passing.{count_yes, count_no, place}

module _ (test : ℕ → Bool) where
  -- k of the numbers below i have passed, and i adds 1 to them if it passes
  pub counted : (i k n : ℕ) (b : Bool) → k ≡ length (passing test i) → b ≡ test i → n ≡ from_bool b → k + n ≡ length (passing test (i + 1))
  counted i k n true so_far hit one = omega (arith, count_yes test i (sym hit))
  counted i k n false so_far miss none = omega (arith, count_no test i (sym miss))

  -- k of the numbers below i have passed, and the choice c is not among them
  abbrev pub Passed : ℕ → ℕ → ℕ → Type 0
  Passed c i k = (k ≡ length (passing test i)) × (k ≤ c)

  pub passed_yes : (c i k l : ℕ) → Passed c i k → true ≡ test i → (k ≢ c) → l ≡ k + 1 → Passed c (i + 1) l
  passed_yes c i k l so_far hit other one_more = (omega (arith, so_far.0, count_yes test i (sym hit)), omega (arith, so_far.1, other))

  pub passed_no : (c i k l : ℕ) → Passed c i k → false ≡ test i → l ≡ k → Passed c (i + 1) l
  passed_no c i k l so_far miss as_many = (omega (arith, so_far.0, count_no test i (sym miss)), omega (arith, so_far.1))

  pub record Arrived (n c i : ℕ) : Type 0 where
    pub offered : c < length (passing test n)
    pub chosen : i ≡ get_or (passing test n) c 0
    pub passes : test i ≡ true

  -- a number that passes, after c others, is the choice c
  pub arrived : (n c i k : ℕ) → i < n → true ≡ test i → k ≡ length (passing test i) → k ≡ c → Arrived n c i
  arrived n c i k below hit so_far enough =
      let at = place test n i below (sym hit) in
      let here : length (passing test i) ≡ c = sym so_far ∙ enough in
      record {
        offered = subst (λ j. j < length (passing test n)) here at.0;
        chosen = sym (subst (λ j. get_or (passing test n) j 0 ≡ i) here at.1);
        passes = sym hit;
      }
