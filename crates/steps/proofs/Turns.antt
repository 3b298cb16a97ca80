-- One line after another.
use Rattle.std.proofs.Common.{◌≡◌, ℕ, ◌+◌, ◌<◌, ◌≤◌, Bool, true, false, cond, eqb, List, [], ◌∷◌, length, drop, refl, ap, arith}
use Rattle.steps.specs.Cutting.{front, back, begun, lines_of, numbered}

-- by whether the first byte ends the line
first_by : (b : Bool) (c : ℕ) (cs : List ℕ) → begun c (lines_of cs) ≡ (c ∷ front 10 cs) ∷ lines_of (drop 1 (back 10 cs)) → cond b ([] ∷ lines_of cs) (begun c (lines_of cs)) ≡ cond b [] (c ∷ front 10 cs) ∷ lines_of (drop 1 (cond b (c ∷ cs) (back 10 cs)))
first_by true c cs h = refl
first_by false c cs h = h

begins : (c : ℕ) (cs : List ℕ) → begun c (lines_of cs) ≡ (c ∷ front 10 cs) ∷ lines_of (drop 1 (back 10 cs))
begins c [] = refl
begins c (d ∷ ds) = ap (begun c) (first_by (eqb d 10) d ds (begins d ds))

pub line_first : (s : List ℕ) → 0 < length s → lines_of s ≡ front 10 s ∷ lines_of (drop 1 (back 10 s))
line_first [] h = absurd (let z : 0 < 0 = h in omega arith)
line_first (c ∷ cs) h = first_by (eqb c 10) c cs (begins c cs)

shorter_by : (b : Bool) (c : ℕ) (cs : List ℕ) → length (drop 1 (back 10 cs)) ≤ length cs → length (drop 1 (cond b (c ∷ cs) (back 10 cs))) ≤ length cs
shorter_by true c cs h = omega arith
shorter_by false c cs h = h

shorter : (cs : List ℕ) → length (drop 1 (back 10 cs)) ≤ length cs
shorter [] = omega arith
shorter (d ∷ ds) = let h = shorter_by (eqb d 10) d ds (shorter ds) in omega arith

-- a line takes at least one byte
pub less_left : (s : List ℕ) → 0 < length s → length (drop 1 (back 10 s)) < length s
less_left [] h = absurd (let z : 0 < 0 = h in omega arith)
less_left (c ∷ cs) h = let k = shorter_by (eqb c 10) c cs (shorter cs) in omega arith

-- no more lines than bytes
begun_few : (c : ℕ) (ls : List (List ℕ)) → length (begun c ls) ≤ length ls + 1
begun_few c [] = omega arith
begun_few c (l ∷ ls) = omega arith

few_by : (b : Bool) (c : ℕ) (ls : List (List ℕ)) → length (cond b ([] ∷ ls) (begun c ls)) ≤ length ls + 1
few_by true c ls = omega arith
few_by false c ls = begun_few c ls

few_lines : (s : List ℕ) → length (lines_of s) ≤ length s
few_lines [] = omega arith
few_lines (c ∷ cs) = let h = few_by (eqb c 10) c (lines_of cs) in let k = few_lines cs in omega arith

few_numbered : (n : ℕ) (ls : List (List ℕ)) → length (numbered n ls) ≤ length ls
few_numbered n [] = omega arith
few_numbered n ([] ∷ ls) = let h = few_numbered (n + 1) ls in omega arith
few_numbered n ((c ∷ cs) ∷ ls) = let h = few_numbered (n + 1) ls in omega arith

pub few_left : (n : ℕ) (s : List ℕ) → length (numbered n (lines_of s)) ≤ length s
few_left n s = omega (arith, few_numbered n (lines_of s), few_lines s)
