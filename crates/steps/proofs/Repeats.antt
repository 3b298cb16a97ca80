-- Words and numbers, written again as they were read.
use Rattle.std.proofs.Common.{◌≡◌, ℕ, ◌+◌, ◌-◌, ◌*◌, Bool, true, false, cond, not, ◌&&◌, ◌||◌, eqb, leb, List, [], ◌∷◌, ◌++◌, length, take, drop, Some, None, decimal, Option, sym, refl, ap, ◌∙◌, ⊎_elim, arith, rules}
use Rattle.std.proofs.lemmas.Fmt.{decimal-digits_value}
use Rattle.std.proofs.lemmas.Str.Parse.{IsNumeralModel, numerals_by_fold, digits_value_short, tells_all_ascii_digits}
use Rattle.std.proofs.lemmas.Bool.{and_from, and_parts, or_cases, not-true, eqb-true, eqb-false, leb-true}
use Rattle.std.proofs.lemmas.Option.{none-some, same_Some}
use Rattle.std.proofs.lemmas.List.{take-append-drop}
use Rattle.std.proofs.lemmas.Slice.Eq.{bytes_eq-Decides}
use Rattle.std.specs.Str.{all_ascii_digits, bytes_eq}
use Rattle.steps.specs.Chains.{then}
use Rattle.steps.specs.Cutting.{front, back, after, word_after}
use Rattle.steps.specs.Numbers.{digits_from, well_begun, number_of, byte_of}
use Rattle.steps.proofs.Inversions.{then_some, cond_some}

joins_by : (b : Bool) (c : ℕ) (cs f g : List ℕ) → f ++ g ≡ cs → cond b [] (c ∷ f) ++ cond b (c ∷ cs) g ≡ c ∷ cs
joins_by true c cs f g h = refl
joins_by false c cs f g h = ap (λ (l : List ℕ). c ∷ l) h

pub cut_joins : (e : ℕ) (s : List ℕ) → front e s ++ back e s ≡ s
cut_joins e [] = refl
cut_joins e (c ∷ cs) = joins_by (eqb c e) c cs (front e cs) (back e cs) (cut_joins e cs)

pub after_joins : (start s r : List ℕ) → after start s ≡ Some r → start ++ r ≡ s
after_joins start s r h =
    let n = length start in
    let q = cond_some (bytes_eq (take n s) start) (Some (drop n s)) r h in
    (λ k. sym ((bytes_eq-Decides (take n s) start).0 q.0) k ++ sym (same_Some (drop n s) r q.1) k) ∙ take-append-drop n s

-- the word after a beginning, read
pub word_joins : {X : Type 0} (start : List ℕ) (read : List ℕ → Option X) (s : List ℕ) (p : X × List ℕ) → word_after start read s ≡ Some p → (w : List ℕ) × (read w ≡ Some p.0) × (start ++ (w ++ p.1) ≡ s)
word_joins {X = X} start read s p h =
    let q = then_some (after start s) (λ r. then (read (front 32 r)) (λ x. Some (x, back 32 r))) p h in
    let r = then_some (read (front 32 q.0)) (λ x. Some (x, back 32 q.0)) p q.2 in
    let e = same_Some (r.0, back 32 q.0) p r.2 in (
      front 32 q.0,
      r.1 ∙ ap (λ (t : X × List ℕ). Some t.0) e,
      ap (λ (t : X × List ℕ). start ++ (front 32 q.0 ++ t.1)) (sym e) ∙
          (ap (λ (l : List ℕ). start ++ l) (cut_joins 32 q.0) ∙ after_joins start s q.0 q.1),
    )

abbrev read_on : ℕ → List ℕ → ℕ
read_on n [] = n
read_on n (c ∷ cs) = read_on (n * 10 + (c - 48)) cs

own : IsNumeralModel (λ ds. all_ascii_digits ds ≡ true) (read_on 0)
own = numerals_by_fold _ tells_all_ascii_digits read_on (search rules)

digits_read : (n : ℕ) (s : List ℕ) (m : ℕ) → digits_from n s ≡ Some m → (all_ascii_digits s ≡ true) × (read_on n s ≡ m)
digits_read n [] m h = (refl, same_Some n m h)
digits_read n (c ∷ cs) m h =
    let p = cond_some (leb 48 c && leb c 57) (digits_from (n * 10 + (c - 48)) cs) m h in
    let q = digits_read (n * 10 + (c - 48)) cs m p.1 in
    (and_from (leb 48 c && leb c 57) (all_ascii_digits cs) p.0 q.0, q.1)

alone : (c : ℕ) (cs : List ℕ) → (not (eqb c 48) || eqb (length cs) 0) ≡ true → c ≡ 48 → length (c ∷ cs) ≡ 1
alone c cs h z =
    ⊎_elim (λ a. absurd (eqb-false c 48 (not-true (eqb c 48) a) z)) (λ b. let e = eqb-true (length cs) 0 b in omega arith)
    (or_cases (not (eqb c 48)) (eqb (length cs) 0) h)

pub number_repeats : (w : List ℕ) (n : ℕ) → number_of w ≡ Some n → decimal n ≡ w
number_repeats [] n h = absurd (none-some n h)
number_repeats (c ∷ cs) n h =
    let w : List ℕ = c ∷ cs in
    let p = cond_some (well_begun w) (digits_from 0 w) n h in
    let q = digits_read 0 w n p.1 in
    let b = and_parts (leb (length w) 4) (not (eqb c 48) || eqb (length cs) 0) p.0 in
    let short = digits_value_short own w 4 q.0 (leb-true (length w) 4 b.0) in
    ap decimal (sym q.1) ∙ decimal-digits_value own w q.0 (omega arith) (alone c cs b.1) (omega (arith, short))

pub byte_repeats : (w : List ℕ) (n : ℕ) → byte_of w ≡ Some n → decimal n ≡ w
byte_repeats w n h =
    let p = then_some (number_of w) (λ m. cond (leb m 255) (Some m) None) n h in
    let q = cond_some (leb p.0 255) (Some p.0) n p.2 in
    ap decimal (sym (same_Some p.0 n q.1)) ∙ number_repeats w p.0 p.1
