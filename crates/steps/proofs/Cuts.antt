-- The place of the first byte e of a text cuts it there.
use Rattle.std.proofs.Common.{◌≡◌, ℕ, ◌+◌, Bool, true, false, cond, not, eqb, ltb, List, [], ◌∷◌, length, take, drop, Some, None, refl, ap, ◌∙◌, add_comm, add-one, arith}
use Rattle.std.proofs.lemmas.List.Sums.{prefix_len-le-length}
use Rattle.std.proofs.lemmas.Bool.{ltb-false}
use Rattle.std.specs.List.{position, position_or_len}
use Rattle.std.specs.Option.{unwrap_or}
use Rattle.steps.specs.Cutting.{front, back}

-- where the text is cut
abbrev pub cut_at : ℕ → List ℕ → ℕ
cut_at e s = unwrap_or (position (λ b. eqb b e) s) (length s)

found_or : (b : Bool) (i n : ℕ) → (b ≡ false → n ≡ i) → unwrap_or (cond b (Some i) None) n ≡ i
found_or true i n h = refl
found_or false i n h = h refl

cut_at_is : (e : ℕ) (s : List ℕ) → cut_at e s ≡ position_or_len (λ b. eqb b e) s
cut_at_is e s =
    let i = position_or_len (λ b. eqb b e) s in
    found_or (ltb i (length s)) i (length s) (λ h. let u = ltb-false i (length s) h in omega (arith, prefix_len-le-length (λ b. not (eqb b e)) s))

front_by : (b : Bool) (c : ℕ) (cs f : List ℕ) (n : ℕ) → take n cs ≡ f → take (cond (not b) (1 + n) 0) (c ∷ cs) ≡ cond b [] (c ∷ f)
front_by true c cs f n h = refl
front_by false c cs f n h = rw (add_comm 1 n, add-one) (ap (λ (l : List ℕ). c ∷ l) h)

front_to : (e : ℕ) (s : List ℕ) → take (position_or_len (λ b. eqb b e) s) s ≡ front e s
front_to e [] = refl
front_to e (c ∷ cs) = front_by (eqb c e) c cs (front e cs) (position_or_len (λ b. eqb b e) cs) (front_to e cs)

pub front_is : (e : ℕ) (s : List ℕ) → take (cut_at e s) s ≡ front e s
front_is e s = ap (λ i. take i s) (cut_at_is e s) ∙ front_to e s

back_by : (b : Bool) (c : ℕ) (cs g : List ℕ) (n : ℕ) → drop n cs ≡ g → drop (cond (not b) (1 + n) 0) (c ∷ cs) ≡ cond b (c ∷ cs) g
back_by true c cs g n h = refl
back_by false c cs g n h = rw (add_comm 1 n, add-one) h

back_to : (e : ℕ) (s : List ℕ) → drop (position_or_len (λ b. eqb b e) s) s ≡ back e s
back_to e [] = refl
back_to e (c ∷ cs) = back_by (eqb c e) c cs (back e cs) (position_or_len (λ b. eqb b e) cs) (back_to e cs)

pub back_is : (e : ℕ) (s : List ℕ) → drop (cut_at e s) s ≡ back e s
back_is e s = ap (λ i. drop i s) (cut_at_is e s) ∙ back_to e s
