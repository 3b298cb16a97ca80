-- The case that is read from the front of a batch is the one with which it begins.
use Rattle.std.proofs.Common.{◌≡◌, ℕ, suc, ◌+◌, ◌-◌, ◌*◌, ◌<◌, ◌≤◌, Bool, true, false, cond, not, eqb, leb, ltb, List, [], ◌∷◌, ◌++◌, length, take, drop, get_or, Some, None, Option, refl, sym, ap, ap₂, ◌∙◌, subst, arith, add-one}
use Rattle.std.proofs.lemmas.Bool.{cond-true, ltb-true, lt-ltb, not-false, both_ways, eqb-true, eq-eqb, ne_eqb, le-leb, leb-true}
use Rattle.std.proofs.lemmas.List.{take-append-drop, length-append, length-take-le}
use Rattle.std.proofs.lemmas.List.Sums.{prefix_len_stops}
use Rattle.std.proofs.lemmas.Option.{none-some, same_Some}
use Rattle.std.proofs.Math.Seq.{drop-cons, take-append_seam, drop-append_seam, drop-append-add}
use Rattle.std.specs.List.{position_or_len}
use Rattle.std.specs.Option.{option_and_then, option_map}
use Rattle.text.specs.Lines.{is_digit}
use Rattle.program.specs.Program.{within}
use Rattle.sittings.specs.Numerals.{digits_from, number_of}
use Rattle.sittings.specs.Cases.{Begins, BeginsWith, First, case_after, case_of, case_with, cut, taken}

-- what a step that gave a value says
cond_some : {X : Type 0} (b : Bool) (o : Option X) (x : X) → cond b o None ≡ Some x → (b ≡ true) × (o ≡ Some x)
cond_some true o x h = (refl, h)
cond_some false o x h = absurd (none-some x h)

then_some : {X Y : Type 0} (f : X → Option Y) (o : Option X) (y : Y) → option_and_then f o ≡ Some y
    → (x : X) × (o ≡ Some x) × (f x ≡ Some y)
then_some f None y h = absurd (none-some y h)
then_some f (Some x) y h = (x, refl, h)

map_if : {X Y : Type 0} (f : X → Y) (b : Bool) (x : X) (y : Y) → option_map f (cond b (Some x) None) ≡ Some y → (b ≡ true) × (f x ≡ y)
map_if f true x y h = (refl, same_Some (f x) y h)
map_if f false x y h = absurd (none-some y h)

-- a text is the parts into which it is cut, with the mark between
cut_joins : (e : ℕ) (s : List ℕ) (p : List ℕ × List ℕ) → cut e s ≡ Some p → s ≡ p.0 ++ (e ∷ p.1)
cut_joins e s p h =
    let i = position_or_len (λ b. eqb b e) s in
    let q = map_if (λ (j : ℕ). (take j s, drop (j + 1) s)) (ltb i (length s)) i p h in
    let low : i < length s = ltb-true i (length s) q.0 in
    let stops = prefix_len_stops (λ b. not (eqb b e)) s 0 low in
    let at : get_or s i 0 ≡ e = eqb-true (get_or s i 0) e (not-false (eqb (get_or s i 0) e) stops) in
    let more : suc i ≡ i + 1 = sym (add-one i) in
    let back : drop i s ≡ e ∷ drop (i + 1) s = drop-cons s i 0 low ∙ ap₂ (λ (b j : ℕ). b ∷ drop j s) at more in
    subst (λ (r : List ℕ × List ℕ). s ≡ r.0 ++ (e ∷ r.1)) q.1 (sym (take-append-drop i s) ∙ ap (λ (l : List ℕ). take i s ++ l) back)

-- digits before a mark that is no digit are cut off there
step_to : (b : Bool) (i n : ℕ) → b ≡ false → i ≡ n → cond (not b) (1 + i) 0 ≡ suc n
step_to true i n other e = absurd (both_ways true other refl)
step_to false i n other e = omega arith

place_at : (e : ℕ) (ds rest : List ℕ) (n k : ℕ) → is_digit e ≡ false → digits_from n ds ≡ Some k
    → position_or_len (λ b. eqb b e) (ds ++ (e ∷ rest)) ≡ length ds
place_at e [] rest n k other h = ap (λ (b : Bool). cond (not b) (1 + position_or_len (λ b. eqb b e) rest) 0) (eq-eqb e e refl)
place_at e (d ∷ ds) rest n k other h =
    let q = cond_some (is_digit d) (digits_from (n * 10 + (d - 48)) ds) k h in
    let apart = ne_eqb d e (λ same. both_ways (is_digit e) other (sym (ap is_digit same) ∙ q.0)) in
    step_to (eqb d e) (position_or_len (λ b. eqb b e) (ds ++ (e ∷ rest))) (length ds) apart
    (place_at e ds rest (n * 10 + (d - 48)) k other q.1)

cut_at : (e : ℕ) (ds rest : List ℕ) (k : ℕ) → is_digit e ≡ false → number_of ds ≡ Some k → cut e (ds ++ (e ∷ rest)) ≡ Some (ds, rest)
cut_at e ds rest k other h =
    let s = ds ++ (e ∷ rest) in
    let i = position_or_len (λ b. eqb b e) s in
    let q = cond_some (within 1 9 (length ds)) (digits_from 0 ds) k h in
    let at : i ≡ length ds = place_at e ds rest 0 k other q.1 in
    let low : i < length s = omega (arith, length-append ds (e ∷ rest)) in
    let found = cond-true (ltb i (length s)) (Some i) None (lt-ltb i (length s) low) in
    let front : take i s ≡ ds = ap (λ (j : ℕ). take j s) at ∙ take-append_seam ds (e ∷ rest) in
    let back : drop (i + 1) s ≡ rest = ap (λ (j : ℕ). drop (j + 1) s) at ∙ drop-append-add ds (e ∷ rest) 1 in
    ap (option_map (λ (j : ℕ). (take j s, drop (j + 1) s))) found ∙ ap₂ (λ (a b : List ℕ). Some (a, b)) front back

-- the case that a batch begins with is read
taken_all : (d : First) → taken (length d.input) d.room (d.input ++ d.rest) ≡ Some d
taken_all d =
    let n = length d.input in
    let text = d.input ++ d.rest in
    let enough : n ≤ length text = omega (arith, length-append d.input d.rest) in
    let front : take n text ≡ d.input = take-append_seam d.input d.rest in
    let back : drop n text ≡ d.rest = drop-append_seam d.input d.rest in
    cond-true (leb n (length text)) (Some (record { input = take n text; room = d.room; rest = drop n text })) None
    (le-leb n (length text) enough)
    ∙ ap₂ (λ (i r : List ℕ). Some (record { input = i; room = d.room; rest = r })) front back

begun_read : (batch : List ℕ) (d : First) → Begins batch d → case_of batch ≡ Some d
begun_read batch d b =
    let text = d.input ++ d.rest in
    let tail = b.space ++ (10 ∷ text) in
    let n = length d.input in
    ap (λ (s : List ℕ). option_and_then case_with (cut 32 s)) b.batch_is
    ∙ ap (option_and_then case_with) (cut_at 32 b.size tail n refl b.size_is)
    ∙ ap (option_and_then (λ (k : ℕ). option_and_then (case_after k) (cut 10 tail))) b.size_is
    ∙ ap (option_and_then (case_after n)) (cut_at 10 b.space text d.room refl b.room_is)
    ∙ ap (option_and_then (λ (k : ℕ). taken n k text)) b.room_is
    ∙ taken_all d

-- the batch begins with the case that is read
read_begun : (batch : List ℕ) (c : First) → case_of batch ≡ Some c → Begins batch c
read_begun batch c h =
    let p = then_some case_with (cut 32 batch) c h in
    let n = then_some (λ (k : ℕ). option_and_then (case_after k) (cut 10 p.0.1)) (number_of p.0.0) c p.2 in
    let q = then_some (case_after n.0) (cut 10 p.0.1) c n.2 in
    let r = then_some (λ (k : ℕ). taken n.0 k q.0.1) (number_of q.0.0) c q.2 in
    let text = q.0.1 in
    let d : First = record { input = take n.0 text; room = r.0; rest = drop n.0 text } in
    let t = cond_some (leb n.0 (length text)) (Some d) c r.2 in
    let size : n.0 ≡ length (take n.0 text) = sym (length-take-le n.0 text (leb-true n.0 (length text) t.0)) in
    subst (Begins batch) {x = d} (same_Some d c t.1) (record {
      size = p.0.0;
      space = q.0.0;
      batch_is =
          cut_joins 32 batch p.0 p.1
          ∙ ap (λ (l : List ℕ). p.0.0 ++ (32 ∷ l)) (cut_joins 10 p.0.1 q.0 q.1)
          ∙ ap (λ (l : List ℕ). p.0.0 ++ (32 ∷ (q.0.0 ++ (10 ∷ l)))) (sym (take-append-drop n.0 text));
      size_is = n.1 ∙ ap Some size;
      room_is = r.1;
    })

pub begins_with : (batch : List ℕ) (o : Option First) → o ≡ case_of batch → BeginsWith batch o
begins_with batch (Some c) e =
    (read_begun batch c (sym e), λ d b. same_Some d c (sym (begun_read batch d b) ∙ sym e))
begins_with batch None e = λ d b. none-some d (e ∙ begun_read batch d b)
