-- Counting how many lines name each process.
use Rattle.std.proofs.Common.{◌≡◌, ℕ, ◌+◌, ◌<◌, ◌≤◌, true, false, eqb, List, length, get_or, take, set, sym, ap, ◌∙◌, inl, inr, arith}
use Rattle.std.proofs.lemmas.List.{get_or-set_same, get_or-set_other}
use Rattle.std.proofs.lemmas.List.Sums.{count_by_more_yes, count_by_more_no}
use Rattle.std.proofs.lemmas.Bool.{cases_eq, eq-eqb, ne_eqb}
use Rattle.program.specs.Program.{Counted}
use Rattle.program.specs.Reading.{named}

module _ (labels : List ℕ) (lines : List (List ℕ)) (i : ℕ) (l : i < length lines) (d : List ℕ) (so_far : Counted labels (named (take i lines))) where
  pub counted_more : (p : ℕ) → p ≡ get_or (get_or lines i d) 0 0 → p < 5 → length labels ≡ 5 → Counted (set labels p (get_or labels p 0 + 1)) (named (take (i + 1) lines))
  counted_more p e h n q k = elim (cases_eq q p) [
    | inl s ↦
        let hit : eqb (get_or (get_or lines i d) 0 0) q ≡ true = eq-eqb (get_or (get_or lines i d) 0 0) q (sym e ∙ sym s) in
        let more = count_by_more_yes (λ (f : List ℕ). eqb (get_or f 0 0) q) lines i d l hit in
        let was = so_far q k in
        let same : get_or (set labels p (get_or labels p 0 + 1)) p 0 ≡ get_or labels p 0 + 1 = get_or-set_same labels p (get_or labels p 0 + 1) 0 (omega arith) in
        ap (λ (x : ℕ). get_or (set labels p (get_or labels p 0 + 1)) x 0) s ∙ same ∙ ap (λ (x : ℕ). get_or labels x 0 + 1) (sym s) ∙ ap (λ (x : ℕ). x + 1) was ∙ sym more
    | inr s ↦
        let miss : eqb (get_or (get_or lines i d) 0 0) q ≡ false = ne_eqb (get_or (get_or lines i d) 0 0) q (λ o. s (sym o ∙ sym e)) in
        get_or-set_other labels p q (get_or labels p 0 + 1) 0 s ∙ so_far q k ∙ sym (count_by_more_no (λ (f : List ℕ). eqb (get_or f 0 0) q) lines i d l miss)
  ]

  pub counted_else : 5 ≤ get_or (get_or lines i d) 0 0 → Counted labels (named (take (i + 1) lines))
  counted_else h q k =
      let miss : eqb (get_or (get_or lines i d) 0 0) q ≡ false = ne_eqb (get_or (get_or lines i d) 0 0) q (λ o. omega arith) in
      so_far q k ∙ sym (count_by_more_no (λ (f : List ℕ). eqb (get_or f 0 0) q) lines i d l miss)
