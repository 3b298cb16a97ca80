-- The order of the runs is total, and a list in that order is told by what it holds.
use Rattle.std.proofs.Common.{◌≡◌, ℕ, zero, suc, ◌⊎◌, List, [], ◌∷◌, sym, refl, ◌∙◌, subst, inl, inr}
use Rattle.std.proofs.lemmas.Bool.{cases_order}
use Rattle.ceiling.specs.declared.moves.Move.{Move}
use Rattle.runs.specs.Listed.{Before, Stands, In, Ordered}
use Rattle.runs.proofs.Befores.{sooner_from_before, before_from_sooner, sooner_never, sooner_through, sooner_either}
use Rattle.runs.proofs.Spans.{ordered_head, ordered_tail}

pub before_never : (r : List Move) → Before r r → ⊥
before_never r h = sooner_never r (sooner_from_before r r h)

pub before_through : (r s t : List Move) → Before r s → Before s t → Before r t
before_through r s t h k = before_from_sooner r t (sooner_through r s t (sooner_from_before r s h) (sooner_from_before s t k))

pub before_either : (r s : List Move) → (r ≡ s) ⊎ Before r s ⊎ Before s r
before_either r s = elim (sooner_either r s) [
  | inl e ↦ inl e
  | inr (inl h) ↦ inr (inl (before_from_sooner r s h))
  | inr (inr h) ↦ inr (inr (before_from_sooner s r h))
]

-- in a list in order a run stands at one place
pub stands_once : (L : List (List Move)) → Ordered L → (i j : ℕ) (r : List Move) → Stands L i r → Stands L j r → i ≡ j
stands_once L o i j r h k = elim (cases_order i j) [
  | inl e ↦ e
  | inr (inl l) ↦ absurd (before_never r (o i j r r l h k))
  | inr (inr l) ↦ absurd (before_never r (o j i r r l k h))
]

-- two lists in order that hold the same begin with the same
same_head : (x y : List Move) (L M : List (List Move)) → Ordered (x ∷ L) → Ordered (y ∷ M) → In (y ∷ M) x → In (x ∷ L) y → x ≡ y
same_head x y L M o p (zero, h) k = sym h
same_head x y L M o p (suc i, h) (zero, k) = k
same_head x y L M o p (suc i, h) (suc j, k) = absurd (before_never x (before_through x y x (ordered_head x L o y (j, k)) (ordered_head y M p x (i, h))))

-- what stands behind x does not stand at its place
into_tail : (x y : List Move) (L M : List (List Move)) → Ordered (x ∷ L) → x ≡ y → (r : List Move) → In L r → In (y ∷ M) r → In M r
into_tail x y L M o e r h (zero, k) = absurd (before_never r (subst (λ (z : List Move). Before z r) (e ∙ k) (ordered_head x L o r h)))
into_tail x y L M o e r h (suc j, k) = (j, k)

-- and are the same
pub same_list : (L M : List (List Move)) → Ordered L → Ordered M → ((r : List Move) → In L r → In M r) → ((r : List Move) → In M r → In L r) → L ≡ M
same_list [] [] o p f g = refl
same_list [] (y ∷ M) o p f g = absurd (g y (0, refl)).1
same_list (x ∷ L) [] o p f g = absurd (f x (0, refl)).1
same_list (x ∷ L) (y ∷ M) o p f g =
    let e = same_head x y L M o p (f x (0, refl)) (g y (0, refl)) in
    let there = λ (r : List Move) (h : In L r). into_tail x y L M o e r h (f r (suc h.0, h.1)) in
    let back = λ (r : List Move) (h : In M r). into_tail y x M L p (sym e) r h (g r (suc h.0, h.1)) in
    let more = same_list L M (ordered_tail x L o) (ordered_tail y M p) there back in
    λ i. e i ∷ more i
