-- What a list joined from lists holds, and when it is in order.
use Rattle.std.proofs.Common.{◌≡◌, ℕ, zero, suc, ◌+◌, ◌<◌, ◌≤◌, Bool, true, false, ◌⊎◌, List, [], ◌∷◌, ◌++◌, refl, subst, inl, inr, eq-or-lt_of_le, arith}
use Rattle.ceiling.specs.declared.moves.Move.{Move}
use Rattle.runs.specs.Runs.{span}
use Rattle.runs.specs.Listed.{Before, In, Ordered}

pub in_left : (L M : List (List Move)) (r : List Move) → In L r → In (L ++ M) r
in_left [] M r (i, h) = absurd h
in_left (x ∷ L) M r (zero, h) = (zero, h)
in_left (x ∷ L) M r (suc i, h) = let k = in_left L M r (i, h) in (suc k.0, k.1)

pub in_right : (L M : List (List Move)) (r : List Move) → In M r → In (L ++ M) r
in_right [] M r h = h
in_right (x ∷ L) M r h = let k = in_right L M r h in (suc k.0, k.1)

pub in_either : (L M : List (List Move)) (r : List Move) → In (L ++ M) r → In L r ⊎ In M r
in_either [] M r h = inr h
in_either (x ∷ L) M r (zero, h) = inl (zero, h)
in_either (x ∷ L) M r (suc i, h) = elim (in_either L M r (i, h)) [ inl k ↦ inl (suc k.0, k.1) | inr k ↦ inr k ]

-- the list L on true, and none on false
abbrev pub pick : Bool → List (List Move) → List (List Move)
pick b L = elim b [ true ↦ L | false ↦ [] ]

pub in_pick : (b : Bool) (L : List (List Move)) (r : List Move) → b ≡ true → In L r → In (pick b L) r
in_pick true L r e h = h
in_pick false L r e h = absurd (cc)

pub from_pick : (b : Bool) (L : List (List Move)) (r : List Move) → In (pick b L) r → (b ≡ true) × In L r
from_pick true L r h = (refl, h)
from_pick false L r h = absurd h.1

pub in_span : (f : ℕ → List (List Move)) (i j x : ℕ) (r : List Move) → i ≤ x → x < i + j → In (f x) r → In (span f i j) r
in_span f i zero x r low high h = absurd (omega arith)
in_span f i (suc j) x r low high h = elim (eq-or-lt_of_le low) [
  | inl e ↦ in_left (f i) (span f (i + 1) j) r (rw e h)
  | inr l ↦ in_right (f i) (span f (i + 1) j) r (in_span f (i + 1) j x r (omega arith) (omega arith) h)
]

-- what is in one of the lists f i, f (i + 1) and so on, j of them
abbrev pub Among : (ℕ → List (List Move)) → ℕ → ℕ → List Move → Type 0
Among f i j r = (x : ℕ) × (i ≤ x) × (x < i + j) × In (f x) r

pub from_span : (f : ℕ → List (List Move)) (i j : ℕ) (r : List Move) → In (span f i j) r → Among f i j r
from_span f i zero r h = absurd h.1
from_span f i (suc j) r h = elim (in_either (f i) (span f (i + 1) j) r h) [
  | inl k ↦ (i, omega arith, omega arith, k)
  | inr k ↦ let (x, low, high, a) = from_span f (i + 1) j r k in (x, omega arith, omega arith, a)
]

pub ordered_none : Ordered []
ordered_none i j r s l a b = absurd a

pub ordered_pick : (b : Bool) (L : List (List Move)) → Ordered L → Ordered (pick b L)
ordered_pick true L o = o
ordered_pick false L o = ordered_none

-- before a list in order a run that is before each of it
pub ordered_more : (x : List Move) (L : List (List Move)) → ((r : List Move) → In L r → Before x r) → Ordered L → Ordered (x ∷ L)
ordered_more x L h o zero zero r s l a b = absurd (omega arith)
ordered_more x L h o zero (suc j) r s l a b = subst (λ (y : List Move). Before y s) a (h s (j, b))
ordered_more x L h o (suc i) zero r s l a b = absurd (omega arith)
ordered_more x L h o (suc i) (suc j) r s l a b = o i j r s (omega arith) a b

pub ordered_head : (x : List Move) (L : List (List Move)) → Ordered (x ∷ L) → (r : List Move) → In L r → Before x r
ordered_head x L o r (i, h) = o 0 (suc i) x r (omega arith) refl h

pub ordered_tail : (x : List Move) (L : List (List Move)) → Ordered (x ∷ L) → Ordered L
ordered_tail x L o i j r s l a b = o (suc i) (suc j) r s (omega arith) a b

-- two lists in order, each of the first before each of the second
pub ordered_append : (L M : List (List Move)) → Ordered L → Ordered M → ((r s : List Move) → In L r → In M s → Before r s) → Ordered (L ++ M)
ordered_append [] M o p h = p
ordered_append (x ∷ L) M o p h = ordered_more x (L ++ M)
    (λ r k. elim (in_either L M r k) [ inl a ↦ ordered_head x L o r a | inr a ↦ h x r (0, refl) a ])
    (ordered_append L M (ordered_tail x L o) p (λ r s a b. h r s (suc a.0, a.1) b))

-- lists in order, each of an earlier one before each of a later one
pub ordered_span : (f : ℕ → List (List Move)) → ((x : ℕ) → Ordered (f x))
    → ((x y : ℕ) (r s : List Move) → x < y → In (f x) r → In (f y) s → Before r s) → (i j : ℕ) → Ordered (span f i j)
ordered_span f o h i zero = ordered_none
ordered_span f o h i (suc j) = ordered_append (f i) (span f (i + 1) j) (o i) (ordered_span f o h (i + 1) j)
    (λ r s a b. let (y, low, high, c) = from_span f (i + 1) j s b in h i y r s (omega arith) a c)
