-- What `look` has seen, by the places of the list. Over any test of runs.
use Rattle.std.proofs.Common.{◌≡◌, ℕ, zero, suc, ◌+◌, ◌<◌, ◌≤◌, Bool, true, false, List, [], ◌∷◌, length, refl, sym, ap, ◌∙◌, arith}
use Rattle.ceiling.specs.declared.moves.Move.{Move}
use Rattle.runs.specs.declared.verdicts.Verdict.{Verdict}
use Rattle.runs.specs.declared.verdicts.Verdict.TheVariants.{More, Found, None}
use Rattle.runs.specs.Listed.{Stands}
use Rattle.runs.specs.Look.{Look, look, ahead}

-- those at the first i places do not pass the test
abbrev pub Passed : (List Move → Bool) → List (List Move) → ℕ → Type 0
Passed t L i = (j : ℕ) (s : List Move) → j < i → Stands L j s → t s ≡ false

-- u runs were looked at, M are left and v came of it
abbrev pub Seen : (List Move → Bool) → ℕ → List (List Move) → ℕ → List (List Move) → Verdict → Type 0
Seen t E L u M Found =
    (i : ℕ) × (r : List Move) × (later : List (List Move))
    × (i < E) × Stands L i r × (t r ≡ true) × (u ≡ i + 1) × (M ≡ r ∷ later) × Passed t L i
Seen t E L u M None = Passed t L (length L) × (length L ≤ E) × (u ≡ length L)
Seen t E L u M More = Passed t L E × (E < length L) × (u ≡ E)

passed_more : (t : List Move → Bool) (x : List Move) (L : List (List Move)) (i : ℕ)
    → t x ≡ false → Passed t L i → Passed t (x ∷ L) (suc i)
passed_more t x L i e h zero s l k = ap t (sym k) ∙ e
passed_more t x L i e h (suc j) s l k = h j s (omega arith) k

seen_more : (t : List Move → Bool) (E : ℕ) (x : List Move) (L : List (List Move)) (u : ℕ) (M : List (List Move)) (v : Verdict)
    → t x ≡ false → Seen t E L u M v → Seen t (suc E) (x ∷ L) (u + 1) M v
seen_more t E x L u M Found e (i, r, later, l, k, y, f, g, h) =
    (suc i, r, later, omega arith, k, y, omega arith, g, passed_more t x L i e h)
seen_more t E x L u M None e h = (passed_more t x L (length L) e h.0, omega arith, omega arith)
seen_more t E x L u M More e h = (passed_more t x L E e h.0, omega arith, omega arith)

abbrev pub SeenLook : (List Move → Bool) → ℕ → List (List Move) → Look → Type 0
SeenLook t E L l = Seen t E L l.units l.left l.verdict

pub seen : (t : List Move → Bool) (E : ℕ) (L : List (List Move)) → SeenLook t E L (look t E L)
seen t zero [] = (λ j s l h. absurd h, omega arith, refl)
seen t zero (x ∷ L) = (λ j s l h. absurd (omega arith), omega arith, refl)
seen t (suc E) [] = (λ j s l h. absurd h, omega arith, refl)
seen t (suc E) (x ∷ L) = go (t x) refl (seen t E L)
  where
    on : Bool → Look
    on b = elim b [ true ↦ record { units = 1; verdict = Found; left = x ∷ L } | false ↦ ahead 1 (look t E L) ]

    go : (b : Bool) → t x ≡ b → SeenLook t E L (look t E L) → SeenLook t (suc E) (x ∷ L) (on b)
    go true e h = (0, x, L, omega arith, refl, e, omega arith, refl, λ j s l k. absurd (omega arith))
    go false e h = let l = look t E L in seen_more t E x L l.units l.left l.verdict e h
