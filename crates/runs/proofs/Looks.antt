-- A work's loop, pass by pass, does what `look` says, and a work after a work is one work with both efforts.
use Rattle.std.proofs.Common.{◌≡◌, ℕ, zero, suc, ◌+◌, ◌-◌, ◌<◌, ◌≤◌, Bool, true, false, List, [], ◌∷◌, length, refl, ap, ◌∙◌, arith}
use Rattle.ceiling.specs.declared.moves.Move.{Move}
use Rattle.runs.specs.declared.verdicts.Verdict.{Verdict}
use Rattle.runs.specs.declared.verdicts.Verdict.TheVariants.{Found, None}
use Rattle.runs.specs.Look.{Look, look, ahead, answers}

-- u runs were looked at, v came of it and L is left
abbrev pub made : ℕ → Verdict → List (List Move) → Look
made u v L = record { units = u; verdict = v; left = L }

pub look_nil : (t : List Move → Bool) (e : ℕ) → look t e [] ≡ made 0 None []
look_nil t zero = refl
look_nil t (suc e) = refl

-- The whole work answers A; after some units the loop stands at the run r, and L is to come after it.
module _ (t : List Move → Bool) (A : Look) (effort units : ℕ) (r : List Move) (L : List (List Move)) (inv : A ≡ ahead units (look t (effort - units) (r ∷ L))) where
  step_on : units < effort → A ≡ ahead units (look t (suc (effort - (units + 1))) (r ∷ L))
  step_on h =
      let e : effort - units ≡ suc (effort - (units + 1)) = omega arith in
      inv ∙ ap (λ (k : ℕ). ahead units (look t k (r ∷ L))) e

  abbrev chosen : Bool → Look
  chosen b = ahead units (elim b [ true ↦ made 1 Found (r ∷ L) | false ↦ ahead 1 (look t (effort - (units + 1)) L) ])

  pub pass_found : units < effort → t r ≡ true → A ≡ made (units + 1) Found (r ∷ L)
  pass_found h y =
      let z : 1 + units ≡ units + 1 = omega arith in
      step_on h ∙ ap chosen y ∙ ap (λ (u : ℕ). made u Found (r ∷ L)) z

  pub pass_more : units < effort → t r ≡ false → A ≡ ahead (units + 1) (look t (effort - (units + 1)) L)
  pass_more h y =
      let l = look t (effort - (units + 1)) L in
      let z : l.units + 1 + units ≡ l.units + (units + 1) = omega arith in
      step_on h ∙ ap chosen y ∙ ap (λ (u : ℕ). made u l.verdict l.left) z

  pub pass_none : units < effort → t r ≡ false → L ≡ [] → A ≡ made (units + 1) None []
  pass_none h y e =
      let z : 0 + (units + 1) ≡ units + 1 = omega arith in
      pass_more h y
      ∙ ap (λ (l : List (List Move)). ahead (units + 1) (look t (effort - (units + 1)) l)) e
      ∙ ap (ahead (units + 1)) (look_nil t (effort - (units + 1)))
      ∙ ap (λ (u : ℕ). made u None []) z

  pub pass_next : (K : List (List Move)) → units < effort → t r ≡ false → L ≡ K → A ≡ ahead (units + 1) (look t (effort - (units + 1)) K)
  pass_next K h y e = pass_more h y ∙ ap (λ (l : List (List Move)). ahead (units + 1) (look t (effort - (units + 1)) l)) e

-- as many units as runs at most
pub look_few : (t : List Move → Bool) (e : ℕ) (L : List (List Move)) → (look t e L).units ≤ length L
look_few t zero [] = omega arith
look_few t zero (r ∷ L) = omega arith
look_few t (suc e) [] = omega arith
look_few t (suc e) (r ∷ L) = go (t r) (look_few t e L)
  where
    go : (b : Bool) → (look t e L).units ≤ length L
        → (elim b as (λ _. Look) [ true ↦ made 1 Found (r ∷ L) | false ↦ ahead 1 (look t e L) ]).units ≤ length (r ∷ L)
    go true few = omega arith
    go false few = omega arith

pub look_none : (t : List Move → Bool) (L : List (List Move)) → (look t 0 L).units ≡ 0
look_none t [] = refl
look_none t (r ∷ L) = refl

ahead_zero : (l : Look) → l ≡ ahead 0 l
ahead_zero l = let e : l.units ≡ l.units + 0 = omega arith in ap (λ (u : ℕ). made u l.verdict l.left) e

ahead_ahead : (l : Look) (a : ℕ) → ahead 1 (ahead a l) ≡ ahead (a + 1) l
ahead_ahead l a =
    let e : l.units + a + 1 ≡ l.units + (a + 1) = omega arith in
    ap (λ (u : ℕ). made u l.verdict l.left) e

-- l, and then a work with the effort e
abbrev pub then : (List Move → Bool) → ℕ → Look → Look
then t e l = ahead l.units (answers l.verdict t e l.left)

pub look_add : (t : List Move → Bool) (e f : ℕ) (L : List (List Move)) → look t (e + f) L ≡ then t f (look t e L)
look_add t zero f [] = look_nil t (0 + f)
look_add t zero f (r ∷ L) =
    let z : 0 + f ≡ f = omega arith in
    ap (λ (k : ℕ). look t k (r ∷ L)) z ∙ ahead_zero (look t f (r ∷ L))
look_add t (suc e) f [] = look_nil t (suc e + f)
look_add t (suc e) f (r ∷ L) =
    let z : suc e + f ≡ suc (e + f) = omega arith in
    ap (λ (k : ℕ). look t k (r ∷ L)) z ∙ go (t r) (look_add t e f L)
  where
    pick : Bool → Look → Look
    pick b l = elim b [ true ↦ made 1 Found (r ∷ L) | false ↦ ahead 1 l ]

    go : (b : Bool) → look t (e + f) L ≡ then t f (look t e L) → pick b (look t (e + f) L) ≡ then t f (pick b (look t e L))
    go true ih = refl
    go false ih =
        let l = look t e L in
        ap (ahead 1) ih ∙ ahead_ahead (answers l.verdict t f l.left) l.units

-- more effort, no fewer units
pub look_rises : (t : List Move → Bool) (e f : ℕ) (L : List (List Move)) → (look t e L).units ≤ (look t (e + f) L).units
look_rises t e f L = omega (arith, ap (λ (l : Look). l.units) (look_add t e f L))
