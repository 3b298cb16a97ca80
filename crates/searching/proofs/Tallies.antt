-- What a search shows once its works are done, and one search more.
use Rattle.std.proofs.Common.{◌≡◌, ℕ, zero, suc, ◌+◌, ◌*◌, ◌^◌, ◌<◌, ◌≤◌, Bool, true, false, cond, List, [], ◌∷◌, sym, ap, ◌∙◌, add-mul, one-mul, ne_eqb, arith}
use Rattle.std.proofs.lemmas.Nat.{mul-le}
use Rattle.memory.specs.Machine.{Machine}
use Rattle.ceiling.specs.declared.moves.Move.{Move}
use Rattle.program.specs.Program.{Program}
use Rattle.runs.specs.declared.questions.Question.{Question}
use Rattle.runs.specs.declared.searches.Search.{Search}
use Rattle.runs.specs.declared.verdicts.Verdict.{Verdict}
use Rattle.runs.specs.declared.verdicts.Verdict.TheVariants.{More, Found}
use Rattle.runs.specs.Look.{Look, look, ahead}
use Rattle.runs.specs.Runs.{list}
use Rattle.runs.specs.Asked.{root, system}
use Rattle.runs.specs.Searches.{hits, shown, Since}
use Rattle.searching.specs.declared.Tally.{Tally}
use Rattle.searching.specs.Tallies.{tallied}

abbrev pub tally : ℕ → Verdict → Tally
tally u v = record { looked = u; verdict = v }

-- a work looks at no more runs than its effort
look_few : (t : List Move → Bool) (e : ℕ) (L : List (List Move)) → (look t e L).units ≤ e
look_few t zero [] = omega arith
look_few t zero (r ∷ L) = omega arith
look_few t (suc e) [] = omega arith
look_few t (suc e) (r ∷ L) = go (t r) (look_few t e L)
  where
    pick : Bool → Look → Look
    pick b l = elim b [ true ↦ record { units = 1; verdict = Found; left = r ∷ L } | false ↦ ahead 1 l ]

    go : (b : Bool) → (look t e L).units ≤ e → (pick b (look t e L)).units ≤ suc e
    go true h = omega arith
    go false h = omega (arith, h)

pub since_few : {Config : Type 0} (m : Machine Config) (t : Program) (s : Search) (E U : ℕ) → Since m t s E U → U ≤ E
since_few m t s E U since = omega (arith, since.units, look_few (hits m t s.question) E (list (system m t) (root m t s.question)))

-- works that add up to the effort E end with the tally of one search
pub ended : {Config : Type 0} (m : Machine Config) (t : Program) (q : Question) (s : Search) (E F U : ℕ) (v : Verdict)
    → Since m t s E U → s.question ≡ q → E ≡ F → v ≡ s.verdict → tally U v ≡ tallied (shown m t q F) 1
ended m t q s E F U v since asked all said =
    let l = shown m t q F in
    ap (λ (u : ℕ). tally u v) since.units
    ∙ ap (tally (shown m t s.question E).units) (said ∙ since.verdict)
    ∙ ap (λ (x : Question). tally (shown m t x E).units (shown m t x E).verdict) asked
    ∙ ap (λ (e : ℕ). tally (shown m t q e).units (shown m t q e).verdict) all
    ∙ ap (λ (u : ℕ). tally u l.verdict) (sym (one-mul l.units))

pub one_more : (l : Look) (n : ℕ) (before once : Tally) → before ≡ tallied l n → once ≡ tallied l 1
    → tally (before.looked + once.looked) once.verdict ≡ tallied l (n + 1)
one_more l n before once b o =
    ap (λ (x : Tally). tally (x.looked + once.looked) once.verdict) b
    ∙ ap (λ (x : Tally). tally (n * l.units + x.looked) x.verdict) o
    ∙ ap (λ (u : ℕ). tally u l.verdict) (sym (add-mul n 1 l.units))
    ∙ ap (λ (x : Bool). tally ((n + 1) * l.units) (cond x More l.verdict)) (sym (ne_eqb (n + 1) 0 (λ e. omega (arith, e))))

-- the sum of any number of searches that has 32 bits has 64
pub fits : {Config : Type 0} (m : Machine Config) (t : Program) (q : Question) (n : ℕ) (before once : Tally)
    → before ≡ tallied (shown m t q 1000000000) n → once ≡ tallied (shown m t q 1000000000) 1 → n < 2 ^ 32 → before.looked + once.looked < 2 ^ 64
fits m t q n before once b o short =
    let l = shown m t q 1000000000 in
    let few = look_few (hits m t q) 1000000000 (list (system m t) (root m t q)) in
    let sum = ap (λ (x : Tally). x.looked) (one_more l n before once b o) in
    let most : (n + 1) * l.units ≤ 2 ^ 32 * 1000000000 = mul-le (n + 1) l.units (2 ^ 32) 1000000000 (omega (arith, short)) few in
    omega (arith, sum, most)
