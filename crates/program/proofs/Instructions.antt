-- An instruction and its number and operands.
use Rattle.std.proofs.Common.{◌≡◌, ℕ, Bool, true, false, ◌&&◌, eqb, [], ◌∷◌, get_or, Some, None, sym, refl, ap, ◌∙◌, subst, inl, inr, arith}
use Rattle.std.proofs.lemmas.Bool.{cases_eq, and_parts, and_from, eqb-true, ne_eqb}
use Rattle.program.specs.declared.rows.Counts.{Counts}
use Rattle.program.specs.declared.rows.Instruction.{Instruction}
use Rattle.program.specs.declared.rows.Instruction.TheVariants.{Read, Write, Cas, Set, Add, Jeq, Assume, Fence, Term}
use Rattle.program.specs.Program.{is_register, is_variable, is_constant, operands_fit, instruction_fields}
use Rattle.program.specs.Reading.{if_fits, instruction_of}

-- writing an instruction and reading it gives it back
fits_two : (a b : Bool) (x : Instruction) → (a && b) ≡ true → if_fits (a && (b && true)) x ≡ Some x
fits_two true true x e = refl
fits_two true false x e = let z : ◌≡◌ {A = ℕ} 0 1 = cc in let y : ⊥ = omega arith in elim y [ ]
fits_two false b x e = let z : ◌≡◌ {A = ℕ} 0 1 = cc in let y : ⊥ = omega arith in elim y [ ]

fits_three : (a : Bool) (x : Instruction) → a ≡ true → if_fits a x ≡ Some x
fits_three a x e = ap (λ (b : Bool). if_fits b x) e

pub instruction_back : (c : Counts) (labels : ℕ) (x : Instruction) → operands_fit c labels x ≡ true → instruction_of c labels (get_or (instruction_fields x) 0 0) (get_or (instruction_fields x) 1 0) (get_or (instruction_fields x) 2 0) (get_or (instruction_fields x) 3 0) ≡ Some x
instruction_back c labels (Read r v) e = fits_two (is_register c r) (is_variable c v) _ e
instruction_back c labels (Write v r) e = fits_two (is_variable c v) (is_register c r) _ e
instruction_back c labels (Cas v a b) e = fits_three _ _ e
instruction_back c labels (Set r k) e = fits_two (is_register c r) (is_constant c k) _ e
instruction_back c labels (Add r a b) e = fits_three _ _ e
instruction_back c labels (Jeq a b l) e = fits_three _ _ e
instruction_back c labels (Assume a b) e = fits_two (is_register c a) (is_register c b) _ e
instruction_back c labels Fence e = refl
instruction_back c labels Term e = refl

-- what is read as an instruction is its number and operands
picked : (b : Bool) (x y : Instruction) → if_fits b x ≡ Some y → (b ≡ true) × (x ≡ y)
picked true x y e = (refl, cc)
picked false x y e = let z : ◌≡◌ {A = ℕ} 0 1 = cc in let w : ⊥ = omega arith in elim w [ ]

two_zero : (a b : Bool) (z : ℕ) → (a && (b && eqb z 0)) ≡ true → ((a && b) ≡ true) × (0 ≡ z)
two_zero a b z e =
    let p = and_parts a (b && eqb z 0) e in
    let q = and_parts b (eqb z 0) p.1 in
    (and_from a b p.0 q.0, sym (eqb-true z 0 q.1))

module _ (c : Counts) (labels x y z : ℕ) (i : Instruction) where
  abbrev Is : ℕ → Instruction → Type 0
  Is n j = (n ∷ (x ∷ (y ∷ (z ∷ []))) ≡ instruction_fields j) × (operands_fit c labels j ≡ true)

  abbrev Goal : ℕ → Type 0
  Goal n = instruction_of c labels n x y z ≡ Some i → Is n i

  -- two operands, and a 0
  with_zero : (n : ℕ) (a b : Bool) (j : Instruction) → ((0 ≡ z) → n ∷ (x ∷ (y ∷ (z ∷ []))) ≡ instruction_fields j) → ((a && b) ≡ true → operands_fit c labels j ≡ true) → if_fits (a && (b && eqb z 0)) j ≡ Some i → Is n i
  with_zero n a b j f g h =
      let p = picked _ _ _ h in
      let t = two_zero a b z p.0 in
      subst (Is n) p.1 (f t.1, g t.0)

  -- three operands
  with_three : (n : ℕ) (a : Bool) (j : Instruction) → n ∷ (x ∷ (y ∷ (z ∷ []))) ≡ instruction_fields j → (a ≡ true → operands_fit c labels j ≡ true) → if_fits a j ≡ Some i → Is n i
  with_three n a j f g h = let p = picked _ _ _ h in subst (Is n) p.1 (f, g p.0)

  -- no operands
  with_none : (n : ℕ) (j : Instruction) → n ∷ (0 ∷ (0 ∷ (0 ∷ []))) ≡ instruction_fields j → operands_fit c labels j ≡ true → if_fits (eqb x 0 && (eqb y 0 && eqb z 0)) j ≡ Some i → Is n i
  with_none n j f g h =
      let p = picked _ _ _ h in
      let t = and_parts (eqb x 0) (eqb y 0 && eqb z 0) p.0 in
      let u = and_parts (eqb y 0) (eqb z 0) t.1 in
      let ex = eqb-true x 0 t.0 in
      let ey = eqb-true y 0 u.0 in
      let ez = eqb-true z 0 u.1 in
      let same : n ∷ (x ∷ (y ∷ (z ∷ []))) ≡ n ∷ (0 ∷ (0 ∷ (0 ∷ []))) = cc in
      subst (Is n) p.1 (same ∙ f, g)

  zeros : (n : ℕ) → 0 ≡ z → n ∷ (x ∷ (y ∷ (z ∷ []))) ≡ n ∷ (x ∷ (y ∷ (0 ∷ [])))
  zeros n e = ap (λ (k : ℕ). n ∷ (x ∷ (y ∷ (k ∷ [])))) (sym e)

  no_such : (n : ℕ) → (n ≡ 1 → ⊥) → (n ≡ 2 → ⊥) → (n ≡ 3 → ⊥) → (n ≡ 4 → ⊥) → (n ≡ 5 → ⊥) → (n ≡ 6 → ⊥) → (n ≡ 7 → ⊥) → (n ≡ 8 → ⊥) → (n ≡ 9 → ⊥) → instruction_of c labels n x y z ≡ None
  no_such n a b d e f g h j k =
      rw (ne_eqb n 1 a, ne_eqb n 2 b, ne_eqb n 3 d, ne_eqb n 4 e, ne_eqb n 5 f, ne_eqb n 6 g, ne_eqb n 7 h, ne_eqb n 8 j, ne_eqb n 9 k)

  pub instruction_is : (n : ℕ) → Goal n
  instruction_is n = elim (cases_eq n 1) [
    | inl e ↦ subst Goal (sym e) (with_zero 1 (is_register c x) (is_variable c y) (Read x y) (zeros 1) (λ t. t))
    | inr a ↦
        elim (cases_eq n 2) [
          | inl e ↦ subst Goal (sym e) (with_zero 2 (is_variable c x) (is_register c y) (Write x y) (zeros 2) (λ t. t))
          | inr b ↦
              elim (cases_eq n 3) [
                | inl e ↦ subst Goal (sym e) (with_three 3 _ (Cas x y z) refl (λ t. t))
                | inr d ↦
                    elim (cases_eq n 4) [
                      | inl e ↦ subst Goal (sym e) (with_zero 4 (is_register c x) (is_constant c y) (Set x y) (zeros 4) (λ t. t))
                      | inr f ↦
                          elim (cases_eq n 5) [
                            | inl e ↦ subst Goal (sym e) (with_three 5 _ (Add x y z) refl (λ t. t))
                            | inr g ↦
                                elim (cases_eq n 6) [
                                  | inl e ↦ subst Goal (sym e) (with_three 6 _ (Jeq x y z) refl (λ t. t))
                                  | inr h ↦
                                      elim (cases_eq n 7) [
                                        | inl e ↦ subst Goal (sym e) (with_zero 7 (is_register c x) (is_register c y) (Assume x y) (zeros 7) (λ t. t))
                                        | inr j ↦
                                            elim (cases_eq n 8) [
                                              | inl e ↦ subst Goal (sym e) (with_none 8 Fence refl refl)
                                              | inr k ↦
                                                  elim (cases_eq n 9) [
                                                    | inl e ↦ subst Goal (sym e) (with_none 9 Term refl refl)
                                                    | inr l ↦
                                                        (λ e. let none = no_such n a b d f g h j k l in let z : ◌≡◌ {A = ℕ} 0 1 = cc in let w : ⊥ = omega arith in elim w [ ])
                                                  ]
                                            ]
                                      ]
                                ]
                          ]
                    ]
              ]
        ]
  ]
