-- 1 + q + .. + q ^ n, with the first term apart.
use Rattle.std.proofs.Common.{◌≡◌, ℕ, zero, suc, ◌+◌, ◌*◌, ◌^◌, ap, ◌∙◌, pow-suc, mul_comm, mul-add, one-mul, arith}
use Rattle.std.proofs.Math.Nat.{pow-zero}
use Rattle.runs.specs.Listed.{geometric}

pub geometric_front : (q n : ℕ) → geometric q (suc n) ≡ 1 + q * geometric q n
geometric_front q zero =
    let e : q ^ 1 ≡ q = pow-suc q 0 ∙ ap (λ (x : ℕ). x * q) (pow-zero q) ∙ one-mul q in
    omega arith
geometric_front q (suc n) =
    let r = geometric_front q n in
    let x = geometric q n in
    let e : q * (x + q ^ suc n) ≡ q * x + q * q ^ suc n = mul-add q x (q ^ suc n) in
    let f : q ^ suc (suc n) ≡ q * q ^ suc n = pow-suc q (suc n) ∙ mul_comm (q ^ suc n) q in
    omega arith
