-- How large a number of so many groups is.
use Rattle.std.proofs.Common.{◌≡◌, ℕ, zero, suc, ◌+◌, ◌-◌, ◌*◌, ◌^◌, ◌<◌, ◌≤◌, ap, ◌∙◌, arith, lit<}
use Rattle.std.proofs.Common.{inl, inr}
use Rattle.std.proofs.Math.Nat.{pow-suc, mul-le-mul_left}
use Rattle.std.proofs.lemmas.Bool.{cases_lt}

pub limit_step : (t m : ℕ) → 1 < m → t * 128 ^ (m - 1) ≡ 128 * (t * 128 ^ (m - 1 - 1))
limit_step t m h =
    let e : m - 1 ≡ suc (m - 1 - 1) = omega arith in
    ap (λ k. t * 128 ^ k) e ∙ ap (λ x. t * x) (pow-suc 128 (m - 1 - 1)) ∙ omega arith

pow_128 : (k : ℕ) → 0 < 128 ^ k
pow_128 zero = lit< tt
pow_128 (suc k) = omega (arith, pow-suc 128 k, pow_128 k)

-- a last group
pub low_below : (b t m : ℕ) → 0 < m → b < 128 → (m ≡ 1 → b ≤ t) → b < (t + 1) * 128 ^ (m - 1)
low_below b t m some low last =
    elim (cases_lt 1 m) [
      | inl many ↦ omega (
        arith,
        limit_step (t + 1) m many,
        mul-le-mul_left (t + 1) (pow_128 (m - 1 - 1)),
      )
      | inr one ↦
          let e : m ≡ 1 = omega arith in
          let f : (t + 1) * 128 ^ (m - 1) ≡ t + 1 =
          ap (λ k. (t + 1) * 128 ^ (k - 1)) e ∙ omega arith in
          omega (arith, f, last e)
    ]

-- the first two of more than two groups
pub two_below : (n t m : ℕ) → 2 < m → n < 16384 → n < (t + 1) * 128 ^ (m - 1)
two_below n t m more low =
    let many : 1 < m = omega arith in
    let again : 1 < m - 1 = omega arith in
    omega (
      arith,
      limit_step (t + 1) m many,
      limit_step (t + 1) (m - 1) again,
      mul-le-mul_left (t + 1) (pow_128 (m - 1 - 1 - 1)),
    )
