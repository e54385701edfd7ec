-- The ticks of the drain are fewer than the nanoseconds, and never fall.
use Rattle.std.proofs.Common.{◌≡◌, ◌≤◌, ◌<◌, ◌*◌, ◌/◌, ◌^◌, ◌-◌, ℕ, zero, suc, inl, inr, arith}
use Rattle.std.proofs.Math.Nat.{div-zero, div-mul-le_self, mul-le-mul_right, mul_assoc}
use Rattle.std.proofs.lemmas.Bool.{cases_lt}
use Rattle.std.proofs.lemmas.Nat.{le-div}
use Rattle.timing_base.specs.Media.{Media}
use Rattle.sender_params.specs.Ticks.{ticks_of}
use Rattle.sender_params.specs.Times.{drain_time}

-- a quarter of a tick or less for each nanosecond
pub quotient-small : (d den num : ℕ) → d < 2 ^ 62 → den * 4 < num → d * den / num < 2 ^ 60
quotient-small d den num few slow =
    let q = d * den / num in
    let below : q * num ≤ d * den = div-mul-le_self (d * den) num in
    let most : d * (den * 4) ≤ (2 ^ 62) * (den * 4) = mul-le-mul_right (den * 4) (omega (arith, few)) in
    let group : (d * den) * 4 ≡ d * (den * 4) = mul_assoc d den 4 in
    elim (cases_lt q (2 ^ 60)) as (λ _. q < 2 ^ 60) [
      | inl less ↦ less
      | inr more ↦
          let many : (2 ^ 60) * num ≤ q * num = mul-le-mul_right num more in
          omega (arith, below, most, group, many, slow)
    ]

-- a floor never falls
pub quotient-rises : (a b den num : ℕ) → a ≤ b → a * den / num ≤ b * den / num
quotient-rises a b den zero h = omega (arith, div-zero (a * den))
quotient-rises a b den (suc k) h =
    let below : (a * den / suc k) * suc k ≤ a * den = div-mul-le_self (a * den) (suc k) in
    let more : a * den ≤ b * den = mul-le-mul_right den h in
    le-div (a * den / suc k) (b * den) (suc k) (omega arith) (omega (arith, below, more))

-- later instants have no fewer ticks
pub ticks_of-rises : (m : Media) (n a0 a b : ℕ) → a ≤ b → ticks_of m n a0 a ≤ ticks_of m n a0 b
ticks_of-rises m n a0 a b h =
    quotient-rises (a - a0) (b - a0) ((drain_time m n).1) ((drain_time m n).0) (omega (arith, h))
