-- Instants rounded up to whole nanoseconds.
use Rattle.std.proofs.Common.{◌≡◌, ◌≤◌, ◌<◌, ◌+◌, ◌-◌, ◌*◌, ◌^◌, ◌↔◌, ◌&&◌, true, ℕ, ap, arith, inl, inr}
use Rattle.std.proofs.Math.Dec.{eqb}
use Rattle.std.proofs.lemmas.Bool.{and_from, and_parts, cases_lt, eq-eqb, eqb-true}
use Rattle.std.proofs.Math.Nat.{add-mul, mul-le-mul_right, lt_of_mul-lt-mul_right}
use Rattle.read_schedule.specs.declared.grid.Grid.{Grid}
use Rattle.read_schedule.specs.Parts.{parts_at}
use Rattle.read_schedule.proofs.Turns.{parts_at-least}

-- fewer parts are no more nanoseconds
pub le_of_parts : (a b den : ℕ) → 1 ≤ den → a * den ≤ b * den → a ≤ b
le_of_parts a b den some h =
    let below : a * den < (b + 1) * den = omega (arith, h, some, add-mul b 1 den) in
    let fewer : a < b + 1 = lt_of_mul-lt-mul_right den below in
    omega (arith, fewer)

-- what is at most a whole nanosecond is so when rounded up
pub rounded-le : (at t den parts slack : ℕ) → at * den ≤ parts + slack → slack < den → parts ≤ t * den → at ≤ t
rounded-le at t den parts slack low left h =
    let below : at * den < (t + 1) * den = omega (arith, low, left, h, add-mul t 1 den) in
    let fewer : at < t + 1 = lt_of_mul-lt-mul_right den below in
    omega (arith, fewer)

-- what rounds up to after t is after t
pub rounded-after : (at t den parts slack : ℕ) → at * den ≤ parts + slack → slack < den → t < at → t * den < parts
rounded-after at t den parts slack low left h =
    let product : (t + 1) * den ≤ at * den = mul-le-mul_right den (omega (arith, h)) in
    omega (arith, product, low, left, add-mul t 1 den)

-- what rounds up to t or before is not after t
pub rounded-before : (at t den parts slack : ℕ) → at * den ≡ parts + slack → at ≤ t → parts ≤ t * den
rounded-before at t den parts slack is h =
    let product : at * den ≤ t * den = mul-le-mul_right den h in
    omega (arith, product, is)

-- what rounds up to t by nothing is t
pub rounded-same : (at t den parts slack : ℕ) → at * den ≡ parts + slack → slack < den → t * den ≡ parts → (at ≡ t) × (slack ≡ 0)
rounded-same at t den parts slack is left here =
    let high : at ≤ t = rounded-le at t den parts slack (omega (arith, is)) left (omega (arith, here)) in
    let low : t ≤ at = le_of_parts t at den (omega (arith, left)) (omega (arith, is, here)) in
    let same : at ≡ t = omega (arith, high, low) in
    let parts_same : at * den ≡ t * den = ap (λ y. y * den) same in
    (same, omega (arith, parts_same, is, here))

-- the reads up to t and the one after them are no more than the nanoseconds of that one
pub count-few : (g : Grid) (count t at slack : ℕ)
    → ((x : ℕ) → x < count → parts_at g x ≤ t * g.den)
    → t < 2 ^ 63
    → (at < 2 ^ 63 → at * g.den ≡ parts_at g count + slack)
    → count ≤ at
count-few g count t at slack due in_time is = elim (cases_lt at (2 ^ 63)) as (λ _. count ≤ at) [
  | inl near ↦ le_of_parts count at g.den g.den_some (omega (arith, is near, parts_at-least g count))
  | inr far ↦ elim (cases_lt 0 count) as (λ _. count ≤ at) [
    | inr none ↦ omega (arith, none)
    | inl some ↦
        let x = count - 1 in
        let low : x ≤ t = le_of_parts x t g.den g.den_some (omega (arith, parts_at-least g x, due x (omega (arith, some)))) in
        omega (arith, low, in_time, far)
  ]
]

-- whether an instant is t, from it rounded up
pub rounded-at : (at t den parts slack : ℕ)
    → at * den ≡ parts + slack
    → slack < den
    → ((eqb at t && eqb slack 0) ≡ true) ↔ (t * den ≡ parts)
rounded-at at t den parts slack is left = (
  λ e.
      let both = and_parts (eqb at t) (eqb slack 0) e in
      let same : at ≡ t = eqb-true at t both.0 in
      let none : slack ≡ 0 = eqb-true slack 0 both.1 in
      let product : at * den ≡ t * den = ap (λ y. y * den) same in
      omega (arith, product, is, none),
  λ here.
      let both = rounded-same at t den parts slack is left here in
      and_from (eqb at t) (eqb slack 0) (eq-eqb at t both.0) (eq-eqb slack 0 both.1),
)
