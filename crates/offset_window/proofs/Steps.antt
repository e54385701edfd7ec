-- A packet and a read, in parts of a nanosecond.
use Rattle.std.proofs.Common.{◌≡◌, ◌≤◌, ◌<◌, ◌+◌, ◌-◌, ◌*◌, ◌/◌, ◌%◌, ◌^◌, ℕ, true, false, ap, sym, arith, inl, inr}
use Rattle.std.proofs.lemmas.Bool.{cases_lt, le-ltb, ltb-true}
use Rattle.std.proofs.lemmas.Bool.Decides.{nat_tests}
use Rattle.std.proofs.lemmas.Nat.{div-add-mod', mod_below}
use Rattle.std.proofs.Math.Nat.{add-mul, mul-le-mul_right}
use Rattle.sender_params.proofs.Turns.{groups-small, place-small}
use Rattle.read_schedule.specs.Parts.{parts_at, parts_of}
use Rattle.read_schedule.specs.declared.grid.Grid.{Grid}
use Rattle.offset_window.specs.Parts.{comes_after, comes_before, parts_with}

-- the parts of 2^64 reads fit 116 bits
pub parts_at-small : (g : Grid) (x : ℕ) → x < 2 ^ 64 → parts_at g x < 2 ^ 116
parts_at-small g x few =
    let whole = groups-small g.n g.group x g.group_small few in
    omega (arith, whole, place-small g.n g.step x g.n_some g.n_most g.step_small, g.start_small)

-- and an offset fits 90
pub offset-small : (micros den : ℕ) → micros < 2 ^ 32 → den < 2 ^ 48 → 1000 * micros * den ≤ 2 ^ 90
offset-small micros den few small =
    let scaled : micros * den ≤ 2 ^ 32 * den = mul-le-mul_right den (omega (arith, few)) in
    omega (arith, scaled, small)

-- an instant less so many microseconds, in parts
pub reached-is : (micros at den before : ℕ)
    → micros < 2 ^ 32
    → before ≡ at + 2 ^ 49 - 1000 * micros
    → before * den + 1000 * micros * den ≡ (at + 2 ^ 49) * den
reached-is micros at den before small is =
    let sum : before + 1000 * micros ≡ at + 2 ^ 49 = omega (arith, small, is) in
    let all : (before + 1000 * micros) * den ≡ (at + 2 ^ 49) * den = ap (λ x. x * den) sum in
    omega (arith, all, add-mul before (1000 * micros) den)

-- the least offset with which a packet doesn't come after a read
pub least-is : (parts there den late micro quotient : ℕ)
    → parts < there
    → late ≡ there - parts
    → micro ≡ 1000 * den
    → 1 ≤ micro
    → quotient ≡ (late - 1) / micro
    → (there ≤ parts + 1000 * (quotient + 1) * den) × (parts + 1000 * quotient * den < there)
least-is parts there den late micro quotient less is each some q =
    let split : ((late - 1) / micro) * micro + (late - 1) % micro ≡ late - 1 = div-add-mod' (late - 1) micro in
    let left : (late - 1) % micro < micro = mod_below (late - 1) micro (omega (arith, some)) in
    let same : ((late - 1) / micro) * micro ≡ quotient * micro = ap (λ x. x * micro) (sym q) in
    let scale : quotient * micro ≡ quotient * (1000 * den) = ap (λ x. quotient * x) each in
    (omega (arith, split, left, same, scale, less, is, each), omega (arith, split, same, scale, less, is))

-- the greatest offset with which a packet doesn't come before a read
pub greatest-is : (parts there den late micro quotient : ℕ)
    → parts ≤ there
    → late ≡ there - parts
    → micro ≡ 1000 * den
    → 1 ≤ micro
    → quotient ≡ late / micro
    → (parts + 1000 * quotient * den ≤ there) × (there < parts + 1000 * (quotient + 1) * den)
greatest-is parts there den late micro quotient low is each some q =
    let split : (late / micro) * micro + late % micro ≡ late = div-add-mod' late micro in
    let left : late % micro < micro = mod_below late micro (omega (arith, some)) in
    let same : (late / micro) * micro ≡ quotient * micro = ap (λ x. x * micro) (sym q) in
    let scale : quotient * micro ≡ quotient * (1000 * den) = ap (λ x. quotient * x) each in
    (omega (arith, split, same, scale, low, is), omega (arith, split, left, same, scale, low, is, each))

-- of two offsets of one read the one that is earlier is less
pub offset-less : (parts there den x y : ℕ) → parts + 1000 * x * den ≤ there → there < parts + 1000 * y * den → x < y
offset-less parts there den x y low high =
    elim (cases_lt x y) as (λ _. x < y) [
      | inl less ↦ less
      | inr more ↦
          let scaled : y * (1000 * den) ≤ x * (1000 * den) = mul-le-mul_right (1000 * den) more in
          absurd (omega (arith, low, high, scaled))
    ]

-- a packet comes after a read or not, by the parts
pub after-true : (g : Grid) (i t x : ℕ) → parts_with g x i < parts_of g t → comes_after g i t x ≡ true
after-true g i t x h = grind (arith, nat_tests)

pub after-false : (g : Grid) (i t x : ℕ) → parts_of g t ≤ parts_with g x i → comes_after g i t x ≡ false
after-false g i t x h = le-ltb (parts_with g x i) (parts_of g t) h

pub true-after : (g : Grid) (i t x : ℕ) → comes_after g i t x ≡ true → parts_with g x i < parts_of g t
true-after g i t x h = ltb-true (parts_with g x i) (parts_of g t) h

-- and before it
pub before-true : (g : Grid) (i t x : ℕ) → parts_of g t < parts_with g x i → comes_before g i t x ≡ true
before-true g i t x h = grind (arith, nat_tests)

pub before-false : (g : Grid) (i t x : ℕ) → parts_with g x i ≤ parts_of g t → comes_before g i t x ≡ false
before-false g i t x h = le-ltb (parts_of g t) (parts_with g x i) h

pub true-before : (g : Grid) (i t x : ℕ) → comes_before g i t x ≡ true → parts_of g t < parts_with g x i
true-before g i t x h = ltb-true (parts_of g t) (parts_with g x i) h
