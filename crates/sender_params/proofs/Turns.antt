-- From one read to the next, where read x is the read x % n of group x / n.
use Rattle.std.proofs.Common.{◌≡◌, ◌≤◌, ◌<◌, ◌+◌, ◌-◌, ◌*◌, ◌/◌, ◌%◌, ◌^◌, ℕ, zero, suc, sym, ap, ◌∙◌, arith, inl, inr, le_of_eq}
use Rattle.std.proofs.lemmas.Bool.{cases_lt}
use Rattle.std.proofs.lemmas.Nat.{div-mul-add, mod-mul-add, div-add-mod', mod_below}
use Rattle.std.proofs.Math.Nat.{add-mul, mul_assoc, mul-le-mul_left, mul-le-mul_right, div-mul-le_self}

-- where read x is, of reads that begin at `start`, with so much from one group to the next and from one read of a group
-- to the next
abbrev pub place_of : (start n group step x : ℕ) → ℕ
place_of start n group step x = start + (x / n) * group + (x % n) * step

-- the read after one that isn't the last of its group
pub same_group : (x n : ℕ) → x % n + 1 < n → ((x + 1) / n ≡ x / n) × ((x + 1) % n ≡ x % n + 1)
same_group x n inside =
    let split : (x / n) * n + (x % n + 1) ≡ x + 1 = omega (arith, div-add-mod' x n) in
    (sym (ap (λ y. y / n) split) ∙ div-mul-add (x / n) n (x % n + 1) inside, sym (ap (λ y. y % n) split) ∙ mod-mul-add (x / n) n (x % n + 1) inside)

-- the read after the last of a group
pub next_group : (x n : ℕ) → x % n + 1 ≡ n → ((x + 1) / n ≡ x / n + 1) × ((x + 1) % n ≡ 0)
next_group x n outside =
    let split : (x / n + 1) * n + 0 ≡ x + 1 = omega (arith, div-add-mod' x n, add-mul (x / n) 1 n) in
    let some : 0 < n = omega arith in
    (sym (ap (λ y. y / n) split) ∙ div-mul-add (x / n + 1) n 0 some, sym (ap (λ y. y % n) split) ∙ mod-mul-add (x / n + 1) n 0 some)

-- a step within a group
pub place_of-step : (start n group step x : ℕ) → x % n + 1 < n → place_of start n group step (x + 1) ≡ place_of start n group step x + step
place_of-step start n group step x inside =
    let e = same_group x n inside in
    let whole : ((x + 1) / n) * group ≡ (x / n) * group = ap (λ k. k * group) e.0 in
    let part : ((x + 1) % n) * step ≡ (x % n + 1) * step = ap (λ k. k * step) e.1 in
    omega (arith, whole, part, add-mul (x % n) 1 step)

-- a step to the next group
pub place_of-turn : (start n group step x turn : ℕ)
    → x % n + 1 ≡ n
    → turn + (n - 1) * step ≡ group
    → place_of start n group step (x + 1) ≡ place_of start n group step x + turn
place_of-turn start n group step x turn outside is =
    let e = next_group x n outside in
    let whole : ((x + 1) / n) * group ≡ (x / n + 1) * group = ap (λ k. k * group) e.0 in
    let part : ((x + 1) % n) * step ≡ 0 * step = ap (λ k. k * step) e.1 in
    let last : (x % n) * step ≡ (n - 1) * step = ap (λ k. k * step) (omega (arith, outside)) in
    omega (arith, whole, part, last, add-mul (x / n) 1 group)

-- the last read of a group is a step or more before the first of the next
pub turn-low : (n group step : ℕ) → 1 ≤ n → n * step ≤ group → (n - 1) * step + step ≤ group
turn-low n group step some fits =
    let e : n - 1 + 1 ≡ n = omega (arith, some) in
    omega (arith, fits, add-mul (n - 1) 1 step, ap (λ m. m * step) e)

-- a read is a step or more before the next one
pub place_of-rises : (start n group step x : ℕ) → 1 ≤ n → n * step ≤ group
    → place_of start n group step x + step ≤ place_of start n group step (x + 1)
place_of-rises start n group step x some fits =
    elim (cases_lt (x % n + 1) n) as (λ _. place_of start n group step x + step ≤ place_of start n group step (x + 1)) [
      | inl inside ↦ omega (arith, place_of-step start n group step x inside)
      | inr last ↦
          let outside : x % n + 1 ≡ n = omega (arith, last, mod_below x n (omega (arith, some))) in
          let low = turn-low n group step some fits in
          omega (arith, low, place_of-turn start n group step x (group - (n - 1) * step) outside (omega (arith, low)))
    ]

-- so reads are in order
place_of-order : (start n group step x k : ℕ) → 1 ≤ n → n * step ≤ group → place_of start n group step x ≤ place_of start n group step (x + k)
place_of-order start n group step x zero some fits = le_of_eq (ap (place_of start n group step) (omega arith))
place_of-order start n group step x (suc k) some fits =
    let e : place_of start n group step (x + suc k) ≡ place_of start n group step ((x + k) + 1) = ap (place_of start n group step) (omega arith) in
    omega (arith, e, place_of-order start n group step x k some fits, place_of-rises start n group step (x + k) some fits)

-- an earlier read is no later
pub place_of-le : (start n group step x y : ℕ) → 1 ≤ n → n * step ≤ group → x ≤ y
    → place_of start n group step x ≤ place_of start n group step y
place_of-le start n group step x y some fits h =
    let e : place_of start n group step (x + (y - x)) ≡ place_of start n group step y = ap (place_of start n group step) (omega (arith, h)) in
    omega (arith, e, place_of-order start n group step x (y - x) some fits)

-- the parts of 2^64 reads fit 116 bits
pub groups-small : (n group x : ℕ) → group ≤ n * 2 ^ 51 → x < 2 ^ 64 → (x / n) * group ≤ 2 ^ 115
groups-small n group x small few =
    let whole : (x / n) * group ≤ (x / n) * (n * 2 ^ 51) = mul-le-mul_left (x / n) small in
    let split : (x / n) * n ≤ x = div-mul-le_self x n in
    let parts : ((x / n) * n) * 2 ^ 51 ≤ x * 2 ^ 51 = mul-le-mul_right (2 ^ 51) split in
    omega (arith, whole, parts, mul_assoc (x / n) n (2 ^ 51), few)

pub place-small : (n step x : ℕ) → 1 ≤ n → n ≤ 262144 → step < 2 ^ 51 → (x % n) * step ≤ 2 ^ 69
place-small n step x some most small =
    let low : x % n ≤ 2 ^ 18 = omega (arith, mod_below x n (omega (arith, some)), most) in
    let parts : (x % n) * step ≤ (2 ^ 18) * step = mul-le-mul_right step low in
    omega (arith, parts, small)
