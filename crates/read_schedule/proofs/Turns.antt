-- From one read to the next, in parts of a nanosecond.
use Rattle.std.proofs.Common.{◌≡◌, ◌≤◌, ◌<◌, ◌+◌, ◌-◌, ◌*◌, ◌/◌, ◌%◌, ℕ, ap, arith, inl, inr, min}
use Rattle.std.proofs.lemmas.Bool.{cases_lt}
use Rattle.std.proofs.lemmas.Nat.{div-mul-add, mod-mul-add, div-add-mod', mod_below}
use Rattle.std.proofs.Math.Nat.{add-mul, mul_assoc, mul-le-mul_left, mul-le-mul_right, lt_of_mul-lt-mul_right, div-mul-le_self}
use Rattle.sender_params.proofs.Turns.{place_of-le, place_of-rises, place_of-step, place_of-turn, turn-low}
use Rattle.read_schedule.specs.declared.grid.Grid.{Grid}
use Rattle.read_schedule.specs.Parts.{parts_at}

-- a step within a group
pub parts_at-step : (g : Grid) (x : ℕ) → x % g.n + 1 < g.n → parts_at g (x + 1) ≡ parts_at g x + g.step
parts_at-step g x inside = place_of-step g.start g.n g.group g.step x inside

-- a step to the next group
pub parts_at-turn : (g : Grid) (x turn : ℕ)
    → x % g.n + 1 ≡ g.n
    → turn + (g.n - 1) * g.step ≡ g.group
    → parts_at g (x + 1) ≡ parts_at g x + turn
parts_at-turn g x turn outside is = place_of-turn g.start g.n g.group g.step x turn outside is

-- a read is a step or more before the next one
pub parts_at-rises : (g : Grid) (x : ℕ) → parts_at g x + g.step ≤ parts_at g (x + 1)
parts_at-rises g x = place_of-rises g.start g.n g.group g.step x g.n_some g.group_fits

-- an earlier read is no later
pub parts_at-le : (g : Grid) (x y : ℕ) → x ≤ y → parts_at g x ≤ parts_at g y
parts_at-le g x y order = place_of-le g.start g.n g.group g.step x y g.n_some g.group_fits order

-- each read has a nanosecond for itself
pub parts_at-least : (g : Grid) (x : ℕ) → x * g.den ≤ parts_at g x
parts_at-least g x =
    let split : (x / g.n) * g.n + x % g.n ≡ x = div-add-mod' x g.n in
    let whole : (x / g.n) * (g.n * g.den) ≤ (x / g.n) * g.group = mul-le-mul_left (x / g.n) g.group_slow in
    let part : (x % g.n) * g.den ≤ (x % g.n) * g.step = mul-le-mul_left (x % g.n) g.step_slow in
    let parts : ((x / g.n) * g.n + x % g.n) * g.den ≡ x * g.den = ap (λ y. y * g.den) split in
    omega (arith, whole, part, parts, mul_assoc (x / g.n) g.n g.den, add-mul ((x / g.n) * g.n) (x % g.n) g.den)

-- whole groups before a stamp have fewer reads than it has nanoseconds
pub groups-few : (g : Grid) (since t : ℕ) → since ≤ t * g.den → (since / g.group) * g.n ≤ t
groups-few g since t h =
    let below : (since / g.group) * g.group ≤ since = div-mul-le_self since g.group in
    let each : (since / g.group) * (g.n * g.den) ≤ (since / g.group) * g.group = mul-le-mul_left (since / g.group) g.group_slow in
    let all : ((since / g.group) * g.n) * g.den < (t + 1) * g.den =
    omega (arith, below, each, h, mul_assoc (since / g.group) g.n g.den, add-mul t 1 g.den, g.den_some) in
    let fewer : (since / g.group) * g.n < t + 1 = lt_of_mul-lt-mul_right g.den all in
    omega (arith, fewer)

-- the last read that is due, and the one after it
pub count-parts : (g : Grid) (since place : ℕ)
    → place ≡ min (since % g.group / g.step) (g.n - 1)
    → (parts_at g ((since / g.group) * g.n + place) ≤ g.start + since) × (g.start + since < parts_at g ((since / g.group) * g.n + place + 1))
count-parts g since place is =
    let k = since / g.group in
    let r = since % g.group in
    let x = k * g.n + place in
    let some_step : 0 < g.step = omega (arith, g.den_some, g.step_slow) in
    let within : place < g.n = omega (arith, is, g.n_some) in
    let whole : x / g.n ≡ k = div-mul-add k g.n place within in
    let part : x % g.n ≡ place = mod-mul-add k g.n place within in
    let split : k * g.group + r ≡ since = div-add-mod' since g.group in
    let some_group : 0 < g.group = omega (arith, g.group_fits, mul-le-mul_right g.step g.n_some, some_step) in
    let left : r < g.group = mod_below since g.group some_group in
    let wholes : (x / g.n) * g.group ≡ k * g.group = ap (λ y. y * g.group) whole in
    let parts : (x % g.n) * g.step ≡ place * g.step = ap (λ y. y * g.step) part in
    let low : place * g.step ≤ (r / g.step) * g.step = mul-le-mul_right g.step (omega (arith, is)) in
    let below : (r / g.step) * g.step ≤ r = div-mul-le_self r g.step in
    let here : parts_at g x ≡ g.start + k * g.group + place * g.step = omega (arith, wholes, parts) in (
      omega (arith, here, low, below, split),
      elim (cases_lt (place + 1) g.n) as (λ _. g.start + since < parts_at g (x + 1)) [
        | inl inside ↦
            let place_is : place ≡ r / g.step = omega (arith, is, inside) in
            let rest : r < (place + 1) * g.step =
            omega (arith, div-add-mod' r g.step, mod_below r g.step some_step, add-mul place 1 g.step, ap (λ y. y * g.step) place_is) in
            let next = parts_at-step g x (omega (arith, part, inside)) in
            omega (arith, here, next, rest, split, add-mul place 1 g.step)
        | inr last ↦
            let outside : x % g.n + 1 ≡ g.n = omega (arith, part, last, within) in
            let turns = turn-low g.n g.group g.step g.n_some g.group_fits in
            let next = parts_at-turn g x (g.group - (g.n - 1) * g.step) outside (omega (arith, turns)) in
            let same : place * g.step ≡ (g.n - 1) * g.step = ap (λ y. y * g.step) (omega (arith, outside, part)) in
            omega (arith, here, next, same, left, split, turns)
      ],
    )

-- the reads up to the last one that is due are due
pub count-due : (g : Grid) (since place x : ℕ)
    → place ≡ min (since % g.group / g.step) (g.n - 1)
    → x < (since / g.group) * g.n + place + 1
    → parts_at g x ≤ g.start + since
count-due g since place x is low =
    let order = parts_at-le g x ((since / g.group) * g.n + place) (omega (arith, low)) in
    omega (arith, order, (count-parts g since place is).0)

-- and no later one is
pub count-ahead : (g : Grid) (since place x : ℕ)
    → place ≡ min (since % g.group / g.step) (g.n - 1)
    → (since / g.group) * g.n + place + 1 ≤ x
    → g.start + since < parts_at g x
count-ahead g since place x is high =
    let order = parts_at-le g ((since / g.group) * g.n + place + 1) x high in
    omega (arith, order, (count-parts g since place is).1)
