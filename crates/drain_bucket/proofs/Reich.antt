-- Reich's formula, by induction on the packet, over any clock that never falls.
use Rattle.std.proofs.Common.{◌≡◌, ◌≤◌, ◌<◌, ◌+◌, ◌-◌, ℕ, zero, suc, List, [], ◌∷◌, ◌++◌, length, slice_index, refl, ap, ◌∙◌, arith, inl, inr, replicate}
use Rattle.std.proofs.Common.{le_of_eq}
use Rattle.std.proofs.lemmas.Bool.{cases_lt}
use Rattle.timing_base.specs.Media.{Media}
use Rattle.sender_params.specs.Ticks.{NeverFall, ticks_at}
use Rattle.sender_params.proofs.Ticks.{ticks_of-rises}
use Rattle.drain_bucket.specs.Reich.{CountIsLoad}
use Rattle.drain_bucket.specs.Word.{Event, tick, arrive, count_after, level, word}

-- the clock never falls up to packet n
abbrev pub Rises : (ℕ → ℕ) → ℕ → Type 0
Rises clock n = (k : ℕ) → k < n → clock k ≤ clock (k + 1)

-- the load by a clock
abbrev pub excess : (ℕ → ℕ) → ℕ → ℕ → ℕ
excess clock j i = (i - j + 1) - (clock i - clock j)

-- events one after the other
pub level-append : (n : ℕ) (u v : List Event) → level n (u ++ v) ≡ level (level n u) v
level-append n [] v = refl
level-append n (tick ∷ u) v = level-append (n - 1) u v
level-append n (arrive ∷ u) v = level-append (n + 1) u v

-- k ticks take k packets out, as far as there are so many
pub level-ticks : (n k : ℕ) → level n (replicate k tick) ≡ n - k
level-ticks n zero = omega arith
level-ticks n (suc k) = level-ticks (n - 1) k ∙ omega arith

-- one packet more lowers the count by its ticks and raises it by one
pub count_after-suc : (clock : ℕ → ℕ) (i : ℕ) → count_after clock (suc i) ≡ (count_after clock i - (clock (i + 1) - clock i)) + 1
count_after-suc clock i =
    let d = clock (i + 1) - clock i in
    level-append 0 (word clock i) (replicate d tick ++ arrive ∷ []) ∙ level-append (count_after clock i) (replicate d tick) (arrive ∷ [])
    ∙ ap (λ n. n + 1) (level-ticks (count_after clock i) d)

rises_by : (clock : ℕ → ℕ) (n : ℕ) → Rises clock n → (j k : ℕ) → j + k ≤ n → clock j ≤ clock (j + k)
rises_by clock n h j zero m = le_of_eq (ap clock (omega arith))
rises_by clock n h j (suc k) m =
    let e : clock (j + suc k) ≡ clock ((j + k) + 1) = ap clock (omega arith) in
    omega (arith, rises_by clock n h j k (omega (arith, m)), h (j + k) (omega (arith, m)), e)

-- a clock that never falls is ordered
pub rises_to : (clock : ℕ → ℕ) (n : ℕ) → Rises clock n → (j i : ℕ) → j ≤ i → i ≤ n → clock j ≤ clock i
rises_to clock n h j i k m =
    let e : clock (j + (i - j)) ≡ clock i = ap clock (omega (arith, k)) in
    omega (arith, rises_by clock n h j (i - j) (omega (arith, k, m)), e)

rises-less : (clock : ℕ → ℕ) (i : ℕ) → Rises clock (suc i) → Rises clock i
rises-less clock i h k m = h k (omega (arith, m))

-- no interval's load is above the count
pub load_below : (clock : ℕ → ℕ) (i : ℕ) → Rises clock i → (j : ℕ) → j ≤ i → excess clock j i ≤ count_after clock i
load_below clock zero h j k = omega arith
load_below clock (suc i) h j k =
    let step = count_after-suc clock i in
    let same : clock (suc i) ≡ clock (i + 1) = ap clock (omega arith) in
    elim (cases_lt i j) as (λ _. excess clock j (suc i) ≤ count_after clock (suc i)) [
      | inl late ↦ let e : clock j ≡ clock (suc i) = ap clock (omega (arith, late, k)) in omega (arith, e, step, k, late)
      | inr early ↦ omega (
        arith,
        load_below clock i (rises-less clock i h) j early,
        rises_to clock (suc i) h j i early (omega arith),
        h i (omega arith),
        same,
        step,
        early,
      )
    ]

-- and some interval's load is the count
pub load_reached : (clock : ℕ → ℕ) (i : ℕ) → Rises clock i → (j : ℕ) × (j ≤ i) × (excess clock j i ≡ count_after clock i)
load_reached clock zero h = (0, omega arith, grind arith)
load_reached clock (suc i) h =
    let step = count_after-suc clock i in
    let same : clock (suc i) ≡ clock (i + 1) = ap clock (omega arith) in
    let before = load_reached clock i (rises-less clock i h) in
    let j = before.0 in
    elim (cases_lt (clock (i + 1) - clock i) (count_after clock i)) as (λ _. (j : ℕ) × (j ≤ suc i) × (excess clock j (suc i) ≡ count_after clock (suc i))) [
      | inl some ↦ (
        j,
        omega (arith, before.1),
        omega (
          arith,
          before.1,
          before.2,
          rises_to clock (suc i) h j i before.1 (omega arith),
          h i (omega arith),
          same,
          step,
          some,
        ),
      )
      | inr none ↦ (suc i, omega arith, omega (arith, step, none))
    ]

-- the count depends on the clock up to the packet alone
pub count_after-same : (f g : ℕ → ℕ) (i : ℕ) → ((k : ℕ) → k ≤ i → f k ≡ g k) → count_after f i ≡ count_after g i
count_after-same f g zero h = refl
count_after-same f g (suc i) h =
    let before = count_after-same f g i (λ k m. h k (omega (arith, m))) in
    let here = h i (omega arith) in
    let next = h (i + 1) (omega arith) in
    omega (arith, count_after-suc f i, count_after-suc g i, before, here, next)

-- the ticks of stamps that never fall never fall
pub ticks_at-rises : (m : Media) (n : ℕ) (stamps : List ℕ) (i : ℕ) → NeverFall stamps → i < length stamps → Rises (ticks_at m n stamps) i
ticks_at-rises m n stamps i h few k below =
    ticks_of-rises m n (slice_index stamps 0) (slice_index stamps k) (slice_index stamps (k + 1)) (h k (k + 1) (omega arith) (omega (arith, below, few)))

pub count_is_load : CountIsLoad
count_is_load m n stamps i h few =
    let rising = ticks_at-rises m n stamps i h few in
    record { most = load_below (ticks_at m n stamps) i rising; reached = load_reached (ticks_at m n stamps) i rising }
