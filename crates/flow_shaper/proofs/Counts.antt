-- The bucket over departures, by its count.
use Rattle.std.proofs.Common.{◌≡◌, ◌≤◌, ◌<◌, ◌+◌, ◌-◌, ℕ, List, [], ◌∷◌, ◌++◌, length, slice_index, ap, sym, inl, inr, arith}
use Rattle.std.proofs.lemmas.Bool.{cases_lt}
use Rattle.flow_shaper.specs.Plan.{IsPlan, Models, load}
use Rattle.flow_shaper.specs.Stands.{IsCount}
use Rattle.flow_shaper.proofs.Greedy.{Rises}
use Rattle.flow_shaper.proofs.Seams.{before, last}

-- a plan's count is within C_MAX
pub count-most : (w : Models) (arrivals departures : List ℕ) (i count begin : ℕ)
    → IsPlan w arrivals departures
    → IsCount w departures i count begin
    → i < length departures
    → count ≤ w.c_max
count-most w arrivals departures i count begin p c few = omega (arith, c.begin_load, p.bucket begin i c.begins few)

-- the next packet may leave at d where the bucket has room, or a tick has come
pub count-serves : (w : Models) (departures : List ℕ) (i count begin d : ℕ)
    → Rises w
    → IsCount w departures i count begin
    → length departures ≡ i + 1
    → ((j : ℕ) → j ≤ i → slice_index departures j ≤ slice_index departures i)
    → slice_index departures i ≤ d
    → count ≤ w.c_max
    → (w.c_max ≤ count → w.ticks (slice_index departures i) < w.ticks d)
    → (j : ℕ)
    → j < length departures
    → load w departures j (length departures) d ≤ w.c_max
count-serves w departures i count begin d rises c size falls order most more j few =
    let t = w.ticks (slice_index departures i) in
    let up = rises (slice_index departures i) d order in
    let below = rises (slice_index departures j) (slice_index departures i) (falls j (omega (arith, few, size))) in
    let old = c.most j (omega (arith, few, size)) in
    elim (cases_lt count w.c_max) as (λ _. load w departures j (length departures) d ≤ w.c_max) [
      | inl room ↦ omega (arith, size, up, below, old, room, few)
      | inr full ↦ omega (arith, size, up, below, old, full, most, more full, few)
    ]

-- where a full bucket has no tick it overloads
pub count-overloads : (w : Models) (departures : List ℕ) (i count begin d : ℕ)
    → Rises w
    → IsCount w departures i count begin
    → length departures ≡ i + 1
    → 1 ≤ w.c_max
    → w.c_max ≤ count
    → slice_index departures begin ≤ slice_index departures i
    → w.ticks d ≤ w.ticks (slice_index departures i)
    → w.c_max < load w departures begin (length departures) d
count-overloads w departures i count begin d rises c size some full falls few =
    let below = rises (slice_index departures begin) (slice_index departures i) falls in
    omega (arith, c.begin_load, c.begins, size, some, full, below, few)

-- one packet more
pub count-append : (w : Models) (departures : List ℕ) (i count begin d drained count_now begin_now : ℕ)
    → Rises w
    → IsCount w departures i count begin
    → length departures ≡ i + 1
    → ((j : ℕ) → j ≤ i → slice_index departures j ≤ slice_index departures i)
    → w.ticks (slice_index departures i) + drained ≡ w.ticks d
    → count_now ≡ (count - drained) + 1
    → (count_now ≡ 1 → begin_now ≡ i + 1)
    → (1 < count_now → begin_now ≡ begin)
    → IsCount w (departures ++ d ∷ []) (i + 1) count_now begin_now
count-append w departures i count begin d drained count_now begin_now rises c size falls ticks is fresh kept =
    let new = departures ++ d ∷ [] in
    let here : slice_index new (i + 1) ≡ d = last departures d (i + 1) (sym size) in
    let there = λ (j : ℕ) (few : j ≤ i). before departures d j (omega (arith, few, size)) in
    let low = λ (j : ℕ) (few : j ≤ i). rises (slice_index departures j) (slice_index departures i) (falls j few) in
    let is_last : w.ticks (slice_index new (i + 1)) ≡ w.ticks d = ap w.ticks here in
    record {
      most = λ j few. elim (cases_lt i j) as (λ _. load w new j (i + 1) (slice_index new (i + 1)) ≤ count_now) [
        | inl late ↦ let same : j ≡ i + 1 = omega (arith, late, few) in omega (arith, ap (λ k. w.ticks (slice_index new k)) same, is, same)
        | inr early ↦ omega (arith, is_last, ap w.ticks (there j early), low j early, c.most j early, ticks, is, early)
      ];
      begins = elim (cases_lt 1 count_now) as (λ _. begin_now ≤ i + 1) [
        | inl some ↦ omega (arith, kept some, c.begins)
        | inr none ↦ omega (arith, fresh (omega (arith, none, is)))
      ];
      begin_load = elim (cases_lt 1 count_now) as (λ _. load w new begin_now (i + 1) (slice_index new (i + 1)) ≡ count_now) [
        | inl some ↦
            omega (
              arith,
              kept some,
              ap (λ k. w.ticks (slice_index new k)) (kept some),
              is_last,
              ap w.ticks (there begin c.begins),
              low begin c.begins,
              c.begin_load,
              c.begins,
              ticks,
              is,
              some,
            )
        | inr none ↦
            let same : begin_now ≡ i + 1 = fresh (omega (arith, none, is)) in
            omega (arith, ap (λ k. w.ticks (slice_index new k)) same, same, none, is)
      ];
      latest = λ j few e. elim (cases_lt 1 count_now) as (λ _. j ≤ begin_now) [
        | inr none ↦ omega (arith, fresh (omega (arith, none, is)), few)
        | inl some ↦ elim (cases_lt i j) as (λ _. j ≤ begin_now) [
          | inl late ↦
              let same : j ≡ i + 1 = omega (arith, late, few) in
              omega (arith, ap (λ k. w.ticks (slice_index new k)) same, same, e, some)
          | inr early ↦
              omega (arith, kept some, c.latest j early (omega (arith, e, is_last, ap w.ticks (there j early), low j early, early, ticks, is, some)))
        ]
      ];
    }

-- the first packet
pub count-first : (w : Models) (a : ℕ) → IsCount w (a ∷ []) 0 1 0
count-first w a = record {
  most = λ j few. omega arith;
  begins = omega arith;
  begin_load = omega arith;
  latest = λ j few _. few;
}
