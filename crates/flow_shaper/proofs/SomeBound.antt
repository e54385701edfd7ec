-- Something holds each packet of a least plan back, or it leaves when it comes.
use Rattle.std.proofs.Common.{◌≡◌, ◌≢◌, ◌≤◌, ◌<◌, ◌+◌, ◌-◌, ◌*◌, ◌/◌, ◌⊎◌, ℕ, zero, suc, Bool, true, false, nat_lt, List, length, set, slice_index, refl, ap}
use Rattle.std.proofs.Common.{◌∙◌, inl, inr, arith}
use Rattle.std.specs.Prelude.{◌==◌}
use Rattle.std.proofs.Math.Nat.{lt-div-mul-add, mul-le-mul, mul-le-mul_right}
use Rattle.std.proofs.lemmas.Bool.{cases_Bool, cases_eq, cases_lt, eq-eqb, eqb-true, lt-ltb, ltb-true}
use Rattle.std.proofs.lemmas.List.{get_or-set_other, get_or-set_same, length-set}
use Rattle.std.proofs.lemmas.Nat.{div_below}
use Rattle.timing_base.specs.Media.{IsMedia, Media}
use Rattle.timing_base.specs.declared.media.Kind.{Kind}
use Rattle.sender_params.specs.Ticks.{ticks_of}
use Rattle.sender_params.specs.Times.{drain_time, groups_of}
use Rattle.sender_params.proofs.Ticks.{ticks_of-rises}
use Rattle.sender_params.proofs.Parts.{groups-most}
use Rattle.flow_shaper.specs.Bounds.{BoundAt, IsBound, Overfills, Overloads}
use Rattle.flow_shaper.specs.Plan.{IsLeast, IsPlan, Models, Shaped, load, models_of}
use Rattle.flow_shaper.specs.declared.departure.Bound.{Bound}
use Rattle.flow_shaper.specs.declared.departure.Bound.TheVariants.{Arrival, Bucket, Buffer, Order}
use Rattle.flow_shaper.proofs.Greedy.{Rises}

-- the greatest number below n that passes a test
record IsLatest (p : ℕ → Bool) (n : ℕ) : Type 0 where
  at : ℕ
  below : at < n
  passes : p at ≡ true
  latest : (j : ℕ) → j < n → p j ≡ true → j ≤ at

-- there is one, or none below n passes
latest_below : (p : ℕ → Bool) (n : ℕ) → IsLatest p n ⊎ ((j : ℕ) → j < n → p j ≡ false)
latest_below p zero = inr (λ j few. absurd (omega (arith, few)))
latest_below p (suc n) = elim (cases_Bool (p n)) as (λ _. IsLatest p (suc n) ⊎ ((j : ℕ) → j < suc n → p j ≡ false)) [
  | inl here ↦ inl (record { at = n; below = omega arith; passes = here; latest = λ j few passes. omega (arith, few) })
  | inr fails ↦ elim (latest_below p n) as (λ _. IsLatest p (suc n) ⊎ ((j : ℕ) → j < suc n → p j ≡ false)) [
    | inl found ↦ inl (record {
      at = found.at;
      below = omega (arith, found.below);
      passes = found.passes;
      latest = λ j few passes. elim (cases_lt j n) as (λ _. j ≤ found.at) [
        | inl early ↦ found.latest j early passes
        | inr late ↦ let same : j ≡ n = omega (arith, late, few) in let no = ap p same in absurd (cc)
      ];
    })
    | inr none ↦ inr (λ j few. elim (cases_lt j n) as (λ _. p j ≡ false) [
      | inl early ↦ none j early
      | inr late ↦ let same : j ≡ n = omega (arith, late, few) in ap p same ∙ fails
    ])
  ]
]

-- a nanosecond has at most one tick
abbrev pub RisesByOne : Models → Type 0
RisesByOne w = (t : ℕ) → w.ticks (t + 1) ≤ w.ticks t + 1

-- packet i of a plan may leave sooner, too, where neither the packets before it nor the two models forbid it
plan-sooner : (w : Models) (arrivals departures : List ℕ) (i d : ℕ)
    → Rises w
    → IsPlan w arrivals departures
    → i < length arrivals
    → slice_index arrivals i ≤ d
    → d ≤ slice_index departures i
    → ((j : ℕ) → j < i → slice_index departures j ≤ d)
    → (Overloads w departures i d → ⊥)
    → (Overfills w i d → ⊥)
    → IsPlan w arrivals (set departures i d)
plan-sooner w arrivals departures i d rises p within arrival sooner order bucket buffer =
    let news = set departures i d in
    let size : length news ≡ length departures = length-set departures i d in
    let here : slice_index news i ≡ d = get_or-set_same departures i d 0 (omega (arith, within, p.each)) in
    let at = λ (k : ℕ) (same : k ≡ i). ap (slice_index news) same ∙ here in
    let there = λ (k : ℕ) (other : k ≢ i). get_or-set_other departures i k d 0 other in
    let load_fits : (j : ℕ) → j < i → load w departures j i d ≤ w.c_max =
    λ j few. elim (cases_lt w.c_max (load w departures j i d)) as (λ _. load w departures j i d ≤ w.c_max) [
      | inl over ↦ absurd (bucket (j, few, over))
      | inr fits ↦ fits
    ] in
    record {
      each = size ∙ p.each;
      after = λ k few. elim (cases_eq k i) as (λ _. slice_index arrivals k ≤ slice_index news k) [
        | inl same ↦ omega (arith, at k same, ap (slice_index arrivals) same, arrival)
        | inr other ↦ omega (arith, there k other, p.after k few)
      ];
      ordered = λ j k before few. elim (cases_eq k i) as (λ _. slice_index news j ≤ slice_index news k) [
        | inl same ↦ elim (cases_eq j i) as (λ _. slice_index news j ≤ slice_index news k) [
          | inl also ↦ omega (arith, at k same, at j also)
          | inr first ↦ omega (arith, at k same, there j first, order j (omega (arith, before, same, first)))
        ]
        | inr other ↦ elim (cases_eq j i) as (λ _. slice_index news j ≤ slice_index news k) [
          | inl also ↦ omega (arith, there k other, at j also, sooner, p.ordered j k before (omega (arith, few, size)), ap (slice_index departures) also)
          | inr first ↦ omega (arith, there k other, there j first, p.ordered j k before (omega (arith, few, size)))
        ]
      ];
      bucket = λ j k before few. elim (cases_eq k i) as (λ _. load w news j k (slice_index news k) ≤ w.c_max) [
        | inl same ↦ elim (cases_eq j i) as (λ _. load w news j k (slice_index news k) ≤ w.c_max) [
          | inl also ↦
              let one : k - j + 1 ≡ 1 = omega (arith, same, also) in
              omega (arith, p.bucket k k (omega arith) (omega (arith, few, size)), one, ap w.ticks (at k same), ap w.ticks (at j also))
          | inr first ↦
              omega (arith, load_fits j (omega (arith, before, same, first)), same, ap w.ticks (at k same), ap w.ticks (there j first))
        ]
        | inr other ↦ elim (cases_eq j i) as (λ _. load w news j k (slice_index news k) ≤ w.c_max) [
          | inl also ↦
              omega (
                arith,
                p.bucket j k before (omega (arith, few, size)),
                ap w.ticks (there k other),
                ap w.ticks (at j also),
                rises d (slice_index departures i) sooner,
                ap (λ x. w.ticks (slice_index departures x)) also,
              )
          | inr first ↦
              omega (arith, p.bucket j k before (omega (arith, few, size)), ap w.ticks (there k other), ap w.ticks (there j first))
        ]
      ];
      buffer = λ k few. elim (cases_eq k i) as (λ _. w.held k (slice_index news k) ≤ w.vrx_full) [
        | inl same ↦ elim (cases_lt w.vrx_full (w.held i d)) as (λ _. w.held k (slice_index news k) ≤ w.vrx_full) [
          | inl over ↦ absurd (buffer over)
          | inr fits ↦ omega (arith, fits, ap (w.held k) (at k same), ap (λ x. w.held x d) same)
        ]
        | inr other ↦ omega (arith, p.buffer k (omega (arith, few, size)), ap (w.held k) (there k other))
      ];
    }

-- in a least plan a packet that is delayed, though neither model forbids it to leave a nanosecond sooner, leaves with the
-- packet before it
with-before : (w : Models) (arrivals departures : List ℕ) (i : ℕ)
    → Rises w
    → IsLeast w arrivals departures
    → i < length arrivals
    → slice_index arrivals i < slice_index departures i
    → (Overloads w departures i (slice_index departures i - 1) → ⊥)
    → (Overfills w i (slice_index departures i - 1) → ⊥)
    → (0 < i) × (slice_index departures i ≡ slice_index departures (i - 1))
with-before w arrivals departures i rises s within delayed bucket buffer =
    let d = slice_index departures i - 1 in
    let p = s.plan in
    let long : i < length departures = omega (arith, within, p.each) in
    let held : ((j : ℕ) → j < i → slice_index departures j ≤ d) → ⊥ =
    λ order.
    let sooner = plan-sooner w arrivals departures i d rises p within (omega (arith, delayed)) (omega arith) order bucket buffer in
    omega (arith, s.least (set departures i d) sooner i within, get_or-set_same departures i d 0 long, delayed) in
    elim (cases_lt 0 i) as (λ _. (0 < i) × (slice_index departures i ≡ slice_index departures (i - 1))) [
      | inr none ↦ absurd (held (λ j few. absurd (omega (arith, few, none))))
      | inl some ↦ elim (cases_lt (slice_index departures (i - 1)) (slice_index departures i))
          as (λ _. (0 < i) × (slice_index departures i ≡ slice_index departures (i - 1))) [
            | inl early ↦ absurd (held (λ j few. omega (arith, early, p.ordered j (i - 1) (omega (arith, few)) (omega (arith, long)))))
            | inr late ↦ (some, omega (arith, late, p.ordered (i - 1) i (omega arith) long))
          ]
    ]

-- what overloads a nanosecond sooner is just full
overloads-full : (w : Models) (arrivals departures : List ℕ) (i j : ℕ)
    → RisesByOne w
    → IsPlan w arrivals departures
    → i < length arrivals
    → slice_index arrivals i < slice_index departures i
    → j < i
    → w.c_max < load w departures j i (slice_index departures i - 1)
    → load w departures j i (slice_index departures i) ≡ w.c_max
overloads-full w arrivals departures i j one p within delayed few over =
    let next : slice_index departures i - 1 + 1 ≡ slice_index departures i = omega (arith, delayed) in
    omega (arith, over, p.bucket j i (omega (arith, few)) (omega (arith, within, p.each)), one (slice_index departures i - 1), ap w.ticks next)

-- what holds back a packet that a nanosecond sooner would overload the bucket
bucket-some : (w : Models) (arrivals departures : List ℕ) (i : ℕ)
    → RisesByOne w
    → IsPlan w arrivals departures
    → i < length arrivals
    → slice_index arrivals i < slice_index departures i
    → Overloads w departures i (slice_index departures i - 1)
    → (bound : Bound) × IsBound w arrivals departures i bound
bucket-some w arrivals departures i one p within delayed over =
    let is_full = λ (j : ℕ). load w departures j i (slice_index departures i) == w.c_max in
    elim (latest_below is_full i) as (λ _. (bound : Bound) × IsBound w arrivals departures i bound) [
      | inl found ↦ (
        Bucket found.at,
        (
          (λ e. omega (arith, e, delayed)),
          over,
          record {
            before = found.below;
            full = eqb-true (load w departures found.at i (slice_index departures i)) w.c_max found.passes;
            latest = λ j few full. found.latest j few (eq-eqb (load w departures j i (slice_index departures i)) w.c_max full);
          },
        ),
      )
      | inr none ↦
          let full = eq-eqb (load w departures over.0 i (slice_index departures i)) w.c_max
          (overloads-full w arrivals departures i over.0 one p within delayed over.1 over.2) in
          let not_full = none over.0 over.1 in
          absurd (cc)
    ]

-- and one that wouldn't
other-some : (w : Models) (arrivals departures : List ℕ) (i : ℕ)
    → Rises w
    → IsLeast w arrivals departures
    → i < length arrivals
    → slice_index arrivals i < slice_index departures i
    → (Overloads w departures i (slice_index departures i - 1) → ⊥)
    → (bound : Bound) × IsBound w arrivals departures i bound
other-some w arrivals departures i rises s within delayed bucket =
    let d = slice_index departures i - 1 in
    elim (cases_lt w.vrx_full (w.held i d)) as (λ _. (bound : Bound) × IsBound w arrivals departures i bound) [
      | inl over ↦ (Buffer (i - w.vrx_full), ((λ e. omega (arith, e, delayed)), bucket, over, refl))
      | inr fits ↦
          let buffer : Overfills w i d → ⊥ = λ over. omega (arith, over, fits) in
          let with = with-before w arrivals departures i rises s within delayed bucket buffer in
          (Order, ((λ e. omega (arith, e, delayed)), bucket, buffer, with.0, with.1))
    ]

-- of any models whose ticks rise slowly
least-bound : (w : Models) (arrivals departures : List ℕ) (i : ℕ)
    → Rises w
    → RisesByOne w
    → IsLeast w arrivals departures
    → i < length arrivals
    → (bound : Bound) × IsBound w arrivals departures i bound
least-bound w arrivals departures i rises one s within =
    elim (cases_lt (slice_index arrivals i) (slice_index departures i)) as (λ _. (bound : Bound) × IsBound w arrivals departures i bound) [
      | inr early ↦ (Arrival, omega (arith, early, s.plan.after i within))
      | inl delayed ↦
          let d = slice_index departures i - 1 in
          let is_over = λ (j : ℕ). nat_lt w.c_max (load w departures j i d) in
          elim (latest_below is_over i) as (λ _. (bound : Bound) × IsBound w arrivals departures i bound) [
            | inl found ↦
                bucket-some w arrivals departures i one s.plan within delayed (
                  found.at,
                  found.below,
                  ltb-true w.c_max (load w departures found.at i d) found.passes,
                )
            | inr none ↦
                other-some w arrivals departures i rises s within delayed (λ over.
                let passes = lt-ltb w.c_max (load w departures over.0 i d) over.2 in
                let fails = none over.0 over.1 in
                absurd (cc))
          ]
    ]

-- T_DRAIN is a nanosecond or more
drain-slow : (m : Media) (n : ℕ) → IsMedia m → n ≤ 262144 → (drain_time m n).1 ≤ (drain_time m n).0
drain-slow m n is few =
    let frame : groups_of m * n ≤ 2 * 262144 = mul-le-mul (groups-most m) few in
    let rate : 11 * m.p * (groups_of m * n) ≤ 11 * (240 * m.q) * (2 * 262144) = mul-le-mul (omega (arith, is.p_most)) frame in
    omega (arith, rate)

-- so that a nanosecond has at most one tick
quotient-by_one : (a b den num : ℕ) → b ≤ a + 1 → den ≤ num → 1 ≤ num → b * den / num ≤ a * den / num + 1
quotient-by_one a b den num next slow some =
    let more : b * den ≤ (a + 1) * den = mul-le-mul_right den next in
    let below : a * den < a * den / num * num + num = lt-div-mul-add some in
    let small : b * den < (a * den / num + 2) * num = omega (arith, more, below, slow) in
    let quotient : b * den / num < a * den / num + 2 = div_below (b * den) num (a * den / num + 2) some small in
    omega (arith, quotient)

ticks-by_one : (m : Media) (n a0 t : ℕ) → IsMedia m → n ≤ 262144 → ticks_of m n a0 (t + 1) ≤ ticks_of m n a0 t + 1
ticks-by_one m n a0 t is few =
    quotient-by_one (t - a0) (t + 1 - a0) (drain_time m n).1 (drain_time m n).0 (omega arith) (drain-slow m n is few) (omega (arith, is.q_some))

-- of a flow
pub bound-some : (m : Media) (n : ℕ) (kind : Kind) (arrivals departures : List ℕ) (i : ℕ) → IsMedia m → n ≤ 262144
    → Shaped m n kind arrivals departures
    → i < length arrivals
    → (bound : Bound) × BoundAt m n kind arrivals departures i bound
bound-some m n kind arrivals departures i is few shaped within =
    let a0 = slice_index arrivals 0 in
    least-bound (models_of m n kind a0) arrivals departures i (ticks_of-rises m n a0) (λ t. ticks-by_one m n a0 t is few) shaped within
