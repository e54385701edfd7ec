-- Every list of arrivals has a plan that is least at each packet.
use Rattle.std.proofs.Common.{◌≡◌, ◌≤◌, ◌<◌, ◌+◌, ◌-◌, ◌*◌, ◌⊎◌, ℕ, ℤ, zero, suc, pos, ◌-ℤ◌, Bool, true, false, nat_le, max, List, [], ◌∷◌, ◌++◌, length}
use Rattle.std.proofs.Common.{slice_index, take, refl, ap, subst, sym, ◌∙◌, inl, inr, arith}
use Rattle.std.proofs.Math.Nat.{mul-le-mul, mul-le-mul_left}
use Rattle.std.proofs.Math.Seq.{take-length, take-suc}
use Rattle.std.proofs.lemmas.Bool.{cases_lt}
use Rattle.std.proofs.lemmas.Bool.Decides.{nat_tests}
use Rattle.std.proofs.lemmas.Int.{ints}
use Rattle.std.proofs.lemmas.List.{length-take-le}
use Rattle.std.proofs.lemmas.Nat.{le-div}
use Rattle.fraction128.specs.Fractions.{AtMost, Fraction, whole}
use Rattle.timing_base.specs.Media.{IsMedia, Media}
use Rattle.timing_base.specs.declared.media.Kind.{Kind}
use Rattle.sender_params.specs.Limits.{gapped_of}
use Rattle.sender_params.specs.Reads.{anchor_of, read_of}
use Rattle.sender_params.specs.Ticks.{ticks_of}
use Rattle.sender_params.specs.Times.{drain_time, group_time, groups_of, offset_time, read_step}
use Rattle.sender_params.proofs.Parts.{groups-some, have_per}
use Rattle.sender_params.proofs.Ticks.{ticks_of-rises}
use Rattle.read_schedule.proofs.Rising.{at_most-parts, difference, due-some}
use Rattle.flow_shaper.specs.Plan.{IsLeast, Models, Shaped, models_of}
use Rattle.flow_shaper.proofs.Buffers.{due-below, due-rises, held-is}
use Rattle.flow_shaper.proofs.Greedy.{Rises, Serves, least-append, least-none}
use Rattle.flow_shaper.proofs.Limits.{c_max-some, vrx_full-some}
use Rattle.flow_shaper.proofs.Seams.{before, last}

-- with one number more
decide : (p : ℕ → Bool) (n : ℕ)
    → ((j : ℕ) → j < n → p j ≡ false)
    → (b : Bool)
    → p n ≡ b
    → ((k : ℕ) × (p k ≡ true) × ((j : ℕ) → p j ≡ true → k ≤ j)) ⊎ ((j : ℕ) → j < suc n → p j ≡ false)
decide p n none true here = inl (
  n,
  here,
  λ j passes. elim (cases_lt j n) as (λ _. n ≤ j) [
    | inl early ↦ let fails = none j early in absurd (cc)
    | inr late ↦ late
  ],
)
decide p n none false here = inr (λ j few. elim (cases_lt j n) as (λ _. p j ≡ false) [
  | inl early ↦ none j early
  | inr late ↦ let same : j ≡ n = omega (arith, late, few) in ap p same ∙ here
])

-- the least number that passes a test, or none below n
least_below : (p : ℕ → Bool) (n : ℕ) → ((k : ℕ) × (p k ≡ true) × ((j : ℕ) → p j ≡ true → k ≤ j)) ⊎ ((j : ℕ) → j < n → p j ≡ false)
least_below p zero = inr (λ j few. absurd (omega (arith, few)))
least_below p (suc n) = elim (least_below p n) [
  | inl found ↦ inl found
  | inr none ↦ decide p n none (p n) refl
]

-- where some number passes there is a least one
least_of : (p : ℕ → Bool) (n : ℕ) → p n ≡ true → (k : ℕ) × (p k ≡ true) × ((j : ℕ) → p j ≡ true → k ≤ j)
least_of p n passes = elim (least_below p (suc n)) [
  | inl found ↦ found
  | inr none ↦ let fails = none n (omega arith) in absurd (cc)
]

-- a test of numbers
le_test : (a b : ℕ) → a ≤ b → nat_le a b ≡ true
le_test a b h = grind (arith, nat_tests)

test_le : (a b : ℕ) → nat_le a b ≡ true → a ≤ b
test_le a b h = grind (arith, nat_tests)

-- the greatest of n numbers
greatest : (f : ℕ → ℕ) (n : ℕ) → (k : ℕ) × (((j : ℕ) → j < n → f j ≤ k) × ((t : ℕ) → ((j : ℕ) → j < n → f j ≤ t) → k ≤ t))
greatest f zero = (0, ((λ j few. absurd (omega (arith, few))), λ t all. omega arith))
greatest f (suc n) =
    let before_it = greatest f n in (
      max before_it.0 (f n),
      (
        (λ j few. elim (cases_lt j n) as (λ _. f j ≤ max before_it.0 (f n)) [
          | inl early ↦ omega (arith, before_it.1.0 j early)
          | inr late ↦ let same : j ≡ n = omega (arith, late, few) in omega (arith, ap f same)
        ]),
        λ t all. omega (arith, before_it.1.1 t (λ j few. all j (omega (arith, few))), all n (omega arith)),
      ),
    )

-- models in which each packet can leave at some time
pub record LetLeave (w : Models) : Type 0 where
  pub rises : Rises w
  pub some : 1 ≤ w.c_max
  pub alone : (a : ℕ) → w.held 0 a ≤ w.vrx_full
  pub reach : (k : ℕ) → (t : ℕ) × (k ≤ w.ticks t)
  pub falls : (i a b : ℕ) → a ≤ b → w.held i b ≤ w.held i a
  pub empties : (i : ℕ) → (t : ℕ) × (w.held i t ≤ w.vrx_full)

-- after all departures there is an earliest one
earliest : (w : Models) (departures : List ℕ) (a : ℕ)
    → LetLeave w
    → (d : ℕ) × (Serves w departures a d × ((e : ℕ) → Serves w departures a e → d ≤ e))
earliest w departures a let_leave =
    let n = length departures in
    let order = greatest (slice_index departures) n in
    let need = λ (j : ℕ). w.ticks (slice_index departures j) + ((n - j + 1) - w.c_max) in
    let most = greatest need n in
    let far = let_leave.reach most.0 in
    let passes : nat_le most.0 (w.ticks far.0) ≡ true = le_test most.0 (w.ticks far.0) far.1 in
    let tick = least_of (λ t. nat_le most.0 (w.ticks t)) far.0 passes in
    let tick_is : most.0 ≤ w.ticks tick.0 = test_le most.0 (w.ticks tick.0) tick.1 in
    let away = let_leave.empties n in
    let fits : nat_le (w.held n away.0) w.vrx_full ≡ true = le_test (w.held n away.0) w.vrx_full away.1 in
    let read = least_of (λ t. nat_le (w.held n t) w.vrx_full) away.0 fits in
    let read_is : w.held n read.0 ≤ w.vrx_full = test_le (w.held n read.0) w.vrx_full read.1 in
    let d = max (max a order.0) (max tick.0 read.0) in
    let late : most.0 ≤ w.ticks d = omega (arith, tick_is, let_leave.rises tick.0 d (omega arith)) in (
      d,
      (
        record {
          after = omega arith;
          order = λ j few. omega (arith, order.1.0 j few);
          bucket = λ j few. omega (arith, most.1.0 j few, late);
          alone = let_leave.some;
          buffer = omega (arith, read_is, let_leave.falls n read.0 d (omega arith));
        },
        λ e s.
            let enough : most.0 ≤ w.ticks e =
            most.1.1 (w.ticks e) (λ j few. omega (arith, s.bucket j few, let_leave.rises (slice_index departures j) e (s.order j few))) in
            omega (arith, s.after, order.1.1 e s.order, tick.2 e (le_test most.0 (w.ticks e) enough), read.2 e (le_test (w.held n e) w.vrx_full s.buffer)),
      ),
    )

-- the least plan of the first n packets, in which the first leaves when it comes
first_packets : (w : Models) (arrivals : List ℕ) (n : ℕ)
    → LetLeave w
    → n ≤ length arrivals
    → (departures : List ℕ) × (IsLeast w (take n arrivals) departures × (0 < n → slice_index departures 0 ≡ slice_index arrivals 0))
first_packets w arrivals zero let_leave few = ([], (least-none w, λ none. absurd (omega (arith, none))))
first_packets w arrivals (suc n) let_leave few =
    let rest = first_packets w arrivals n let_leave (omega (arith, few)) in
    let old = rest.0 in
    let a = slice_index arrivals n in
    let size : length old ≡ n = rest.1.0.plan.each ∙ length-take-le n arrivals (omega (arith, few)) in
    let next = earliest w old a let_leave in
    let all = least-append w (take n arrivals) old a next.0 let_leave.rises rest.1.0 next.1.0 next.1.1 in
    let same : take n arrivals ++ a ∷ [] ≡ take (suc n) arrivals = sym (take-suc arrivals n 0 (omega (arith, few))) in (
      old ++ next.0 ∷ [],
      (
        subst (λ xs. IsLeast w xs (old ++ next.0 ∷ [])) same all,
        λ some. elim (cases_lt 0 n) as (λ _. slice_index (old ++ next.0 ∷ []) 0 ≡ slice_index arrivals 0) [
          | inl later ↦ before old next.0 0 (omega (arith, size, later)) ∙ rest.1.1 later
          | inr none ↦
              let z : n ≡ 0 = omega (arith, none) in
              let here : slice_index (old ++ next.0 ∷ []) 0 ≡ next.0 = last old next.0 0 (omega (arith, size, z)) in
              let may : Serves w old a a = record {
                after = omega arith;
                order = λ j low. absurd (omega (arith, low, size, z));
                bucket = λ j low. absurd (omega (arith, low, size, z));
                alone = let_leave.some;
                buffer = omega (arith, let_leave.alone a, ap (λ k. w.held k a) size, ap (λ k. w.held k a) z);
              } in
              omega (arith, here, next.1.1 a may, next.1.0.after, ap (slice_index arrivals) z)
        ],
      ),
    )

-- the ticks of a drain become as many as one likes
drain-reach : (m : Media) (n a0 k : ℕ) → IsMedia m → 1 ≤ n → (t : ℕ) × (k ≤ ticks_of m n a0 t)
drain-reach m n a0 k is some =
    let num = (drain_time m n).0 in
    let den = (drain_time m n).1 in
    let frame : 1 * 1 ≤ groups_of m * n = mul-le-mul (groups-some m) some in
    let frame_some : 1 ≤ groups_of m * n = omega (arith, frame) in
    let rate : 1 * 1 ≤ m.p * (groups_of m * n) = mul-le-mul is.p_some frame_some in
    let den_some : 1 ≤ den = omega (arith, rate) in
    let num_some : 1 ≤ num = omega (arith, is.q_some) in
    let t = a0 + k * num in
    let far : t - a0 ≡ k * num = omega arith in
    let product : k * num * 1 ≤ k * num * den = mul-le-mul_left (k * num) den_some in
    let all : (t - a0) * den ≡ k * num * den = ap (λ x. x * den) far in
    (t, le-div k ((t - a0) * den) num num_some (omega (arith, product, all)))

-- a fraction is at most some whole number
whole-reach : (x : Fraction) → 1 ≤ x.den → (t : ℕ) × AtMost x (whole t)
whole-reach x some =
    let parts = difference x.num in
    let y = parts.0 in
    let z = parts.1 in
    let here : pos y ≡ pos y -ℤ pos 0 = omega (arith, ints) in
    let product : y * 1 ≤ y * x.den = mul-le-mul_left y some in
    (y, (at_most-parts y z x.den y 0 x.num (pos y) 1 parts.2 here).1 (omega (arith, product)))

-- each read comes
read-reach : (m : Media) (n : ℕ) (anchor : ℤ) (gapped : Bool) (x : ℕ) → IsMedia m → 1 ≤ n → (t : ℕ) × AtMost (read_of m n anchor gapped x) (whole t)
read-reach m n anchor gapped x is some =
    let have = have_per m n gapped is some in
    let product : 1 * 1 ≤ (group_time m).1 * (offset_time m).1 = mul-le-mul have.group have.offset in
    let both : 1 ≤ (group_time m).1 * (offset_time m).1 = omega (arith, product) in
    let all : 1 * 1 ≤ (group_time m).1 * (offset_time m).1 * (read_step m n gapped).1 = mul-le-mul both have.step in
    whole-reach (read_of m n anchor gapped x) (omega (arith, all))

-- so each packet of a video can leave
pub let_leave : (m : Media) (n : ℕ) (kind : Kind) (a0 : ℕ) → IsMedia m → 1 ≤ n → LetLeave (models_of m n kind a0)
let_leave m n kind a0 is some =
    let anchor = anchor_of m a0 in
    let g = gapped_of kind in
    let full = vrx_full-some m n kind in
    record {
      rises = ticks_of-rises m n a0;
      some = c_max-some m n kind is;
      alone = λ a. omega (arith, full);
      reach = λ k. drain-reach m n a0 k is some;
      falls = λ i a b order.
          let first = due-some m n anchor g (whole a) is some (omega arith) in
          let second = due-some m n anchor g (whole b) is some (omega arith) in
          omega (
            arith,
            held-is m n kind a0 i a first.0 first.1,
            held-is m n kind a0 i b second.0 second.1,
            due-rises m n anchor g a b first.0 second.0 order first.1 second.1,
          );
      empties = λ i.
          let far = read-reach m n anchor g i is some in
          let due = due-some m n anchor g (whole far.0) is some (omega arith) in
          (far.0, omega (arith, held-is m n kind a0 i far.0 due.0 due.1, due-below m n anchor g far.0 due.0 i due.1 far.1));
    }

-- two least plans are the same
pub least-once : (w : Models) (arrivals a b : List ℕ) (i : ℕ) → IsLeast w arrivals a → IsLeast w arrivals b → i < length arrivals
    → slice_index a i ≡ slice_index b i
least-once w arrivals a b i first second few = omega (arith, first.least b second.plan i few, second.least a first.plan i few)

-- every list of arrivals has one
pub shaped-some : (m : Media) (n : ℕ) (kind : Kind) (arrivals : List ℕ) → IsMedia m → 1 ≤ n
    → (departures : List ℕ) × (Shaped m n kind arrivals departures × (0 < length arrivals → slice_index departures 0 ≡ slice_index arrivals 0))
shaped-some m n kind arrivals is some =
    let w = models_of m n kind (slice_index arrivals 0) in
    let all = first_packets w arrivals (length arrivals) (let_leave m n kind (slice_index arrivals 0) is some) (omega arith) in
    (all.0, (subst (λ xs. IsLeast w xs all.0) (take-length arrivals) all.1.0, all.1.1))

-- the first packet leaves when it comes
pub first-leaves : (m : Media) (n : ℕ) (kind : Kind) (arrivals departures : List ℕ) → IsMedia m → 1 ≤ n
    → Shaped m n kind arrivals departures
    → 0 < length arrivals
    → slice_index departures 0 ≡ slice_index arrivals 0
first-leaves m n kind arrivals departures is some shaped few =
    let other = shaped-some m n kind arrivals is some in
    least-once (models_of m n kind (slice_index arrivals 0)) arrivals departures other.0 0 shaped other.1.0 few ∙ other.1.1 few
