-- The verdict on a list of stamps, packet by packet.
use Rattle.std.proofs.Common.{◌≡◌, ◌≤◌, ◌<◌, ◌+◌, ◌-◌, ℕ, zero, suc, Bool, true, false, not, List, length, slice_index, Option, Some, None, refl, arith, ap}
use Rattle.std.proofs.Common.{◌∙◌, sym, subst, inl, inr}
use Rattle.std.specs.Prelude.{if◌then◌else◌}
use Rattle.std.proofs.lemmas.Bool.{cases_lt}
use Rattle.std.proofs.lemmas.Int.{ints}
use Rattle.fraction128.specs.Fractions.{AtMost, Below, at_most, whole}
use Rattle.fraction128.proofs.Order.{at_most-false, at_most-true, fraction_cases}
use Rattle.timing_base.specs.Media.{IsMedia, Media}
use Rattle.timing_base.specs.declared.fail.FailProof.{FailProof}
use Rattle.timing_base.specs.declared.fail.Broken.{Broken}
use Rattle.timing_base.specs.declared.fail.Broken.TheVariants.{Bucket, Over, Empty}
use Rattle.timing_base.specs.declared.media.Kind.{Kind}
use Rattle.timing_base.specs.declared.row.KindVerdict.{KindVerdict}
use Rattle.timing_base.specs.declared.row.KindVerdict.TheVariants.{Pass, Fail}
use Rattle.sender_params.specs.Keeps.{arrived_by_read, is_empty, is_over}
use Rattle.sender_params.specs.Limits.{gapped_of}
use Rattle.sender_params.specs.Reads.{anchor_of, read_of}
use Rattle.sender_params.specs.Ticks.{NeverFall}
use Rattle.read_schedule.proofs.Rising.{read-rises}
use Rattle.vrx_buffer.proofs.Instants.{arrived-is, read_of-den}
use Rattle.vrx_buffer.proofs.Order.{at_most-at_most, below-at_most}
use Rattle.fail_interval.specs.Early.{early_at, early_below, early_by}
use Rattle.fail_interval.specs.Fails.{broken_at, is_overfull, proof_if, verdict_below, verdict_next}

-- which model is broken, by the tests
abbrev pub broken_by : Bool → Bool → Bool → Option Broken
broken_by full over late = if full then Some Bucket else if over then Some Over else if late then Some Empty else None

-- reads never fall
read-order : (m : Media) (n : ℕ) (stamps : List ℕ) (gapped : Bool) (j d : ℕ) → IsMedia m → 1 ≤ n
    → AtMost (read_of m n (anchor_of m (slice_index stamps 0)) gapped j) (read_of m n (anchor_of m (slice_index stamps 0)) gapped (j + d))
read-order m n stamps gapped j zero is some =
    let anchor = anchor_of m (slice_index stamps 0) in
    let same : j + 0 ≡ j = omega arith in
    subst (λ k. AtMost (read_of m n anchor gapped j) (read_of m n anchor gapped k)) (sym same) (omega (arith, ints))
read-order m n stamps gapped j (suc d) is some =
    let anchor = anchor_of m (slice_index stamps 0) in
    let next : (j + d) + 1 ≡ j + suc d = omega arith in
    let before = read-order m n stamps gapped j d is some in
    let rise = read-rises m n anchor gapped (j + d) is some in
    let after : AtMost (read_of m n anchor gapped (j + d)) (read_of m n anchor gapped ((j + d) + 1)) = omega (arith, ints, rise) in
    subst (λ k. AtMost (read_of m n anchor gapped j) (read_of m n anchor gapped k)) next
    (at_most-at_most _ (read_of m n anchor gapped (j + d)) _ (read_of-den m n anchor gapped (j + d) is some) before after)

-- a packet that isn't late comes by its own read
pub by_read : (m : Media) (n : ℕ) (stamps : List ℕ) (kind : Kind) (j : ℕ) → is_empty m n stamps kind j ≡ false
    → AtMost (whole (slice_index stamps j)) (read_of m n (anchor_of m (slice_index stamps 0)) (gapped_of kind) j)
by_read m n stamps kind j e =
    let read = read_of m n (anchor_of m (slice_index stamps 0)) (gapped_of kind) j in
    let at = whole (slice_index stamps j) in
    elim (fraction_cases at read) as (λ _. AtMost at read) [
      | inl in_time ↦ in_time
      | inr late ↦ let told : not (at_most at read) ≡ true = ap not (at_most-false at read late) in cc
    ]

after_read : (m : Media) (n : ℕ) (stamps : List ℕ) (kind : Kind) (j : ℕ) → is_empty m n stamps kind j ≡ true
    → Below (read_of m n (anchor_of m (slice_index stamps 0)) (gapped_of kind) j) (whole (slice_index stamps j))
after_read m n stamps kind j e =
    let read = read_of m n (anchor_of m (slice_index stamps 0)) (gapped_of kind) j in
    let at = whole (slice_index stamps j) in
    elim (fraction_cases at read) as (λ _. Below read at) [
      | inl in_time ↦ let told : not (at_most at read) ≡ false = ap not (at_most-true at read in_time) in cc
      | inr late ↦ late
    ]

-- where packet i is the first that is late, the packets before it are those that came by its read
pub arrived-first : (m : Media) (n : ℕ) (stamps : List ℕ) (kind : Kind) (i : ℕ) → IsMedia m → 1 ≤ n → NeverFall stamps → i < length stamps
    → ((j : ℕ) → j < i → is_empty m n stamps kind j ≡ false)
    → is_empty m n stamps kind i ≡ true
    → arrived_by_read m n stamps kind i ≡ i
arrived-first m n stamps kind i is some falls within before late =
    let anchor = anchor_of m (slice_index stamps 0) in
    let g = gapped_of kind in
    arrived-is stamps (read_of m n anchor g i) i record {
      within = omega (arith, within);
      came = λ j low.
          let there : j + (i - j) ≡ i = omega (arith, low) in
          at_most-at_most (whole (slice_index stamps j)) (read_of m n anchor g j) (read_of m n anchor g i) (read_of-den m n anchor g j is some)
          (by_read m n stamps kind j (before j low))
          (subst (λ k. AtMost (read_of m n anchor g j) (read_of m n anchor g k)) there (read-order m n stamps g j (i - j) is some));
      ahead = λ j from size.
          let rise = falls i j from size in
          let later : AtMost (whole (slice_index stamps i)) (whole (slice_index stamps j)) = omega (arith, ints, rise) in
          below-at_most (read_of m n anchor g i) (whole (slice_index stamps i)) (whole (slice_index stamps j)) (omega arith)
          (after_read m n stamps kind i late) later;
    }

-- the verdict stays Pass only where no packet breaks a model
pass-none : (m : Media) (n : ℕ) (stamps : List ℕ) (kind : Kind) (here : Option Broken) (before : KindVerdict) (i : ℕ)
    → verdict_next before (proof_if m n stamps kind i here) ≡ Pass → (before ≡ Pass) × (here ≡ None)
pass-none m n stamps kind None Pass i e = (refl, refl)
pass-none m n stamps kind None (Fail proof) i e = cc
pass-none m n stamps kind (Some b) Pass i e = cc
pass-none m n stamps kind (Some b) (Fail proof) i e = cc

pub pass-before : (m : Media) (n : ℕ) (stamps : List ℕ) (kind : Kind) (count j : ℕ) → verdict_below m n stamps kind count ≡ Pass → j < count
    → broken_at m n stamps kind j ≡ None
pass-before m n stamps kind zero j e low = absurd (omega (arith, low))
pass-before m n stamps kind (suc i) j e low =
    let both = pass-none m n stamps kind (broken_at m n stamps kind i) (verdict_below m n stamps kind i) i e in
    elim (cases_lt j i) as (λ _. broken_at m n stamps kind j ≡ None) [
      | inl before ↦ pass-before m n stamps kind i j both.0 before
      | inr here ↦ let same : j ≡ i = omega (arith, here, low) in ap (broken_at m n stamps kind) same ∙ both.1
    ]

-- a packet that breaks no model is neither over nor late
not_broken : (full over late : Bool) → broken_by full over late ≡ None → (full ≡ false) × (over ≡ false) × (late ≡ false)
not_broken true over late e = cc
not_broken false true late e = cc
not_broken false false true e = cc
not_broken false false false e = (refl, refl, refl)

pub none-broken : (m : Media) (n : ℕ) (stamps : List ℕ) (kind : Kind) (i : ℕ) → broken_at m n stamps kind i ≡ None
    → (is_overfull m n stamps kind i ≡ false) × (is_over m n stamps kind i ≡ false) × (is_empty m n stamps kind i ≡ false)
none-broken m n stamps kind i e = not_broken (is_overfull m n stamps kind i) (is_over m n stamps kind i) (is_empty m n stamps kind i) e

empty-broken : (full over late : Bool) → broken_by full over late ≡ Some Empty → late ≡ true
empty-broken true over late e = cc
empty-broken false true late e = cc
empty-broken false false true e = refl
empty-broken false false false e = cc

-- the interval as it is known when the packet comes is the interval, where no packet before breaks a model
early-is : (m : Media) (n : ℕ) (stamps : List ℕ) (kind : Kind) (i : ℕ) (here : Option Broken) → IsMedia m → 1 ≤ n → NeverFall stamps → i < length stamps
    → broken_at m n stamps kind i ≡ here
    → ((j : ℕ) → j < i → is_empty m n stamps kind j ≡ false)
    → early_by m n stamps kind i here ≡ proof_if m n stamps kind i here
early-is m n stamps kind i None is some falls within e before = refl
early-is m n stamps kind i (Some Bucket) is some falls within e before = refl
early-is m n stamps kind i (Some Over) is some falls within e before = refl
early-is m n stamps kind i (Some Empty) is some falls within e before =
    let late : is_empty m n stamps kind i ≡ true = empty-broken (is_overfull m n stamps kind i) (is_over m n stamps kind i) (is_empty m n stamps kind i) e in
    let with_count : ℕ → Option FailProof = λ count. Some (record { model = Empty; from = i; to = i; count = count; limit = i + 1 }) in
    ap with_count (sym (arrived-first m n stamps kind i is some falls within before late))

below-case : (m : Media) (n : ℕ) (stamps : List ℕ) (kind : Kind) (i : ℕ) (before : KindVerdict) → IsMedia m → 1 ≤ n → NeverFall stamps → i < length stamps
    → verdict_below m n stamps kind i ≡ before
    → verdict_next before (early_at m n stamps kind i) ≡ verdict_next before (proof_if m n stamps kind i (broken_at m n stamps kind i))
below-case m n stamps kind i (Fail proof) is some falls within e = refl
below-case m n stamps kind i Pass is some falls within e =
    ap (verdict_next Pass) (early-is m n stamps kind i (broken_at m n stamps kind i) is some falls within refl
    (λ j low. (none-broken m n stamps kind j (pass-before m n stamps kind i j e low)).2))

-- so the verdict by these intervals is the verdict
pub early_below-is : (m : Media) (n : ℕ) (stamps : List ℕ) (kind : Kind) (count : ℕ) → IsMedia m → 1 ≤ n → NeverFall stamps → count ≤ length stamps
    → early_below m n stamps kind count ≡ verdict_below m n stamps kind count
early_below-is m n stamps kind zero is some falls within = refl
early_below-is m n stamps kind (suc i) is some falls within =
    ap (λ v. verdict_next v (early_at m n stamps kind i)) (early_below-is m n stamps kind i is some falls (omega (arith, within)))
    ∙ below-case m n stamps kind i (verdict_below m n stamps kind i) is some falls (omega (arith, within)) refl
