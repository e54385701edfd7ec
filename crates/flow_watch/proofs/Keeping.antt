-- What is said of the first packets of a run stays as it is with more packets.
use Rattle.std.proofs.Common.{◌≡◌, ◌<◌, ◌≤◌, ◌+◌, ◌-◌, ◌*◌, ◌++◌, ℕ, ℤ, Bool, List, length, slice_index, ap, ◌∙◌, sym, subst, arith, nat_lt, ◌||◌}
use Rattle.std.proofs.Common.{refl, true, false, length-append, pos, zero, suc}
use Rattle.std.proofs.Math.Nat.{mul-le-mul_right, suc-mul}
use Rattle.std.proofs.lemmas.List.{get_or_append_left}
use Rattle.fraction128.specs.Fractions.{below, whole}
use Rattle.timing_base.specs.Media.{IsMedia, Media}
use Rattle.timing_base.specs.declared.media.Kind.{Kind}
use Rattle.timing_base.specs.declared.media.Kind.TheVariants.{N, NL, W}
use Rattle.sender_params.specs.Keeps.{due_among, held_at, is_empty, is_over}
use Rattle.sender_params.specs.Limits.{c_max_of, gapped_of, vrx_full_of}
use Rattle.sender_params.specs.Reads.{AreDue, anchor_of, read_of}
use Rattle.sender_params.specs.Ticks.{ticks_at, ticks_of}
use Rattle.drain_bucket.specs.Word.{bucket_of}
use Rattle.drain_bucket.proofs.Reich.{count_after-same}
use Rattle.vrx_buffer.specs.Occupancy.{IsOccupancy, is_late}
use Rattle.run_meter.specs.Runs.{is_broken}
use Rattle.flow_measure.specs.Broken.{any_of, broken_groups, group_breaks}
use Rattle.flow_measure.specs.Occupancy.{buckets_of}
use Rattle.flow_measure.proofs.Bounds.{IsGreatest-same, IsLeast-same}
use Rattle.flow_measure.proofs.Counted.{count_of-same}
use Rattle.flow_measure.proofs.Packets.{occupancies}
use Rattle.flow_measure.proofs.Passes.{occupancy-once}
use Rattle.flow_watch.specs.Stretches.{ArePeaks, IsBetween, IsRange, IsStretch, broken_of_types}
use Rattle.flow_watch.specs.declared.peaks.BufferRange.{BufferRange}
use Rattle.flow_watch.specs.declared.peaks.Peaks.{Peaks}
use Rattle.flow_watch.specs.declared.stretch.Stretch.{Stretch}

-- ---- one packet

front-of : (xs more : List ℕ) (i : ℕ) → i < length xs → slice_index (xs ++ more) i ≡ slice_index xs i
front-of xs more i few = get_or_append_left xs more 0 i few

bucket-after : (m : Media) (n : ℕ) (stamps more : List ℕ) (i : ℕ) → i < length stamps → bucket_of m n (stamps ++ more) i ≡ bucket_of m n stamps i
bucket-after m n stamps more i few =
    let new = stamps ++ more in
    count_after-same (ticks_at m n new) (ticks_at m n stamps) i
    (λ j low.
    let start : slice_index new 0 ≡ slice_index stamps 0 = front-of stamps more 0 (omega (arith, few)) in
    let here : slice_index new j ≡ slice_index stamps j = front-of stamps more j (omega (arith, low, few)) in
    ap (λ a. ticks_of m n a (slice_index new j)) start ∙ ap (ticks_of m n (slice_index stamps 0)) here)

occupancy-after : (m : Media) (n : ℕ) (stamps more : List ℕ) (gapped : Bool) (i : ℕ) (x : ℤ) → i < length stamps
    → IsOccupancy m n stamps gapped i x → IsOccupancy m n (stamps ++ more) gapped i x
occupancy-after m n stamps more gapped i x few o =
    let new = stamps ++ more in
    let first : slice_index new 0 ≡ slice_index stamps 0 = front-of stamps more 0 (omega (arith, few)) in
    let here : slice_index new i ≡ slice_index stamps i = front-of stamps more i few in
    record {
      reads = o.reads;
      due = subst (λ t. AreDue m n (anchor_of m (slice_index new 0)) gapped (whole t) o.reads) (sym here)
          (subst (λ f. AreDue m n (anchor_of m f) gapped (whole (slice_index stamps i)) o.reads) (sym first) o.due);
      is = o.is;
    }

late-after : (m : Media) (n : ℕ) (stamps more : List ℕ) (gapped : Bool) (i : ℕ) → i < length stamps
    → is_late m n (stamps ++ more) gapped i ≡ is_late m n stamps gapped i
late-after m n stamps more gapped i few =
    let new = stamps ++ more in
    ap (λ a. below (read_of m n (anchor_of m a) gapped i) (whole (slice_index new i))) (front-of stamps more 0 (omega (arith, few)))
    ∙ ap (λ t. below (read_of m n (anchor_of m (slice_index stamps 0)) gapped i) (whole t)) (front-of stamps more i few)

held-after : (m : Media) (n : ℕ) (stamps more : List ℕ) (gapped : Bool) (i : ℕ) → i < length stamps
    → held_at m n (stamps ++ more) gapped i ≡ held_at m n stamps gapped i
held-after m n stamps more gapped i few =
    let new = stamps ++ more in
    ap (λ a. (i + 1) - due_among m n (anchor_of m a) gapped (i + 1) (whole (slice_index new i))) (front-of stamps more 0 (omega (arith, few)))
    ∙ ap (λ t. (i + 1) - due_among m n (anchor_of m (slice_index stamps 0)) gapped (i + 1) (whole t)) (front-of stamps more i few)

pub broken-after : (m : Media) (n : ℕ) (stamps more : List ℕ) (kind : Kind) (i : ℕ) → i < length stamps
    → is_broken m n (stamps ++ more) kind i ≡ is_broken m n stamps kind i
broken-after m n stamps more kind i few =
    let all = stamps ++ more in
    ap (λ b. (nat_lt (c_max_of m n kind) b || is_over m n all kind i) || is_empty m n all kind i) (bucket-after m n stamps more i few)
    ∙ ap (λ h. (nat_lt (c_max_of m n kind) (bucket_of m n stamps i) || nat_lt (vrx_full_of m n kind) h) || is_empty m n all kind i)
    (held-after m n stamps more (gapped_of kind) i few)
    ∙ ap (λ e. (nat_lt (c_max_of m n kind) (bucket_of m n stamps i) || is_over m n stamps kind i) || e) (late-after m n stamps more (gapped_of kind) i few)

-- ---- packets

-- the range over packets that came is the same with more packets
range-after : (m : Media) (n : ℕ) (stamps more : List ℕ) (gapped : Bool) (from to : ℕ) (x : BufferRange) → IsMedia m → 1 ≤ n → from ≤ to
    → to ≤ length stamps → IsRange m n stamps gapped from to x → IsRange m n (stamps ++ more) gapped from to x
range-after m n stamps more gapped from to x is some order within h =
    let new = stamps ++ more in
    let at = occupancies m n new gapped is some in
    let long : length new ≡ length stamps + length more = length-append stamps more in
    let same : (i : ℕ) → IsBetween from to i → at.0 i ≡ h.occupancy i =
    λ i of.
    let few : i < length stamps = omega (arith, of.before, within) in
    let there : i < length new = omega (arith, few, long) in
    occupancy-once m n new gapped i (at.0 i) (h.occupancy i) (at.1 i there)
    (occupancy-after m n stamps more gapped i (h.occupancy i) few (h.are i few))
    in
    record {
      occupancy = at.0;
      are = at.1;
      least_is = IsLeast-same h.occupancy at.0 (IsBetween from to) x.least same h.least_is;
      greatest_is = IsGreatest-same h.occupancy at.0 (IsBetween from to) x.greatest same h.greatest_is;
      late_is = h.late_is
          ∙ sym
          (count_of-same (λ j. is_late m n stamps gapped (from + j)) (λ j. is_late m n new gapped (from + j)) (to - from)
          (λ j few. late-after m n stamps more gapped (from + j) (omega (arith, few, within, order))));
    }

-- so are the peaks
pub peaks-after : (m : Media) (n : ℕ) (stamps more : List ℕ) (from to : ℕ) (x : Peaks) → IsMedia m → 1 ≤ n → from ≤ to → to ≤ length stamps
    → ArePeaks m n stamps from to x → ArePeaks m n (stamps ++ more) from to x
peaks-after m n stamps more from to x is some order within h =
    let new = stamps ++ more in
    let same : (i : ℕ) → IsBetween from to i → buckets_of m n new i ≡ buckets_of m n stamps i =
    λ i of. ap pos (bucket-after m n stamps more i (omega (arith, of.before, within)))
    in
    record {
      bucket_is = IsGreatest-same (buckets_of m n stamps) (buckets_of m n new) (IsBetween from to) (pos x.bucket) same h.bucket_is;
      gapped_are = range-after m n stamps more true from to x.gapped is some order within h.gapped_are;
      linear_are = range-after m n stamps more false from to x.linear is some order within h.linear_are;
    }

-- ---- frames or fields

-- a frame or field that is complete has a broken packet, or none, whatever follows
any-same : (test other : ℕ → Bool) (count : ℕ) → ((j : ℕ) → j < count → other j ≡ test j) → any_of other count ≡ any_of test count
any-same test other zero same = refl
any-same test other (suc i) same =
    ap (λ x. x || other i) (any-same test other i (λ j few. same j (omega (arith, few)))) ∙ ap (λ x. any_of test i || x) (same i (omega arith))

groups-after : (m : Media) (n : ℕ) (stamps more : List ℕ) (kind : Kind) (groups : ℕ) → groups * n ≤ length stamps
    → broken_groups n (is_broken m n (stamps ++ more) kind) groups ≡ broken_groups n (is_broken m n stamps kind) groups
groups-after m n stamps more kind groups within =
    count_of-same (group_breaks n (is_broken m n stamps kind)) (group_breaks n (is_broken m n (stamps ++ more) kind)) groups
    (λ k low.
    let end : suc k * n ≤ groups * n = mul-le-mul_right n low in
    any-same (λ j. is_broken m n stamps kind (k * n + j)) (λ j. is_broken m n (stamps ++ more) kind (k * n + j)) n
    (λ j few. broken-after m n stamps more kind (k * n + j) (omega (arith, few, end, suc-mul k n, within))))

types-after : (m : Media) (n : ℕ) (stamps more : List ℕ) (groups : ℕ) → groups * n ≤ length stamps
    → broken_of_types m n (stamps ++ more) groups ≡ broken_of_types m n stamps groups
types-after m n stamps more groups within =
    let narrow = groups-after m n stamps more N groups within in
    let narrow_linear = groups-after m n stamps more NL groups within in
    let wide = groups-after m n stamps more W groups within in
    λ i. record { narrow = narrow i; narrow_linear = narrow_linear i; wide = wide i }

-- a stretch is the same with more packets
pub stretch-after : (m : Media) (number n : ℕ) (stamps more : List ℕ) (from to : ℕ) (s : Stretch) → IsMedia m → 1 ≤ n → from < to
    → to * n ≤ length stamps → IsStretch m number n stamps from to s → IsStretch m number n (stamps ++ more) from to s
stretch-after m number n stamps more from to s is some order within h =
    let first : from * n ≤ to * n = mul-le-mul_right n (omega (arith, order)) in
    let one : suc from * n ≤ to * n = mul-le-mul_right n order in
    let last : to * n - 1 < length stamps = omega (arith, one, suc-mul from n, some, within) in
    record {
      run = h.run;
      from_is = h.from_is;
      to_is = h.to_is;
      stamp = h.stamp ∙ sym (front-of stamps more (to * n - 1) last);
      c_max = h.c_max;
      peaks_are = peaks-after m n stamps more (from * n) (to * n) s.peaks is some first within h.peaks_are;
      broken = h.broken ∙ sym (types-after m n stamps more to within);
    }
