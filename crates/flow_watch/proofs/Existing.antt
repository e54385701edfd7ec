-- Complete frames or fields of a run are a stretch, which has a line.
use Rattle.std.specs.Prelude.{◌≤ℤ◌, cond, slice_index}
use Rattle.std.proofs.Common.{◌≡◌, ◌<◌, ◌≤◌, ◌-◌, ◌+◌, ◌*◌, ◌/◌, ℕ, ℤ, zero, suc, pos, Bool, true, false, List, length, Option, Some, None}
use Rattle.std.proofs.Common.{◌∙◌, ap, sym, subst, refl, arith}
use Rattle.std.proofs.Math.Nat.{div-zero, mul-le-mul_right, suc-mul}
use Rattle.std.proofs.lemmas.Nat.{div-add-mod'}
use Rattle.timing_base.specs.Media.{IsMedia, Media}
use Rattle.timing_base.specs.Shifts.{Shift}
use Rattle.drain_bucket.specs.Word.{bucket_of}
use Rattle.run_meter.specs.Runs.{stamps_of}
use Rattle.sender_params.specs.Times.{groups_of}
use Rattle.vrx_buffer.specs.Occupancy.{is_late}
use Rattle.flow_measure.specs.Counts.{count_of}
use Rattle.flow_measure.specs.Occupancy.{buckets_of}
use Rattle.flow_measure.specs.Summary.{IsGreatest, IsLeast}
use Rattle.flow_measure.proofs.Existing.{summary-some}
use Rattle.flow_measure.proofs.Packets.{occupancies}
use Rattle.flow_measure.proofs.Widths.{ceil-some}
use Rattle.flow_watch.specs.Lines.{stretch_line}
use Rattle.flow_watch.specs.Stretches.{ArePeaks, IsBetween, IsRange, IsStretch, broken_of_types, c_max_of_types}
use Rattle.flow_watch.specs.Watched.{HasLine, IsLeft, IsLeftLine, RunPart, groups_in, left_line, left_of, per_second}
use Rattle.flow_watch.specs.declared.form.LineForm.{LineForm}
use Rattle.flow_watch.specs.declared.peaks.BufferRange.{BufferRange}
use Rattle.flow_watch.specs.declared.peaks.Peaks.{Peaks}
use Rattle.flow_watch.specs.declared.stretch.Stretch.{Stretch}

-- a video has a frame or field in each second
some-groups : (interlaced : Bool) (p : ℕ) → 1 ≤ p → 1 ≤ cond interlaced 2 1 * p
some-groups true p some = omega (arith, some)
some-groups false p some = omega (arith, some)

pub some-per_second : (m : Media) → IsMedia m → 1 ≤ per_second m
some-per_second m is = ceil-some (groups_of m * m.p) m.q (some-groups m.interlaced m.p is.p_some) is.q_some

-- numbers from one place on have a least and a greatest one
abbrev on_from : (ℕ → ℤ) → (from : ℕ) → ℕ → ℤ
on_from numbers from j = numbers (from + j)

least-between : (numbers : ℕ → ℤ) (from to : ℕ) (x : ℤ) → IsLeast (on_from numbers from) (λ j. j < to - from) x → IsLeast numbers (IsBetween from to) x
least-between numbers from to x h =
    let r = h.reached in
    record {
      least = λ i of.
          let e : from + (i - from) ≡ i = omega (arith, of.after) in
          subst (λ j. x ≤ℤ numbers j) e (h.least (i - from) (omega (arith, of.after, of.before)));
      reached = (from + r.0, record { after = omega arith; before = omega (arith, r.1) }, r.2);
    }

greatest-between : (numbers : ℕ → ℤ) (from to : ℕ) (x : ℤ) → IsGreatest (on_from numbers from) (λ j. j < to - from) x
    → IsGreatest numbers (IsBetween from to) x
greatest-between numbers from to x h =
    let r = h.reached in
    record {
      greatest = λ i of.
          let e : from + (i - from) ≡ i = omega (arith, of.after) in
          subst (λ j. numbers j ≤ℤ x) e (h.greatest (i - from) (omega (arith, of.after, of.before)));
      reached = (from + r.0, record { after = omega arith; before = omega (arith, r.1) }, r.2);
    }

-- packets have a range
some-range : (m : Media) (n : ℕ) (stamps : List ℕ) (gapped : Bool) (from to : ℕ) → IsMedia m → 1 ≤ n → from < to
    → (x : BufferRange) × IsRange m n stamps gapped from to x
some-range m n stamps gapped from to is some order =
    let at = occupancies m n stamps gapped is some in
    let s = summary-some (on_from at.0 from) (to - from) (omega (arith, order)) in (
      record {
        least = s.0.least;
        greatest = s.0.greatest;
        late = count_of (λ j. is_late m n stamps gapped (from + j)) (to - from);
      },
      record {
        occupancy = at.0;
        are = at.1;
        least_is = least-between at.0 from to s.0.least s.1.least;
        greatest_is = greatest-between at.0 from to s.0.greatest s.1.greatest;
        late_is = refl;
      },
    )

some-bucket : (m : Media) (n : ℕ) (stamps : List ℕ) (from to : ℕ) → from < to → (x : ℕ) × IsGreatest (buckets_of m n stamps) (IsBetween from to) (pos x)
some-bucket m n stamps from to order =
    let s = summary-some (on_from (buckets_of m n stamps) from) (to - from) (omega (arith, order)) in
    let g = greatest-between (buckets_of m n stamps) from to s.0.greatest s.1.greatest in
    let r = g.reached in
    (bucket_of m n stamps r.0, subst (IsGreatest (buckets_of m n stamps) (IsBetween from to)) (sym r.2) g)

-- so have they peaks
some-peaks : (m : Media) (n : ℕ) (stamps : List ℕ) (from to : ℕ) → IsMedia m → 1 ≤ n → from < to → (x : Peaks) × ArePeaks m n stamps from to x
some-peaks m n stamps from to is some order =
    let bucket = some-bucket m n stamps from to order in
    let gapped = some-range m n stamps true from to is some order in
    let linear = some-range m n stamps false from to is some order in (
      record { bucket = bucket.0; gapped = gapped.0; linear = linear.0 },
      record { bucket_is = bucket.1; gapped_are = gapped.1; linear_are = linear.1 },
    )

-- the packets of frames or fields, of which there is one at least
packets-between : (n from to : ℕ) → 1 ≤ n → from < to → from * n < to * n
packets-between n from to some order =
    let most : suc from * n ≤ to * n = mul-le-mul_right n order in
    omega (arith, suc-mul from n, most, some)

-- frames or fields are a stretch
some-stretch : (m : Media) (number n : ℕ) (stamps : List ℕ) (from to : ℕ) → IsMedia m → 1 ≤ n → from < to
    → (s : Stretch) × IsStretch m number n stamps from to s
some-stretch m number n stamps from to is some order =
    let peaks = some-peaks m n stamps (from * n) (to * n) is some (packets-between n from to some order) in (
      record {
        run = number;
        from = from + 1;
        to = to;
        stamp = slice_index stamps (to * n - 1);
        c_max = c_max_of_types m n;
        peaks = peaks.0;
        broken = broken_of_types m n stamps to;
      },
      record {
        run = refl;
        from_is = refl;
        to_is = refl;
        stamp = refl;
        c_max = refl;
        peaks_are = peaks.1;
        broken = refl;
      },
    )

-- a run with a complete frame or field has packets in each
some-packets : (part : RunPart) → 0 < groups_in part → 1 ≤ part.n
some-packets part whole = of-size part.n refl
  where
    of-size : (n : ℕ) → part.n ≡ n → 1 ≤ n
    of-size zero none =
        let no : groups_in part ≡ 0 = ap (λ k. length part.packets / k) none ∙ div-zero (length part.packets) in
        absurd (omega (arith, no, whole))
    of-size (suc n) is = omega arith

-- a stretch has a line
pub some-line : (form : LineForm) (m : Media) (shift : Shift) (part : RunPart) (from to : ℕ) → IsMedia m → from < to → to ≤ groups_in part
    → (text : List ℕ) × HasLine form m shift part from to text
some-line form m shift part from to is order few =
    let some = some-packets part (omega (arith, order, few)) in
    let s = some-stretch m part.number part.n (stamps_of shift part.packets) from to is some order in
    (stretch_line form s.0, record { stretch = s.0; is = s.1; text_is = refl })

-- so has what is left of one
some-left : (every : ℕ) (m : Media) (shift : Shift) (part : RunPart) → IsMedia m → (left : Option Stretch) × IsLeft every m shift part left
some-left every m shift part is = of-count (left_of every part) refl
  where
    of-count : (k : ℕ) → left_of every part ≡ k → (left : Option Stretch) × IsLeft every m shift part left
    of-count zero none = (None, none)
    of-count (suc k) e =
        let whole = div-add-mod' (groups_in part) every in
        let order : groups_in part - left_of every part < groups_in part = omega (arith, e, whole) in
        let some = some-packets part (omega (arith, order)) in
        let s = some-stretch m part.number part.n (stamps_of shift part.packets) (groups_in part - left_of every part) (groups_in part) is some order in
        (Some s.0, (omega (arith, e), s.1))

pub some-left-line : (form : LineForm) (every : ℕ) (m : Media) (shift : Shift) (part : RunPart) → IsMedia m
    → (text : List ℕ) × IsLeftLine form every m shift part text
some-left-line form every m shift part is =
    let left = some-left every m shift part is in
    (left_line form left.0, (left.0, left.1, refl))
