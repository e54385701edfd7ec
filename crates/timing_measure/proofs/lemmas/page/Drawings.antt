-- What is drawn of a judged run is one.
use Rattle.std.proofs.Common.{◌≡◌, ◌<◌, ◌+◌, ◌/◌, ◌%◌, ℕ, ℤ, Bool, true, false, List, [], ◌∷◌, length, slice_index, refl, ap₂, ◌∙◌, sym, arith}
use Rattle.timing_base.specs.Media.{Media}
use Rattle.timing_base.specs.declared.fail.Broken.{Broken}
use Rattle.timing_base.specs.declared.fail.Broken.TheVariants.{Bucket, Empty, Over}
use Rattle.timing_base.specs.declared.fail.FailProof.{FailProof}
use Rattle.timing_base.specs.declared.media.Kind.{Kind}
use Rattle.timing_base.specs.declared.row.KindVerdict.{KindVerdict}
use Rattle.timing_base.specs.declared.row.KindVerdict.TheVariants.{Fail, Pass}
use Rattle.sender_params.specs.Limits.{gapped_of}
use Rattle.flow_measure.specs.Columns.{AreColumns, column_at, places_in, strip_of, width_of}
use Rattle.flow_measure.specs.Groups.{firsts_of, lasts_of, latency_at, offset_at, since_at}
use Rattle.flow_measure.specs.Occupancy.{AreOccupancies, buckets_of}
use Rattle.flow_measure.specs.Run.{anchor_in}
use Rattle.flow_measure.specs.declared.columns.Extremes.{Extremes}
use Rattle.flow_measure.proofs.Bounds.{IsGreatest-same, IsLeast-same}
use Rattle.flow_measure.proofs.Passes.{occupancy-once}
use Rattle.flow_measure.proofs.Unique.{columns-once}
use Rattle.flow_page.specs.drawing.Drawn.{AreCurves, AreLevels, AreRegions, IsHeld, IsRegion, count_around, start_around}
use Rattle.flow_page.specs.Shown.{kind_at}
use Rattle.flow_page.specs.declared.shown.Curves.{Curves}
use Rattle.flow_page.specs.declared.shown.Region.{Region}

-- the first so many numbers are the same
abbrev Agree : (count : ℕ) → (numbers others : ℕ → ℤ) → Type 0
Agree count numbers others = (i : ℕ) → i < count → others i ≡ numbers i

-- such numbers have the same columns
columns-same : (column_of : ℕ → ℕ) (numbers others : ℕ → ℤ) (count : ℕ) (columns : List Extremes) → Agree count numbers others
    → AreColumns column_of numbers count columns → AreColumns column_of others count columns
columns-same column_of numbers others count columns same h = record {
  within = h.within;
  each = λ c few. record {
    least = IsLeast-same numbers others (places_in column_of count c) (column_at columns c).least (λ i p. same i p.0) (h.each c few).least;
    greatest = IsGreatest-same numbers others (places_in column_of count c) (column_at columns c).greatest (λ i p. same i p.0) (h.each c few).greatest;
  };
}

agree-once : (column_of : ℕ → ℕ) (numbers others : ℕ → ℤ) (count : ℕ) (columns other : List Extremes) → Agree count numbers others
    → AreColumns column_of numbers count columns → AreColumns column_of others count other → columns ≡ other
agree-once column_of numbers others count columns other same h k =
    columns-once column_of others count columns other (columns-same column_of numbers others count columns same h) k

-- columns of the same levels
levels-once : (n packets : ℕ) (level other : ℕ → ℤ) (curve eye curve_too eye_too : List Extremes) → Agree packets level other
    → AreLevels n packets level curve eye → AreLevels n packets other curve_too eye_too → (curve ≡ curve_too) × (eye ≡ eye_too)
levels-once n packets level other curve eye curve_too eye_too same h k = (
  agree-once (λ i. i / width_of packets 1000) level other packets curve curve_too same h.curve_is k.curve_is,
  agree-once (λ i. (i % n) / strip_of n 500) level other packets eye eye_too same h.eye_is k.eye_is,
)

occupancies-agree : (m : Media) (n : ℕ) (stamps : List ℕ) (gapped : Bool) (level other : ℕ → ℤ) → AreOccupancies m n stamps gapped level
    → AreOccupancies m n stamps gapped other → Agree (length stamps) level other
occupancies-agree m n stamps gapped level other h k = λ i few. occupancy-once m n stamps gapped i (other i) (level i) (k i few) (h i few)

-- a run has one set of curves
pub curves-once : (m : Media) (n groups : ℕ) (stamps timestamps : List ℕ) (c d : Curves) → AreCurves m n groups stamps timestamps c
    → AreCurves m n groups stamps timestamps d → c ≡ d
curves-once m n groups stamps timestamps c d h k =
    let count = length stamps in
    let stamp = slice_index stamps in
    let ticks = slice_index timestamps in
    let anchor = anchor_in m stamps in
    let same = occupancies-agree m n stamps true h.gapped_at k.gapped_at h.gapped_are k.gapped_are in
    let linear_same = occupancies-agree m n stamps false h.linear_at k.linear_at h.linear_are k.linear_are in
    let bucket =
    levels-once n count (buckets_of m n stamps) (buckets_of m n stamps) c.bucket c.bucket_eye d.bucket d.bucket_eye (λ i few. refl) h.bucket k.bucket in
    let gapped = levels-once n count h.gapped_at k.gapped_at c.gapped c.gapped_eye d.gapped d.gapped_eye same h.gapped k.gapped in
    let linear = levels-once n count h.linear_at k.linear_at c.linear c.linear_eye d.linear d.linear_eye linear_same h.linear k.linear in
    let across : ℕ → ℕ = λ i. i / width_of groups 1000 in
    let first = columns-once across (since_at m anchor (firsts_of n stamp)) groups c.first d.first h.first k.first in
    let drift = columns-once (λ i. i / width_of groups 8) (since_at m anchor (firsts_of n stamp)) groups c.drift d.drift h.drift k.drift in
    let last = columns-once across (since_at m anchor (lasts_of n stamp)) groups c.last d.last h.last k.last in
    let offset = columns-once across (offset_at m anchor (firsts_of n ticks)) groups c.offset d.offset h.offset k.offset in
    let latency = columns-once across (latency_at (firsts_of n stamp) (firsts_of n ticks)) groups c.latency d.latency h.latency k.latency in
    λ i. record {
      bucket = bucket.0 i;
      gapped = gapped.0 i;
      linear = linear.0 i;
      bucket_eye = bucket.1 i;
      gapped_eye = gapped.1 i;
      linear_eye = linear.1 i;
      first = first i;
      drift = drift i;
      last = last i;
      offset = offset i;
      latency = latency i;
    }

-- so is what a model is about
held-agree : (m : Media) (n : ℕ) (stamps : List ℕ) (kind : Kind) (model : Broken) (level other : ℕ → ℤ) → IsHeld m n stamps kind model level
    → IsHeld m n stamps kind model other → Agree (length stamps) level other
held-agree m n stamps kind Bucket level other h k = λ i few. k i few ∙ sym (h i few)
held-agree m n stamps kind Over level other h k = occupancies-agree m n stamps (gapped_of kind) level other h k
held-agree m n stamps kind Empty level other h k = occupancies-agree m n stamps (gapped_of kind) level other h k

-- a fail has one region
region-once : (m : Media) (n : ℕ) (stamps : List ℕ) (kind : Kind) (proof : FailProof) (r s : Region) → IsRegion m n stamps kind proof r
    → IsRegion m n stamps kind proof s → r ≡ s
region-once m n stamps kind proof r s h k =
    let from = start_around proof in
    let long = count_around proof (length stamps) in
    let same = held-agree m n stamps kind proof.model h.level k.level h.held k.held in
    let columns =
    agree-once (λ i. i / width_of long 400) (λ i. h.level (from + i)) (λ i. k.level (from + i)) long r.columns s.columns
    (λ i few. same (from + i) (omega (arith, few))) h.columns k.columns in
    let type = h.kind_is ∙ sym k.kind_is in
    let fail = h.proof_is ∙ sym k.proof_is in
    let start = h.start_is ∙ sym k.start_is in
    let count = h.count_is ∙ sym k.count_is in
    λ i. record { kind = type i; proof = fail i; start = start i; count = count i; columns = columns i }

pub regions-once : (m : Media) (n : ℕ) (stamps : List ℕ) (place : ℕ) (kinds : List KindVerdict) (rs ss : List Region)
    → AreRegions m n stamps place kinds rs → AreRegions m n stamps place kinds ss → rs ≡ ss
regions-once m n stamps place [] [] [] h k = refl
regions-once m n stamps place [] [] (s ∷ ss) h k = absurd k
regions-once m n stamps place [] (r ∷ rs) ss h k = absurd h
regions-once m n stamps place (Pass ∷ kinds) rs ss h k = regions-once m n stamps (place + 1) kinds rs ss h k
regions-once m n stamps place (Fail proof ∷ kinds) [] ss h k = absurd h
regions-once m n stamps place (Fail proof ∷ kinds) (r ∷ rs) [] h k = absurd k
regions-once m n stamps place (Fail proof ∷ kinds) (r ∷ rs) (s ∷ ss) h k =
    ap₂ (λ a l. a ∷ l) (region-once m n stamps (kind_at place) proof r s h.0 k.0) (regions-once m n stamps (place + 1) kinds rs ss h.1 k.1)
