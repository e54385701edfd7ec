-- The drawing of a judged run: the columns of its judged packets and of its frames or fields, and those around its
-- violations. Packets, frames and fields count from 0. `stamps` has the capture timestamp of each packet in nanoseconds
-- of TAI, `timestamps` its RTP timestamp in ticks of 90 kHz, and n is the number of packets per frame or field. The two
-- models are those of SMPTE ST 2110-21, and the media clock is that of ST 2110-10. The choice of columns is this
-- project's own.
use Rattle.std.specs.Prelude.{◌≡◌, ◌+◌, ◌-◌, min, ℕ, ℤ, ⊤, List, [], ◌∷◌, length, slice_index, true, false}
use Rattle.timing_base.specs.Media.{Media}
use Rattle.timing_base.specs.declared.fail.Broken.{Broken}
use Rattle.timing_base.specs.declared.fail.Broken.TheVariants.{Bucket, Over, Empty}
use Rattle.timing_base.specs.declared.fail.FailProof.{FailProof}
use Rattle.timing_base.specs.declared.media.Kind.{Kind}
use Rattle.timing_base.specs.declared.row.KindVerdict.{KindVerdict}
use Rattle.timing_base.specs.declared.row.KindVerdict.TheVariants.{Pass, Fail}
use Rattle.sender_params.specs.Limits.{gapped_of}
use Rattle.flow_measure.specs.Columns.{AreCurve, AreEye}
use Rattle.flow_measure.specs.Groups.{firsts_of, lasts_of, latency_at, offset_at, since_at}
use Rattle.flow_measure.specs.Metered.{AreBuckets}
use Rattle.flow_measure.specs.Occupancy.{AreOccupancies, buckets_of}
use Rattle.flow_measure.specs.Run.{anchor_in}
use Rattle.flow_measure.specs.declared.columns.Extremes.{Extremes}
use Rattle.flow_page.specs.Shown.{kind_at}
use Rattle.flow_page.specs.declared.shown.Curves.{Curves}
use Rattle.flow_page.specs.declared.shown.Region.{Region}

-- the columns of one level just after each packet: over all packets, and with all frames or fields overlaid
pub record AreLevels (n packets : ℕ) (level : ℕ → ℤ) (curve eye : List Extremes) : Type 0 where
  pub curve_is : AreCurve 1000 level packets curve
  pub eye_is : AreEye n 500 level packets eye

-- the columns of a run of `groups` frames or fields; its judged packets have these capture timestamps and RTP
-- timestamps
pub record AreCurves (m : Media) (n groups : ℕ) (stamps timestamps : List ℕ) (c : Curves) : Type 0 where
  -- the occupancy of the buffer just after each packet, by gapped and by linear reads
  pub gapped_at : ℕ → ℤ
  pub linear_at : ℕ → ℤ
  pub gapped_are : AreOccupancies m n stamps true gapped_at
  pub linear_are : AreOccupancies m n stamps false linear_at
  pub bucket : AreLevels n (length stamps) (buckets_of m n stamps) c.bucket c.bucket_eye
  pub gapped : AreLevels n (length stamps) gapped_at c.gapped c.gapped_eye
  pub linear : AreLevels n (length stamps) linear_at c.linear c.linear_eye
  -- the first and the last packet of each frame or field against the instant at which it begins
  pub first : AreCurve 1000 (since_at m (anchor_in m stamps) (firsts_of n (slice_index stamps))) groups c.first
  pub drift : AreCurve 8 (since_at m (anchor_in m stamps) (firsts_of n (slice_index stamps))) groups c.drift
  pub last : AreCurve 1000 (since_at m (anchor_in m stamps) (lasts_of n (slice_index stamps))) groups c.last
  -- the RTP timestamp of each frame or field against the media clock at that instant, and against its first packet
  pub offset : AreCurve 1000 (offset_at m (anchor_in m stamps) (firsts_of n (slice_index timestamps))) groups c.offset
  pub latency : AreCurve 1000 (latency_at (firsts_of n (slice_index stamps)) (firsts_of n (slice_index timestamps)))
      groups c.latency

-- the level that a model limits, just after each packet: the bucket, or the buffer by the reads of this type
abbrev pub IsHeld : Media → ℕ → List ℕ → Kind → Broken → (level : ℕ → ℤ) → Type 0
IsHeld m n stamps kind Bucket level = AreBuckets m n stamps level
IsHeld m n stamps kind Over level = AreOccupancies m n stamps (gapped_of kind) level
IsHeld m n stamps kind Empty level = AreOccupancies m n stamps (gapped_of kind) level

-- the first of the 400 packets in the picture around a violation; fifty of them follow the violation
abbrev pub start_around : FailProof → ℕ
start_around proof = proof.to - 349

-- the count of packets in the picture: 400, or fewer at the start or the end of a run
abbrev pub count_around : FailProof → (packets : ℕ) → ℕ
count_around proof packets = min (proof.to + 51) packets - start_around proof

-- the columns around this violation of a type, of the level that breaks its limit
pub record IsRegion (m : Media) (n : ℕ) (stamps : List ℕ) (kind : Kind) (proof : FailProof) (r : Region) : Type 0 where
  pub kind_is : r.kind ≡ kind
  pub proof_is : r.proof ≡ proof
  pub start_is : r.start ≡ start_around proof
  pub count_is : r.count ≡ count_around proof (length stamps)
  pub level : ℕ → ℤ
  pub held : IsHeld m n stamps kind proof.model level
  pub columns : AreCurve 400 (λ i. level (start_around proof + i)) (count_around proof (length stamps)) r.columns

-- one region for each type that fails; the verdicts are those on the types from a place of N, NL and W on
abbrev pub AreRegions : Media → ℕ → List ℕ → (place : ℕ) → List KindVerdict → List Region → Type 0
AreRegions m n stamps place [] [] = ⊤
AreRegions m n stamps place [] (r ∷ rs) = ⊥
AreRegions m n stamps place (Pass ∷ verdicts) rs = AreRegions m n stamps (place + 1) verdicts rs
AreRegions m n stamps place (Fail proof ∷ verdicts) [] = ⊥
AreRegions m n stamps place (Fail proof ∷ verdicts) (r ∷ rs) =
    IsRegion m n stamps (kind_at place) proof r × AreRegions m n stamps (place + 1) verdicts rs
