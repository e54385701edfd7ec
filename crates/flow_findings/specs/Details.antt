-- What the findings on a judged run need beside its measurements, of the video m and with n packets per frame or field.
-- For each judged packet, counted from 0, `stamps` has the capture timestamp in nanoseconds of TAI, and `records` the
-- packet record, from 1. The bucket and C_MAX are those of SMPTE ST 2110-21. This project's profile: the choice of
-- numbers.
use Rattle.std.specs.Prelude.{◌≡◌, ◌-◌, ℕ, zero, suc, max, List, [], ◌∷◌, length, slice_index, Option}
use Rattle.timing_base.specs.Media.{Media}
use Rattle.timing_base.specs.declared.media.Kind.{Kind}
use Rattle.timing_base.specs.declared.media.Kind.TheVariants.{N, NL, W}
use Rattle.flow_measure.specs.Broken.{broken_groups}
use Rattle.flow_measure.specs.First.{IsFirst}
use Rattle.flow_measure.specs.Groups.{firsts_of, lasts_of, since_at}
use Rattle.flow_measure.specs.Kinds.{place_below}
use Rattle.flow_measure.specs.Run.{anchor_in, is_overfull}
use Rattle.flow_measure.specs.Slope.{IsSlope}
use Rattle.flow_findings.specs.declared.inputs.Overfull.{Overfull}
use Rattle.flow_findings.specs.declared.inputs.RunDetails.{RunDetails}

-- the time from the first packet of frame or field k to its last. As capture timestamps are whole numbers, it is also
-- the difference of these packets' times since the instant at which the frame or field begins, both rounded down
abbrev pub span_at : (n : ℕ) → (stamp : ℕ → ℕ) → (k : ℕ) → ℕ
span_at n stamp k = lasts_of n stamp k - firsts_of n stamp k

-- the greatest of the first `count` numbers; 0 of none
abbrev pub greatest_of : (ℕ → ℕ) → (count : ℕ) → ℕ
greatest_of numbers zero = 0
greatest_of numbers (suc k) = max (greatest_of numbers k) (numbers k)

-- the packets after which the bucket exceeds C_MAX of a type: how many frames or fields have one, and the place in the
-- capture of the first one
pub record IsOverfull (m : Media) (n groups : ℕ) (stamps records : List ℕ) (kind : Kind) (o : Overfull)
    : Type 0 where
  pub groups_are : o.groups ≡ broken_groups n (is_overfull m n stamps kind) groups
  pub first : Option ℕ
  pub first_is : IsFirst (is_overfull m n stamps kind) (length stamps) first
  pub place_is : o.first ≡ place_below (slice_index records) (slice_index stamps) (length stamps) first

-- the same for the types N, NL and W, in this order
abbrev pub AreOverfull : Media → (n groups : ℕ) → (stamps records : List ℕ) → List Overfull → Type 0
AreOverfull m n groups stamps records (narrow ∷ narrow_linear ∷ wide ∷ []) =
    IsOverfull m n groups stamps records N narrow
    × IsOverfull m n groups stamps records NL narrow_linear
    × IsOverfull m n groups stamps records W wide
AreOverfull m n groups stamps records _ = ⊥

-- the details of a run of `groups` frames or fields. The slope is that of the times from the instant at which each
-- frame or field begins to its first packet, from their curve in at most eight columns
pub record AreDetails (m : Media) (n groups : ℕ) (stamps records : List ℕ) (d : RunDetails) : Type 0 where
  pub overfull_are : AreOverfull m n groups stamps records d.overfull
  pub first_is : d.first_at ≡ slice_index stamps 0
  pub last_group_is : d.last_group_at ≡ firsts_of n (slice_index stamps) (groups - 1)
  pub span_is : d.span ≡ greatest_of (span_at n (slice_index stamps)) groups
  pub slope_is : IsSlope 8 (since_at m (anchor_in m stamps) (firsts_of n (slice_index stamps))) groups d.slope
