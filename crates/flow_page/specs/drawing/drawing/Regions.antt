-- The state of a `RegionMeter` after the packets that it was fed, with their capture timestamps in nanoseconds of TAI.
use Rattle.std.specs.Prelude.{◌≡◌, ◌<◌, ◌≤◌, ◌+◌, ℕ, ℤ, List, [], ◌∷◌, ◌++◌, length}
use Rattle.timing_base.specs.Media.{Media}
use Rattle.timing_base.specs.declared.fail.Broken.{Broken}
use Rattle.timing_base.specs.declared.media.Kind.{Kind}
use Rattle.timing_base.specs.declared.media.Kind.TheVariants.{N, NL, W}
use Rattle.timing_base.specs.declared.row.KindVerdict.{KindVerdict}
use Rattle.timing_base.specs.declared.row.KindVerdict.TheVariants.{Pass, Fail}
use Rattle.sender_params.specs.Limits.{c_max_of, vrx_full_of}
use Rattle.run_meter.specs.Levels.{IsLevel}
use Rattle.run_meter.specs.Runs.{is_broken}
use Rattle.flow_measure.specs.First.{IsFirst}
use Rattle.flow_page.specs.declared.shown.Region.{Region}
use Rattle.flow_page.specs.drawing.Drawn.{IsRegion}
use Rattle.flow_page.specs.drawing.drawing.Held.{held_by}
use Rattle.flow_page.specs.drawing.drawing.Taken.{level_at, taken_of}
use Rattle.flow_page.specs.declared.drawing.region.RegionMeter.{RegionMeter}
use Rattle.flow_page.specs.declared.drawing.regions.RegionMeters.{RegionMeters}

-- the meter of this type was fed the packets with these capture timestamps
pub record DrawsRegion (m : Media) (n : ℕ) (kind : Kind) (r : RegionMeter) (stamps : List ℕ) : Type 0 where
  pub kind_is : r.bounds.kind ≡ kind
  pub c_max_is : r.bounds.c_max ≡ c_max_of m n kind
  pub full_is : r.bounds.vrx_full ≡ vrx_full_of m n kind
  pub first_is : IsFirst (is_broken m n stamps kind) (length stamps) r.first
  pub taken_is : r.taken ≡ taken_of r.first (length stamps)
  pub held : (i : ℕ) → i < r.taken → r.taken ≤ i + 400 → IsLevel m n stamps i (level_at r.ring.items i)

-- `numbers` gives the level that a model limits, at the packets from `start` to `end` - 1
abbrev pub ShowsFrom : RegionMeter → Broken → (start end : ℕ) → (numbers : ℕ → ℤ) → Type 0
ShowsFrom r model start end numbers = (j : ℕ) → start + j < end
    → numbers j ≡ held_by r.bounds.kind model (level_at r.ring.items (start + j))

-- the meters of all three types were fed the packets with these capture timestamps
pub record DrawsRegions (m : Media) (n : ℕ) (x : RegionMeters) (stamps : List ℕ) : Type 0 where
  pub narrow_draws : DrawsRegion m n N x.narrow stamps
  pub narrow_linear_draws : DrawsRegion m n NL x.narrow_linear stamps
  pub wide_draws : DrawsRegion m n W x.wide stamps

-- the region of this type is appended to those of the types before, if the type fails
abbrev pub PutsKind : Media → (n : ℕ) → (stamps : List ℕ) → Kind → KindVerdict → (old new : List Region) → Type 0
PutsKind m n stamps kind Pass old new = new ≡ old
PutsKind m n stamps kind (Fail proof) old new =
    (r : Region) × (new ≡ old ++ r ∷ []) × IsRegion m n stamps kind proof r
