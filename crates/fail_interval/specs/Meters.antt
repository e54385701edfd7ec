-- The state of `RunMeters` after judged packets of a run.
use Rattle.std.specs.Prelude.{◌≡◌, ◌≤◌, ◌<◌, ◌^◌, ℕ, ◌-◌, true, false, List, [], ◌∷◌, ◌++◌, length, slice_index}
use Rattle.drain_bucket.specs.Stands.{StandsFor as BucketStandsFor}
use Rattle.drain_bucket.specs.declared.bucket.Bucket.{Bucket}
use Rattle.read_schedule.specs.Stands.{StandsBy}
use Rattle.sender_params.specs.Reads.{anchor_of}
use Rattle.sender_params.specs.declared.params.Params.{Params}
use Rattle.timing_base.specs.declared.media.Kind.TheVariants.{N, NL, W}
use Rattle.fail_interval.specs.Kinds.{StandsFor as KindStandsFor}
use Rattle.fail_interval.specs.Lulls.{IsLull}
use Rattle.fail_interval.specs.SoFar.{AreStamps}
use Rattle.fail_interval.specs.declared.meters.RunMeters.{RunMeters}

-- the last capture timestamp, or 0
abbrev pub last_stamp : List ℕ → ℕ
last_stamp stamps = slice_index stamps (length stamps - 1)

-- the meters were fed exactly packets with these capture timestamps; the quiet period may be any
pub record AreFed (params : Params) (meters : RunMeters) (stamps : List ℕ) : Type 0 where
  pub first : 1 ≤ length stamps → slice_index stamps 0 ≡ meters.bucket.origin
  pub bucket : BucketStandsFor params meters.bucket stamps
  pub gapped : StandsBy params.media params.n (anchor_of params.media meters.bucket.origin) true meters.gapped
      (last_stamp stamps)
  pub linear : StandsBy params.media params.n (anchor_of params.media meters.bucket.origin) false meters.linear
      (last_stamp stamps)
  pub narrow_kind : meters.narrow.vrx.kind ≡ N
  pub narrow : KindStandsFor params meters.narrow stamps
  pub narrow_linear_kind : meters.narrow_linear.vrx.kind ≡ NL
  pub narrow_linear : KindStandsFor params meters.narrow_linear stamps
  pub wide_kind : meters.wide.vrx.kind ≡ W
  pub wide : KindStandsFor params meters.wide stamps

-- the meters were fed exactly packets with these capture timestamps
pub record StandsFor (params : Params) (meters : RunMeters) (stamps : List ℕ) : Type 0 where
  pub fed : AreFed params meters stamps
  pub lull : IsLull params meters.bucket.origin (length stamps) meters.narrow meters.narrow_linear meters.wide
      meters.lull

-- the bucket took a packet that came at this instant, and the numbers are within the limits
pub record IsWithin (bucket : Bucket) (at : ℕ) : Type 0 where
  pub in_time : at < 2 ^ 62
  pub some : 1 ≤ bucket.seen
  pub few : bucket.seen ≤ 2 ^ 41

-- a packet at this instant may be the next one
pub record CanFollow (params : Params) (meters : RunMeters) (stamps : List ℕ) (at : ℕ) : Type 0 where
  pub stands : StandsFor params meters stamps
  pub first : length stamps ≡ 0 → at ≡ meters.bucket.origin
  pub fit : AreStamps (stamps ++ at ∷ [])

-- the meters with another bucket
abbrev pub with_bucket : RunMeters → Bucket → RunMeters
with_bucket meters bucket = record {
  bucket = bucket;
  gapped = meters.gapped;
  linear = meters.linear;
  narrow = meters.narrow;
  narrow_linear = meters.narrow_linear;
  wide = meters.wide;
  lull = meters.lull;
}

-- the meters took the packet at this instant; the bucket took it before
abbrev pub TakesNext : Params → (old new : RunMeters) → (at : ℕ) → Type 0
TakesNext params old new at = (before : Bucket) (stamps : List ℕ) → CanFollow params (with_bucket old before) stamps at
    → old.bucket.origin ≡ before.origin
    → BucketStandsFor params old.bucket (stamps ++ at ∷ [])
    → StandsFor params new (stamps ++ at ∷ [])
