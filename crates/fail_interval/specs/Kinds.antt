-- The state of a `KindMeter` after judged packets of a run.
use Rattle.std.specs.Prelude.{◌≡◌, ◌≤◌, ℕ, List, [], ◌∷◌, ◌++◌, slice_index}
use Rattle.drain_bucket.specs.Stands.{StandsFor as BucketStandsFor}
use Rattle.drain_bucket.specs.declared.bucket.Bucket.{Bucket}
use Rattle.read_schedule.specs.Stands.{IsDueAt}
use Rattle.read_schedule.specs.declared.schedule.Due.{Due}
use Rattle.sender_params.specs.Limits.{c_max_of, gapped_of}
use Rattle.sender_params.specs.Reads.{anchor_of}
use Rattle.sender_params.specs.Ticks.{NeverFall}
use Rattle.sender_params.specs.declared.params.Params.{Params}
use Rattle.timing_base.specs.declared.media.Kind.{Kind}
use Rattle.timing_base.specs.declared.row.KindVerdict.TheVariants.{Pass}
use Rattle.vrx_buffer.specs.Quiet.{IsQuiet}
use Rattle.vrx_buffer.specs.Stands.{StandsFor as VrxStandsFor}
use Rattle.fail_interval.specs.Fails.{kind_verdict}
use Rattle.fail_interval.specs.declared.kind.KindMeter.{KindMeter}

-- the meter was fed exactly packets with these capture timestamps
pub record StandsFor (params : Params) (meter : KindMeter) (stamps : List ℕ) : Type 0 where
  pub vrx : VrxStandsFor params meter.vrx stamps
  pub verdict : meter.verdict ≡ kind_verdict params.media params.n stamps meter.vrx.kind
  pub c_max : meter.c_max ≡ c_max_of params.media params.n meter.vrx.kind

-- the next packet comes at this instant; `bucket` is the bucket after it, and `due` what is due by this type's schedule
pub record ComesNext (params : Params) (bucket : Bucket) (due : Due) (kind : Kind) (stamps : List ℕ)
    (at : ℕ) : Type 0 where
  pub ordered : NeverFall (stamps ++ at ∷ [])
  pub bucket_is : BucketStandsFor params bucket (stamps ++ at ∷ [])
  pub due_is : IsDueAt params.media params.n (anchor_of params.media (slice_index (stamps ++ at ∷ []) 0))
      (gapped_of kind) at due

-- the next packet comes at this instant, `bucket` is the bucket after it, and it changes neither peak nor verdict
pub record PassesBy (params : Params) (bucket : Bucket) (meter : KindMeter) (stamps : List ℕ) (at : ℕ) : Type 0 where
  pub ordered : NeverFall (stamps ++ at ∷ [])
  pub bucket_is : BucketStandsFor params bucket (stamps ++ at ∷ [])
  pub within : meter.verdict ≡ Pass → bucket.count ≤ meter.c_max
  pub quiet : IsQuiet params meter.vrx stamps at
