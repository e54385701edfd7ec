-- A quiet period (`Lull`) and the meters of a run.
use Rattle.std.specs.Prelude.{◌≡◌, ◌≤◌, ℕ, ◌-◌, None}
use Rattle.read_schedule.specs.Between.{Holds as HoldsBetween, IsFrom, IsUpTo}
use Rattle.read_schedule.specs.declared.between.Between.{Between}
use Rattle.sender_params.specs.Limits.{gapped_of}
use Rattle.sender_params.specs.Reads.{anchor_of}
use Rattle.sender_params.specs.declared.params.Params.{Params}
use Rattle.timing_base.specs.declared.row.KindVerdict.TheVariants.{Pass}
use Rattle.fail_interval.specs.declared.kind.KindMeter.{KindMeter}
use Rattle.fail_interval.specs.declared.lull.Lull.{Lull}

-- the quiet period holds for judged packet `number`, counted from 1, at this instant, if the bucket holds `count`
-- packets after it
pub record Holds (lull : Lull) (number count at : ℕ) : Type 0 where
  pub lasts : number ≤ lull.until
  pub within : count ≤ lull.brim
  pub gapped : HoldsBetween lull.gapped at
  pub linear : HoldsBetween lull.linear at

-- the next `left` packets after the first `seen` ones are quiet for one sender type, if they come at the instants b:
-- the buffer holds no more than its peak, and while it has no fault, each packet comes before its own read; while the
-- type passes, the threshold of the bucket is within C_MAX
pub record IsCalm (params : Params) (origin seen : ℕ) (meter : KindMeter) (left brim : ℕ) (b : Between) : Type 0 where
  pub within : meter.verdict ≡ Pass → brim ≤ meter.c_max
  pub due : IsFrom params.media params.n (anchor_of params.media origin) (gapped_of meter.vrx.kind)
      (seen - meter.vrx.peak) left b
  pub ahead : meter.vrx.fault ≡ None → IsUpTo params.media params.n (anchor_of params.media origin)
      (gapped_of meter.vrx.kind) seen left b

-- the quiet period is one for each sender type: narrow, narrow linear and wide
pub record IsLull (params : Params) (origin seen : ℕ) (first second third : KindMeter) (lull : Lull) : Type 0 where
  pub narrow : IsCalm params origin seen first (lull.until - seen) lull.brim lull.gapped
  pub narrow_linear : IsCalm params origin seen second (lull.until - seen) lull.brim lull.linear
  pub wide : IsCalm params origin seen third (lull.until - seen) lull.brim lull.linear
