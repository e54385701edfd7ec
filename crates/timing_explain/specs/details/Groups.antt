-- The state of the times of frames or fields. `stamp` has the capture timestamp of each packet in nanoseconds of TAI,
-- and n is the number of packets per frame or field.
use Rattle.std.specs.Prelude.{◌≡◌, ℕ, Bool, true, false}
use Rattle.timing_base.specs.Media.{Media}
use Rattle.sender_params.specs.Reads.{anchor_of}
use Rattle.flow_measure.specs.Groups.{firsts_of, since_at}
use Rattle.flow_measure.specs.Stands.{DrawsCurve}
use Rattle.flow_findings.specs.Details.{greatest_of, span_at}
use Rattle.timing_explain.specs.declared.details.groups.GroupTimes.{GroupTimes}

-- the times are those of the complete frames or fields
pub record TimesGroups (m : Media) (n : ℕ) (t : GroupTimes) (stamp : ℕ → ℕ) : Type 0 where
  pub span_is : t.span ≡ greatest_of (span_at n stamp) t.firsts.seen
  pub firsts_draw : DrawsCurve (λ x. x) t.firsts (since_at m t.n0 (firsts_of n stamp))

-- the state before and after a frame or field begins with a packet at `at`, which may be the run's first. That packet
-- belongs to the nearest frame or field of the grid from the epoch
pub record Begins (m : Media) (at : ℕ) (is_first : Bool) (old new : GroupTimes) : Type 0 where
  pub first : is_first ≡ true → new.first_at ≡ at
  pub anchor : is_first ≡ true → new.n0 ≡ anchor_of m at
  pub later : is_first ≡ false → new.first_at ≡ old.first_at
  pub same : is_first ≡ false → new.n0 ≡ old.n0
  pub group_is : new.group_at ≡ at
  pub span_is : new.span ≡ old.span
  pub firsts_are : new.firsts ≡ old.firsts
