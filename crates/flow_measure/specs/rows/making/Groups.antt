-- The changes of the row of a frame or field at each of its packets. n0 is the number of the run's first frame or
-- field, counted from the epoch.
use Rattle.std.specs.Prelude.{◌≡◌, ℕ, ℤ, max, Option, Some, None}
use Rattle.std.specs.Int.{int_max, int_min}
use Rattle.sender_params.specs.Reads.{anchor_of}
use Rattle.timing_base.specs.Media.{Media}
use Rattle.run_meter.specs.declared.level.Level.{Level}
use Rattle.flow_measure.specs.Frames.{after_start, timestamp_latency, timestamp_offset}
use Rattle.flow_measure.specs.declared.report.rows.GroupRow.{GroupRow}
use Rattle.flow_measure.specs.rows.Rows.{step_from}
use Rattle.flow_measure.specs.declared.rows.maker.Kept.{Kept}
use Rattle.flow_measure.specs.declared.rows.maker.RowMaker.{RowMaker}

-- the row begins with this packet
pub record BeginsRow (m : Media) (n0 : ℤ) (before : Option ℕ) (kept : Kept) (old new : GroupRow) : Type 0 where
  pub run : new.run ≡ old.run
  pub group : new.group ≡ old.group
  pub rec_is : new.rec ≡ kept.packet.rec
  pub stamp : new.stamp ≡ kept.packet.at
  pub first : new.first ≡ after_start m n0 old.group kept.packet.at
  pub timestamp_is : new.timestamp ≡ kept.packet.timestamp
  pub step : new.step ≡ step_from before kept.packet.timestamp
  pub offset : new.offset ≡ timestamp_offset m n0 old.group kept.packet.timestamp
  pub latency : new.latency ≡ timestamp_latency kept.packet.at kept.packet.timestamp
  pub bucket : new.bucket ≡ kept.level.bucket
  pub gapped_least : new.gapped_least ≡ kept.level.gapped.occupancy
  pub gapped : new.gapped ≡ kept.level.gapped.occupancy
  pub linear_least : new.linear_least ≡ kept.level.linear.occupancy
  pub linear : new.linear ≡ kept.level.linear.occupancy

-- everything except the levels is unchanged
pub record KeepsPlace (old new : GroupRow) : Type 0 where
  pub run : new.run ≡ old.run
  pub group : new.group ≡ old.group
  pub rec_is : new.rec ≡ old.rec
  pub stamp : new.stamp ≡ old.stamp
  pub first : new.first ≡ old.first
  pub timestamp_is : new.timestamp ≡ old.timestamp
  pub step : new.step ≡ old.step
  pub offset : new.offset ≡ old.offset
  pub latency : new.latency ≡ old.latency

-- the levels at another packet are added
pub record Widens (level : Level) (old new : GroupRow) : Type 0 where
  pub place : KeepsPlace old new
  pub bucket : new.bucket ≡ max old.bucket level.bucket
  pub gapped_least : new.gapped_least ≡ int_min old.gapped_least level.gapped.occupancy
  pub gapped : new.gapped ≡ int_max old.gapped level.gapped.occupancy
  pub linear_least : new.linear_least ≡ int_min old.linear_least level.linear.occupancy
  pub linear : new.linear ≡ int_max old.linear level.linear.occupancy

-- the row ends with a packet of this capture timestamp
pub record EndsRow (m : Media) (n0 : ℤ) (at : ℕ) (old new : GroupRow) : Type 0 where
  pub place : KeepsPlace old new
  pub last : new.last ≡ after_start m n0 old.group at
  pub bucket : new.bucket ≡ old.bucket
  pub gapped_least : new.gapped_least ≡ old.gapped_least
  pub gapped : new.gapped ≡ old.gapped
  pub linear_least : new.linear_least ≡ old.linear_least
  pub linear : new.linear ≡ old.linear

-- everything except the row is unchanged
pub record KeepsRest (old new : RowMaker) : Type 0 where
  pub n0_is : new.n0 ≡ old.n0
  pub before_is : new.before ≡ old.before

-- a frame or field begins with this packet; the run's first packet belongs to the nearest one of the grid from the
-- epoch
pub record Begins (m : Media) (kept : Kept) (old new : RowMaker) : Type 0 where
  pub first : old.before ≡ None → new.n0 ≡ anchor_of m kept.packet.at
  pub later : (before : ℕ) → old.before ≡ Some before → new.n0 ≡ old.n0
  pub before_is : new.before ≡ Some kept.packet.timestamp
  pub row_is : BeginsRow m new.n0 old.before kept old.row new.row
