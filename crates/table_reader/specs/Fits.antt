-- Rows whose numbers are those of an integer type: all rows have such numbers. Those without a sign have 64 bits, those
-- with one have 128.
use Rattle.std.specs.Prelude.{◌<◌, ◌^◌, ℕ, ℤ}
use Rattle.std.specs.Option.{IfSome}
use Rattle.std.specs.Int.Signed.{mag}
use Rattle.flow_measure.specs.declared.report.rows.GroupRow.{GroupRow}
use Rattle.flow_measure.specs.declared.report.rows.PacketRow.{PacketRow}

-- a number without a sign
abbrev pub IsWord : ℕ → Type 0
IsWord n = n < 2 ^ 64

-- a number with a sign
abbrev pub IsSigned : ℤ → Type 0
IsSigned z = mag z < 2 ^ 127

-- the row of a packet
pub record FitsPacketRow (r : PacketRow) : Type 0 where
  pub run : IsWord r.run
  pub packet : IsWord r.packet
  pub rec : IsWord r.rec
  pub stamp : IsWord r.stamp
  pub group : IsWord r.group
  pub place : IsWord r.place
  pub bucket : IsWord r.bucket
  pub gapped : IsSigned r.gapped
  pub linear : IsSigned r.linear

-- the row of a frame or field
pub record FitsGroupRow (r : GroupRow) : Type 0 where
  pub run : IsWord r.run
  pub group : IsWord r.group
  pub rec : IsWord r.rec
  pub stamp : IsWord r.stamp
  pub first : IsSigned r.first
  pub last : IsSigned r.last
  pub timestamp : IsWord r.timestamp
  pub step : IfSome r.step IsWord
  pub offset : IsSigned r.offset
  pub latency : IsSigned r.latency
  pub bucket : IsWord r.bucket
  pub gapped_least : IsSigned r.gapped_least
  pub gapped : IsSigned r.gapped
  pub linear_least : IsSigned r.linear_least
  pub linear : IsSigned r.linear
