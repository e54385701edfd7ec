-- A packet block that is completely in the buffer, at its start.
use Rattle.std.specs.Prelude.{◌≡◌, ◌≤◌, ℕ, ◌-◌, ◌%◌, false, List, length, slice_get}
use Rattle.pcapng_reader.specs.declared.block.Interface.{Interface}
use Rattle.pcapng_reader.specs.declared.block.Order.{Order}
use Rattle.pcapng_reader.specs.declared.block.Kind.TheVariants as kind
use Rattle.pcapng_reader.specs.declared.packet.Fate.TheVariants as fate
use Rattle.pcapng_reader.specs.declared.packet.Whole.{Whole}
use Rattle.pcapng_reader.specs.Classic.{number, begins_section, kind_of}
use Rattle.pcapng_reader.specs.Converting.{fate_by, IsFate}

-- the buffered bytes begin with a complete packet block, in a section of this byte order with these interfaces, and
-- the block gives this packet record
pub record IsWhole (order : Order) (interfaces : List Interface) (held : List ℕ) (packet : Whole) : Type 0 where
  pub inside : begins_section held ≡ false
  pub kind_is : kind_of order held ≡ kind.Packet
  pub total : packet.total ≡ number order 4 4 held
  pub even : packet.total % 4 ≡ 0
  pub within : packet.total ≤ length held
  pub ends : number order 4 (packet.total - 4) held ≡ packet.total
  pub tells : fate_by (slice_get interfaces (number order 4 8 held)) order packet.total held
      ≡ fate.Record packet.at packet.len
  pub fits : IsFate packet.total (fate.Record packet.at packet.len)
