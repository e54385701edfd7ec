-- The fault of a parsed packet by itself.
use Rattle.std.specs.Prelude.{ℕ, Bool, not, ◌==◌, Option}
use Rattle.timing_base.specs.Flows.{fault_if, first_of}
use Rattle.timing_base.specs.declared.packet.PacketFault.{PacketFault}
use Rattle.timing_base.specs.declared.packet.PacketFault.TheVariants.{PayloadType, SecondSource}
use Rattle.timing_base.specs.declared.packet.Rtp.{Rtp}

-- its payload type isn't the media's, or its source isn't that of the first packet
abbrev pub read_fault : ℕ → Rtp → Bool → Option PacketFault
read_fault pt r second = first_of (fault_if (not (r.pt == pt)) PayloadType) (fault_if second SecondSource)
