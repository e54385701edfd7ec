-- The packet numbers of a flow as its options say: those in the bytes, or with `--seq16` numbers that are counted on by
-- RTP sequence numbers alone.
use Rattle.std.specs.Prelude.{ℕ, Bool, true, false, List, Option, None}
use Rattle.timing_base.specs.Numbered.{counted_packet, counted_rtp, last_counted, number_after}
use Rattle.timing_base.specs.declared.packet.FlowPacket.{FlowPacket}

-- the packet with its number, after a packet with this counted number
abbrev pub next_packet : (seq16 : Bool) → (last : Option ℕ) → FlowPacket → FlowPacket
next_packet false last p = p
next_packet true last p = counted_packet last p

-- the counted number that the packet after this one counts on from
abbrev pub next_last : (seq16 : Bool) → (last : Option ℕ) → FlowPacket → Option ℕ
next_last false last p = last
next_last true last p = number_after last (counted_rtp last p.rtp)

-- the counted number that the packet after these counts on from; none if packets aren't counted
abbrev pub last_number : (seq16 : Bool) → List FlowPacket → Option ℕ
last_number false packets = None
last_number true packets = last_counted None packets
