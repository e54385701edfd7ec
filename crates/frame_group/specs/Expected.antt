-- The packet that is expected after those of a flow: the one that continues the frame or field of the last packet.
use Rattle.std.specs.Prelude.{ℕ, ◌+◌, ◌-◌, ◌%◌, ◌^◌, false, Bool, ◌==◌, ◌||◌, if◌then◌else◌}
use Rattle.std.specs.Prelude.{List, length, Option, Some, None, Ok, is_some}
use Rattle.timing_base.specs.Numbered.{numbered}
use Rattle.timing_base.specs.Flows.{first_fault, has_marker, next_number, rtp}
use Rattle.timing_base.specs.Shifts.{FlowOptions}
use Rattle.timing_base.specs.declared.packet.FlowPacket.{FlowPacket}
use Rattle.timing_base.specs.declared.packet.Rtp.{Rtp}

-- the packet with another packet number
abbrev pub with_number : ℕ → Rtp → Rtp
with_number number p =
    record { number = number; timestamp = p.timestamp; marker = p.marker; pt = p.pt; ssrc = p.ssrc }

-- the packet that follows this one: only its packet number differs
abbrev pub next_of : Rtp → Rtp
next_of p = with_number (next_number p.number) p

-- the expected packet after the expected one came
abbrev pub after : Option Rtp → Option Rtp
after None = None
after (Some p) = Some (next_of p)

-- packet i of a flow with this payload type, if it continues the frame or field: with the RTP timestamp of the packet
-- before, the flow's source, the next packet number, and no marker
abbrev pub going_on : List FlowPacket → ℕ → ℕ → Rtp
going_on packets pt i = next_of record {
  number = (rtp packets (i - 1)).number;
  timestamp = (rtp packets (i - 1)).timestamp;
  marker = false;
  pt = pt;
  ssrc = (rtp packets 0).ssrc;
}

-- whether no packet is expected: there is no packet yet, the last one has the marker, or one of them has a fault
abbrev pub is_nothing_expected : List FlowPacket → ℕ → Bool
is_nothing_expected packets pt =
    (length packets == 0) || has_marker packets (length packets - 1) || is_some (first_fault packets pt)

-- the packet that is expected after these
abbrev pub expected_after : List FlowPacket → ℕ → Option Rtp
expected_after packets pt =
    if is_nothing_expected packets pt then None else Some (going_on packets pt (length packets))

-- the packet that follows these, with this packet record and captured at this instant
abbrev pub next_packet : List FlowPacket → (pt rec at : ℕ) → FlowPacket
next_packet packets pt rec at = record { rec = rec; at = at; rtp = Ok (going_on packets pt (length packets)) }

-- the packet number of the last packet; none before the first
abbrev pub last_number_of : List FlowPacket → Option ℕ
last_number_of packets = if length packets == 0 then None else Some (rtp packets (length packets - 1)).number

-- what a counted number (`--seq16`) is above the number in the packet's bytes, modulo 2^32: a multiple of 65,536
abbrev pub raise_of : (counted own : ℕ) → ℕ
raise_of counted own = (counted + 2 ^ 32 - own) % 2 ^ 32

-- what the judged number of the last packet of a flow is above that in its bytes, modulo 2^32; 0 if numbers aren't
-- counted, or before the first packet
abbrev pub raise_after : (seq16 : Bool) → List FlowPacket → ℕ
raise_after seq16 packets =
    raise_of (rtp (numbered seq16 packets) (length packets - 1)).number (rtp packets (length packets - 1)).number

-- the packet that is expected after these, with its number as it stands in the bytes of its frame: none, if the flow
-- has a fault by its judged numbers
abbrev pub expected_by_options : FlowOptions → List FlowPacket → ℕ → Option Rtp
expected_by_options options packets pt =
    if is_nothing_expected (numbered options.seq16 packets) pt then None
    else Some (going_on packets pt (length packets))
