-- The skew of two flows that carry the same packets on two paths (SMPTE ST 2022-7; RFC 7104), packet by packet. Packets
-- are told apart by their extended packet number only (RFC 4175, section 4.2). Which packets count, and which of equal
-- skews is reported, is this project's profile. Capture timestamps and skews are in nanoseconds; packet records count
-- from 1.
use Rattle.std.specs.Prelude.{ℕ, ◌+◌, ◌==◌, pos, ◌-ℤ◌, Bool, true, false, not, if◌then◌else◌, is_some, List, [], ◌∷◌}
use Rattle.std.specs.Prelude.{◌++◌, length, count_by, Option, Some, None, Result, Ok, Err}
use Rattle.std.specs.List.{find, flat_map}
use Rattle.std.specs.declared.cmp.Ordering.{Ordering}
use Rattle.std.specs.Ordering.{nat_cmp, int_cmp, ordering_then, is_gt}
use Rattle.timing_base.specs.Flows.{read_or_zeros}
use Rattle.timing_base.specs.declared.packet.Rtp.{Rtp}
use Rattle.timing_base.specs.declared.packet.FlowPacket.{FlowPacket}
use Rattle.timing_base.specs.declared.packet.PacketFault.{PacketFault}
use Rattle.path_skew.specs.declared.row.Extreme.{Extreme}
use Rattle.path_skew.specs.declared.row.SkewRow.{SkewRow}

-- whether an RTP header was parsed, with this packet number
abbrev pub is_read_as : ℕ → Result Rtp PacketFault → Bool
is_read_as number (Ok rtp) = rtp.number == number
is_read_as number (Err fault) = false

-- whether a packet was parsed, with this packet number
abbrev pub has_number : ℕ → FlowPacket → Bool
has_number number p = is_read_as number p.rtp

-- the first packet of a flow with this packet number
abbrev pub packet_with : ℕ → List FlowPacket → Option FlowPacket
packet_with number flow = find (has_number number) flow

-- whether a flow has this packet number
abbrev pub stands : ℕ → List FlowPacket → Bool
stands number flow = is_some (packet_with number flow)

-- the packet number of a packet
abbrev pub number_of : FlowPacket → ℕ
number_of p = (read_or_zeros p.rtp).number

-- whether an RTP header was parsed
abbrev pub is_read : Result Rtp PacketFault → Bool
is_read (Ok rtp) = true
is_read (Err fault) = false

-- whether a packet couldn't be parsed
abbrev pub is_unread : FlowPacket → Bool
is_unread p = not (is_read p.rtp)

-- whether an RTP header was parsed, with a packet number that came before
abbrev pub repeats : List FlowPacket → Result Rtp PacketFault → Bool
repeats before (Ok rtp) = stands rtp.number before
repeats before (Err fault) = false

-- whether an RTP header was parsed, with a packet number that didn't come before
abbrev pub opens : List FlowPacket → Result Rtp PacketFault → Bool
opens before (Ok rtp) = not (stands rtp.number before)
opens before (Err fault) = false

-- the packets of a flow that pass the test; each is tested with the packets before it, which begin with `before`
abbrev pub chosen : (List FlowPacket → Result Rtp PacketFault → Bool) → List FlowPacket → List FlowPacket
    → List FlowPacket
chosen test before [] = []
chosen test before (p ∷ flow) = (if test before p.rtp then p ∷ [] else []) ++ chosen test (before ++ p ∷ []) flow

-- the packets with a packet number that came before in their flow
abbrev pub repeated : List FlowPacket → List FlowPacket
repeated flow = chosen repeats [] flow

-- the first packet with each packet number of a flow
abbrev pub opening : List FlowPacket → List FlowPacket
opening flow = chosen opens [] flow

-- the skew of a packet number, by its first packets in both flows
abbrev pub extreme : FlowPacket → FlowPacket → Extreme
extreme p q = record { skew = pos q.at -ℤ pos p.at; first_rec = p.rec; second_rec = q.rec }

-- the skew of a packet number, or none if the second flow doesn't have it
abbrev pub extreme_with : FlowPacket → Option FlowPacket → List Extreme
extreme_with p (Some q) = extreme p q ∷ []
extreme_with p None = []

-- the skews of the matched packet numbers: those in both flows
abbrev pub skews : List FlowPacket → List FlowPacket → List Extreme
skews first second = flat_map (λ p. extreme_with p (packet_with (number_of p) second)) (opening first)

-- number of packet numbers in one flow and not in the other
abbrev pub alone : List FlowPacket → List FlowPacket → ℕ
alone flow other = count_by (λ p. not (stands (number_of p) other)) (opening flow)

-- the order of equal skews: by the packet record in the first flow, then in the second
abbrev pub record_cmp : Extreme → Extreme → Ordering
record_cmp a b = ordering_then (nat_cmp a.first_rec b.first_rec) (nat_cmp a.second_rec b.second_rec)

-- the order that begins with the least skew
abbrev pub rising : Extreme → Extreme → Ordering
rising a b = ordering_then (int_cmp a.skew b.skew) (record_cmp a b)

-- the order that begins with the greatest skew
abbrev pub falling : Extreme → Extreme → Ordering
falling a b = ordering_then (int_cmp b.skew a.skew) (record_cmp a b)

-- the one of two that comes first in an order
abbrev pub earlier : (Extreme → Extreme → Ordering) → Extreme → Extreme → Extreme
earlier order a b = if is_gt (order a b) then b else a

-- the one of two that comes first in an order, if there are two
abbrev pub earlier_of : (Extreme → Extreme → Ordering) → Extreme → Option Extreme → Extreme
earlier_of order a None = a
earlier_of order a (Some b) = earlier order a b

-- the one of a list that comes first in an order, if there is one
abbrev pub earliest : (Extreme → Extreme → Ordering) → List Extreme → Option Extreme
earliest order [] = None
earliest order (e ∷ es) = Some (earlier_of order e (earliest order es))

-- the result for two flows
abbrev pub skew : List FlowPacket → List FlowPacket → SkewRow
skew first second = record {
  matched = length (skews first second);
  first_only = alone first second;
  second_only = alone second first;
  repeated = length (repeated first) + length (repeated second);
  unread = count_by is_unread first + count_by is_unread second;
  least = earliest rising (skews first second);
  greatest = earliest falling (skews first second);
}
