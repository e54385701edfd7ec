-- The packets of one flow: its gaps, its runs, its frames or fields, and the fault of a packet.
-- A group is a frame of a progressive video or a field of an interlaced one; its last packet has the RTP marker (RFC
-- 4175, section 4.1; SMPTE ST 2110-20). A cut is a gap: a place at which the packet number isn't the next one.
-- This project's profile: which faults there are, and that a new run starts after each gap.
-- Packets count from 0 here. `at` is the capture timestamp, in nanoseconds; `timestamp` is the RTP timestamp, in
-- ticks of 90 kHz, which is equal in all packets of a frame or field.
use Rattle.std.specs.Prelude.{◌≡◌, ◌<◌, ℕ, zero, suc, Bool, false, not, ◌&&◌, ◌||◌, ◌+◌, ◌-◌, ◌%◌, ◌^◌, ◌==◌, nat_lt}
use Rattle.std.specs.Prelude.{nat_le, if◌then◌else◌, List, [], ◌∷◌, ◌++◌, length, slice_index, slice_index_or, Option}
use Rattle.std.specs.Prelude.{Some, None, Result, Ok, Err, All}
use Rattle.timing_base.specs.Captures.{IsStamp}
use Rattle.timing_base.specs.declared.packet.Rtp.{Rtp}
use Rattle.timing_base.specs.declared.packet.FlowPacket.{FlowPacket}
use Rattle.timing_base.specs.declared.packet.PacketFault.{PacketFault}
use Rattle.timing_base.specs.declared.packet.PacketFault.TheVariants.{Short, PayloadType, SecondSource, Number}
use Rattle.timing_base.specs.declared.packet.PacketFault.TheVariants.{StampBack, NoMarker, SameStamp, FrameSize}
use Rattle.timing_base.specs.declared.packet.PacketFault.TheVariants.{FrameTooLarge}

-- the places at which the test is true, from the first place to before the second, in order
abbrev pub places : (ℕ → Bool) → ℕ → ℕ → List ℕ
places test from zero = []
places test from (suc n) = places test from n ++ (if nat_le from n && test n then n ∷ [] else [])

-- the last of a list of places, or 0 if it is empty
abbrev pub last_place : List ℕ → ℕ
last_place xs = slice_index xs (length xs - 1)

-- the fields of a packet that could not be read
abbrev pub no_rtp : Rtp
no_rtp = record { number = 0; timestamp = 0; marker = false; pt = 0; ssrc = 0 }

-- all capture timestamps of the flow are such that a capture can hold them
abbrev pub AreStamped : List FlowPacket → Type 0
AreStamped packets = All (λ p. IsStamp p.at) packets

-- the packet in place of those past the end of a flow
abbrev pub no_packet : FlowPacket
no_packet = record { rec = 0; at = 0; rtp = Err Short }

-- packet i of a flow
abbrev pub packet : List FlowPacket → ℕ → FlowPacket
packet packets i = slice_index_or packets i no_packet

-- the fields that were read, or zeros
abbrev pub read_or_zeros : Result Rtp PacketFault → Rtp
read_or_zeros (Ok rtp) = rtp
read_or_zeros (Err fault) = no_rtp

-- the fields of packet i, or zeros
abbrev pub rtp : List FlowPacket → ℕ → Rtp
rtp packets i = read_or_zeros (packet packets i).rtp

-- whether packet i has the marker
abbrev pub has_marker : List FlowPacket → ℕ → Bool
has_marker packets i = (rtp packets i).marker

-- the packet number after this one
abbrev pub next_number : ℕ → ℕ
next_number number = (number + 1) % 2 ^ 32

-- the number that packet i has if no packet is missing before it
abbrev pub expected_number : List FlowPacket → ℕ → ℕ
expected_number packets i = next_number (rtp packets (i - 1)).number

-- there is a gap before packet i: its number isn't the one after that of packet i - 1
abbrev pub is_cut : List FlowPacket → ℕ → Bool
is_cut packets i = nat_lt 0 i && not ((rtp packets i).number == expected_number packets i)

-- the gaps before a place
abbrev pub cuts : List FlowPacket → ℕ → List ℕ
cuts packets n = places (is_cut packets) 0 n

-- the first packet of the run of packet i: the one after the last gap up to i, or packet 0
abbrev pub run_start : List FlowPacket → ℕ → ℕ
run_start packets i = last_place (0 ∷ cuts packets (i + 1))

-- the markers from the first place to before the second
abbrev pub markers : List FlowPacket → ℕ → ℕ → List ℕ
markers packets from n = places (has_marker packets) from n

-- the markers before packet i in its run
abbrev pub markers_before : List FlowPacket → ℕ → List ℕ
markers_before packets i = markers packets (run_start packets i) i

-- the number of packets in the first judged frame or field, by the markers of its run
abbrev pub group_len : List ℕ → ℕ
group_len marks = slice_index marks 1 - slice_index marks 0

-- the place of packet i in its frame or field, counted from 1, by the markers before it
abbrev pub place_in_group : List ℕ → ℕ → ℕ
place_in_group marks i = i - last_place marks

-- the payload type isn't that of the media
abbrev pub is_other_payload : List FlowPacket → ℕ → ℕ → Bool
is_other_payload packets pt i = not ((rtp packets i).pt == pt)

-- the source isn't that of the flow's first packet
abbrev pub is_second_source : List FlowPacket → ℕ → Bool
is_second_source packets i = not ((rtp packets i).ssrc == (rtp packets 0).ssrc)

-- there is a gap before packet i, and there are as many before it as a flow may have
abbrev pub is_cut_too_many : ℕ → List FlowPacket → ℕ → Bool
is_cut_too_many most packets i = is_cut packets i && nat_le most (length (cuts packets i))

-- the capture timestamp is below that of the packet before
abbrev pub is_stamp_back : List FlowPacket → ℕ → Bool
is_stamp_back packets i = nat_lt 0 i && nat_lt (packet packets i).at (packet packets (i - 1)).at

-- packet i follows another without a gap
abbrev pub goes_on : List FlowPacket → ℕ → Bool
goes_on packets i = nat_lt 0 i && not (is_cut packets i)

-- the RTP timestamp is that of the packet before
abbrev pub has_same_timestamp : List FlowPacket → ℕ → Bool
has_same_timestamp packets i = (rtp packets i).timestamp == (rtp packets (i - 1)).timestamp

-- the RTP timestamp is new, and the packet before had no marker
abbrev pub lacks_marker : List FlowPacket → ℕ → Bool
lacks_marker packets i = goes_on packets i && (not (has_same_timestamp packets i) && not (has_marker packets (i - 1)))

-- the RTP timestamp is that of the packet before, which had the marker
abbrev pub repeats_timestamp : List FlowPacket → ℕ → Bool
repeats_timestamp packets i = goes_on packets i && (has_same_timestamp packets i && has_marker packets (i - 1))

-- a frame or field after the first judged one ends with too few packets here, or has one too many
abbrev pub is_other_size : List FlowPacket → ℕ → Bool
is_other_size packets i =
    let marks = markers_before packets i in
    let got = place_in_group marks i in
    nat_le 2 (length marks) && ((has_marker packets i && nat_lt got (group_len marks)) || (got == group_len marks + 1))

-- packet i is one more than the first judged frame or field may have
abbrev pub is_too_large : ℕ → List FlowPacket → ℕ → Bool
is_too_large most packets i =
    (length (markers_before packets i) == 1) && (place_in_group (markers_before packets i) i == most + 1)

-- the first of two possible faults
abbrev pub first_of : Option PacketFault → Option PacketFault → Option PacketFault
first_of (Some fault) next = Some fault
first_of None next = next

-- this fault, if the condition is true
abbrev pub fault_if : Bool → PacketFault → Option PacketFault
fault_if holds fault = if holds then Some fault else None

-- the fault of a packet that could not be read: Short or Version
abbrev pub reading_fault : Result Rtp PacketFault → Option PacketFault
reading_fault (Ok rtp) = None
reading_fault (Err fault) = Some fault

-- the fault that packet i has by itself or compared with the first packet
abbrev pub sender_fault : List FlowPacket → ℕ → ℕ → Option PacketFault
sender_fault packets pt i =
    first_of (reading_fault (packet packets i).rtp)
    (first_of (fault_if (is_other_payload packets pt i) PayloadType)
    (fault_if (is_second_source packets i) SecondSource))

-- the fault that packet i has compared with the packet before, if a flow may have at most this many gaps
abbrev pub order_fault : ℕ → List FlowPacket → ℕ → Option PacketFault
order_fault most packets i =
    first_of (fault_if (is_cut_too_many most packets i) (Number (expected_number packets i) (rtp packets i).number))
    (first_of (fault_if (is_stamp_back packets i) (StampBack (packet packets (i - 1)).at (packet packets i).at))
    (first_of (fault_if (lacks_marker packets i) NoMarker)
    (fault_if (repeats_timestamp packets i) SameStamp)))

-- the fault of the size of its frame or field, if that may have at most this many packets
abbrev pub size_fault : ℕ → List FlowPacket → ℕ → Option PacketFault
size_fault most packets i =
    let marks = markers_before packets i in
    first_of (fault_if (is_other_size packets i) (FrameSize (group_len marks) (place_in_group marks i)))
    (fault_if (is_too_large most packets i) FrameTooLarge)

-- the fault of packet i: the first that applies, in the order of `PacketFault`
abbrev pub fault_within : ℕ → ℕ → List FlowPacket → ℕ → ℕ → Option PacketFault
fault_within most_cuts most_group packets pt i =
    first_of (sender_fault packets pt i) (first_of (order_fault most_cuts packets i) (size_fault most_group packets i))

-- the fault of packet i; a flow may have at most 1,024 gaps, a frame or field at most 262,144 packets
abbrev pub fault : List FlowPacket → ℕ → ℕ → Option PacketFault
fault packets pt i = fault_within 1024 262144 packets pt i

-- the first fault of a flow, and its packet, counted from 0
pub record FirstFault : Type 0 where
  pub index : ℕ
  pub fault : PacketFault

-- the fault of packet n, if no packet below n has one
abbrev pub earlier_or : Option FirstFault → ℕ → Option PacketFault → Option FirstFault
earlier_or (Some first) n here = Some first
earlier_or None n None = None
earlier_or None n (Some fault) = Some record { index = n; fault = fault }

-- the fault of the first packet below n that has one
abbrev pub first_fault_below : List FlowPacket → ℕ → ℕ → Option FirstFault
first_fault_below packets pt zero = None
first_fault_below packets pt (suc n) = earlier_or (first_fault_below packets pt n) n (fault packets pt n)

-- the first fault of a flow: that of the first packet that has one
abbrev pub first_fault : List FlowPacket → ℕ → Option FirstFault
first_fault packets pt = first_fault_below packets pt (length packets)

-- the packet has this fault, and no packet before it has one
pub record IsFirstFault (packets : List FlowPacket) (pt : ℕ) (first : FirstFault) : Type 0 where
  pub within : first.index < length packets
  pub has : fault packets pt first.index ≡ Some first.fault
  pub least : (k : ℕ) → k < first.index → fault packets pt k ≡ None
