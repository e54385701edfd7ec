-- The packet numbers of a flow by its RTP sequence numbers alone (RFC 3550, section 5.1), for a sender that leaves the
-- extended sequence number 0 (RFC 4175, section 4.2): `--seq16`. This project's profile: the number of the first
-- packet is its sequence number, and each later one counts on from the packet before. Packets count from 0.
use Rattle.std.specs.Prelude.{◌≡◌, ◌<◌, ℕ, Bool, true, false, not, ◌&&◌, nat_lt, ◌+◌, ◌-◌, ◌%◌, ◌^◌, ◌==◌}
use Rattle.std.specs.Prelude.{List, [], ◌∷◌, length, All, Option, Some, None, Result, Ok, Err}
use Rattle.timing_base.specs.Flows.{expected_number, rtp}
use Rattle.timing_base.specs.declared.packet.FlowPacket.{FlowPacket}
use Rattle.timing_base.specs.declared.packet.PacketFault.{PacketFault}
use Rattle.timing_base.specs.declared.packet.Rtp.{Rtp}

-- the RTP sequence number in a packet number
abbrev pub sequence : ℕ → ℕ
sequence number = number % 2 ^ 16

-- how far a sequence number is ahead of another, modulo 65,536
abbrev pub ahead_of : (before number : ℕ) → ℕ
ahead_of before number = (sequence number + 2 ^ 16 - sequence before) % 2 ^ 16

-- the counted number of a packet with this number in its bytes, after a packet with this counted number
abbrev pub counted : (before : Option ℕ) → ℕ → ℕ
counted None number = sequence number
counted (Some before) number = (before + ahead_of before number) % 2 ^ 32

-- the packet with its counted number; one that couldn't be read has no number
abbrev pub counted_rtp : Option ℕ → Result Rtp PacketFault → Result Rtp PacketFault
counted_rtp before (Err fault) = Err fault
counted_rtp before (Ok r) = Ok record {
  number = counted before r.number;
  timestamp = r.timestamp;
  marker = r.marker;
  pt = r.pt;
  ssrc = r.ssrc;
}

-- the packet of a flow with its counted number
abbrev pub counted_packet : Option ℕ → FlowPacket → FlowPacket
counted_packet before p = record { rec = p.rec; at = p.at; rtp = counted_rtp before p.rtp }

-- the counted number that the next packet counts on from
abbrev pub number_after : Option ℕ → Result Rtp PacketFault → Option ℕ
number_after before (Err fault) = before
number_after before (Ok r) = Some r.number

-- the packets with their counted numbers, after a packet with this counted number
abbrev pub counted_from : Option ℕ → List FlowPacket → List FlowPacket
counted_from before [] = []
counted_from before (p ∷ ps) =
    counted_packet before p ∷ counted_from (number_after before (counted_rtp before p.rtp)) ps

-- the counted number of the last packet that was read
abbrev pub last_counted : Option ℕ → List FlowPacket → Option ℕ
last_counted before [] = before
last_counted before (p ∷ ps) = last_counted (number_after before (counted_rtp before p.rtp)) ps

-- the packets of a flow as they are judged: with counted numbers if `seq16`, else as they are
abbrev pub numbered : (seq16 : Bool) → List FlowPacket → List FlowPacket
numbered false packets = packets
numbered true packets = counted_from None packets

-- the packet was read, and its number has 32 bits
abbrev pub IsRead : Result Rtp PacketFault → Type 0
IsRead (Ok r) = r.number < 2 ^ 32
IsRead (Err fault) = ⊥

-- every packet was read
abbrev pub AreRead : List FlowPacket → Type 0
AreRead packets = All (λ p. IsRead p.rtp) packets

-- the sequence number of packet i isn't the one after that of packet i - 1: where a flow with counted numbers has a
-- gap
abbrev pub is_jump : List FlowPacket → ℕ → Bool
is_jump packets i =
    nat_lt 0 i && not (ahead_of (rtp packets (i - 1)).number (rtp packets i).number == 1)

-- the number of packets that are missing before packet i, by the packet numbers as they are
abbrev pub missing : List FlowPacket → ℕ → ℕ
missing packets i = ((rtp packets i).number + 2 ^ 32 - expected_number packets i) % 2 ^ 32

-- of a flow whose sender counts on, nowhere a multiple of 65,536 packets is missing, except for none
abbrev pub LosesNoRound : List FlowPacket → Type 0
LosesNoRound packets =
    (i : ℕ) → 0 < i → i < length packets → missing packets i % 2 ^ 16 ≡ 0 → missing packets i ≡ 0
