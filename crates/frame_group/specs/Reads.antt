-- The data kept of the packet before packet i of a flow, packet i itself, and the packet expected by the data kept.
use Rattle.std.specs.Prelude.{◌≡◌, ◌<◌, ◌-◌, ℕ, false, if◌then◌else◌, List, Option, Some, None, Ok}
use Rattle.timing_base.specs.Flows.{packet, rtp}
use Rattle.timing_base.specs.declared.packet.FlowPacket.{FlowPacket}
use Rattle.timing_base.specs.declared.packet.Rtp.{Rtp}
use Rattle.frame_group.specs.Expected.{next_of, with_number}
use Rattle.frame_group.specs.declared.before.Before.{Before}

-- packet i came at this instant, with this RTP header
pub record IsRead (packets : List FlowPacket) (i stamp : ℕ) (r : Rtp) : Type 0 where
  pub at : (packet packets i).at ≡ stamp
  pub rtp : (packet packets i).rtp ≡ Ok r

-- b is the packet before packet i, which isn't the first
pub record IsAfter (packets : List FlowPacket) (i : ℕ) (b : Before) : Type 0 where
  pub later : 0 < i
  pub at : b.at ≡ (packet packets (i - 1)).at
  pub number : b.number ≡ (rtp packets (i - 1)).number
  pub timestamp : b.timestamp ≡ (rtp packets (i - 1)).timestamp
  pub marker : b.marker ≡ (rtp packets (i - 1)).marker
  pub source : b.source ≡ (rtp packets 0).ssrc

-- packet r continues the frame or field of packet b: with the same RTP timestamp, and neither has the marker
abbrev pub GoesAfter : Option Before → Rtp → Type 0
GoesAfter None r = ⊥
GoesAfter (Some b) r = (b.timestamp ≡ r.timestamp) × (b.marker ≡ false) × (r.marker ≡ false)

-- b is the packet before packet i, if it isn't the first
abbrev pub ComesAfter : List FlowPacket → ℕ → Option Before → Type 0
ComesAfter packets i None = i ≡ 0
ComesAfter packets i (Some b) = IsAfter packets i b

-- the packet that is expected after this one, in a flow with this payload type; none after the marker
abbrev pub expected_by : ℕ → Option Before → Option Rtp
expected_by pt None = None
expected_by pt (Some b) = if b.marker then None else Some (next_of record {
  number = b.number;
  timestamp = b.timestamp;
  marker = false;
  pt = pt;
  ssrc = b.source;
})

-- the packet that is expected after the expected one came with this packet number
abbrev pub after_number : ℕ → Option Rtp → Option Rtp
after_number number None = None
after_number number (Some p) = Some (next_of (with_number number p))
