-- A packet of a flow, and the data kept of the packet before it. Packets count from 0.
use Rattle.std.specs.Prelude.{◌≡◌, ◌<◌, ◌-◌, ℕ, List, Option, Some, None, Ok}
use Rattle.timing_base.specs.Flows.{packet, rtp}
use Rattle.timing_base.specs.declared.packet.FlowPacket.{FlowPacket}
use Rattle.timing_base.specs.declared.packet.Rtp.{Rtp}
use Rattle.interval_checker.specs.declared.before.Before.{Before}

-- packet i came at this instant, with this RTP header
pub record IsRead (packets : List FlowPacket) (i stamp : ℕ) (r : Rtp) : Type 0 where
  pub at : (packet packets i).at ≡ stamp
  pub rtp : (packet packets i).rtp ≡ Ok r

-- b is the packet before packet i
pub record IsAfter (packets : List FlowPacket) (i : ℕ) (b : Before) : Type 0 where
  pub later : 0 < i
  pub at : b.at ≡ (packet packets (i - 1)).at
  pub read : b.rtp ≡ rtp packets (i - 1)
  pub source : b.source ≡ (rtp packets 0).ssrc

-- b is the packet before packet i, if it isn't the first
abbrev pub ComesAfter : List FlowPacket → ℕ → Option Before → Type 0
ComesAfter packets i None = i ≡ 0
ComesAfter packets i (Some b) = IsAfter packets i b
