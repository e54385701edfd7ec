-- The state of a `Grouper` after the packets that it was fed. Packets count from 0.
use Rattle.std.specs.Prelude.{◌≡◌, ℕ, List, ◌∷◌, ◌++◌, length, Option, Some, None}
use Rattle.timing_base.specs.Flows.{FirstFault, cuts, first_fault_below, last_place, markers}
use Rattle.timing_base.specs.declared.packet.FlowPacket.{FlowPacket}
use Rattle.timing_base.specs.declared.packet.PacketFault.{PacketFault}
use Rattle.timing_base.specs.declared.packet.Rtp.{Rtp}
use Rattle.frame_group.specs.Marks.{IsIn}
use Rattle.frame_group.specs.Reads.{ComesAfter, expected_by}
use Rattle.frame_group.specs.declared.grouper.Grouper.{Grouper}

-- number of packets fed
abbrev pub count_fed : Grouper → ℕ
count_fed g = g.fed

-- the packet that is expected next, by the state; none before the first packet, after the marker and after a fault
abbrev pub expected_of : Grouper → Option Rtp
expected_of g = expected_by g.pt g.before

-- the fault, without its packet
abbrev pub what : Option FirstFault → Option PacketFault
what None = None
what (Some first) = Some first.fault

-- the state before packet i of a flow: the packet before, the number of gaps, and the frame or field
pub record Keeps (packets : List FlowPacket) (i : ℕ) (g : Grouper) : Type 0 where
  pub before : ComesAfter packets i g.before
  pub cut_count : g.cuts ≡ length (cuts packets i)
  pub group : IsIn (markers packets (last_place (0 ∷ cuts packets i)) i) i g.group

-- the state before packet i of a flow: the first fault before it, or else the data kept
pub record StandsBefore (packets : List FlowPacket) (pt i : ℕ) (g : Grouper) : Type 0 where
  pub fault : g.fault ≡ what (first_fault_below packets pt i)
  pub kept : g.fault ≡ None → Keeps packets i g

-- the grouper was fed exactly these packets of a flow with this payload type, as far as later calls depend on it
pub record StandsFor (format : ℕ) (g : Grouper) (packets : List FlowPacket) : Type 0 where
  pub pt : g.pt ≡ format
  pub fed : count_fed g ≡ length packets
  -- whatever packets follow
  pub ahead : (rest : List FlowPacket) → StandsBefore (packets ++ rest) format (length packets) g
