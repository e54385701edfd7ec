-- The private state of a `FlowJudge` after the packets that it was fed. Packets count from 0.
use Rattle.std.specs.Prelude.{◌≡◌, ℕ, ⊤, List, ◌++◌, length, Option, Some, None}
use Rattle.timing_base.specs.Flows.{AreStamped, first_fault_below, packet}
use Rattle.timing_base.specs.Media.{Media}
use Rattle.timing_base.specs.Shifts.{Shift}
use Rattle.timing_base.specs.declared.packet.FlowPacket.{FlowPacket}
use Rattle.timing_base.specs.declared.packet.PacketFault.{PacketFault}
use Rattle.timing_base.specs.declared.packet.Rtp.{Rtp}
use Rattle.fail_interval.specs.Flowing.{StandsFor as FlowStandsFor, flow_expects}
use Rattle.fail_interval.specs.declared.flow.Flow.{Flow}
use Rattle.fail_interval.specs.declared.judge.State.{State}
use Rattle.fail_interval.specs.declared.judge.State.TheVariants.{Going, Refused, Spent}
-- the results of parsing a packet
pub use Rattle.flow_demux.specs.Readings.{IsReading}

-- the first fault of a flow that begins with these packets, and the packet record of its packet, whatever packets
-- follow
pub record IsRefused (m : Media) (packets : List FlowPacket) (rec : ℕ) (fault : PacketFault) : Type 0 where
  pub index : ℕ
  pub first : (rest : List FlowPacket) → first_fault_below (packets ++ rest) m.pt (length packets)
      ≡ Some record { index = index; fault = fault }
  pub rec_is : (rest : List FlowPacket) → (packet (packets ++ rest) index).rec ≡ rec

-- the state is that after these packets of a flow
abbrev pub IsAt : {M : Type 0} → Media → Shift → List FlowPacket → State M → Type 0
IsAt m shift packets (Going flow) = (flow.media ≡ m) × (flow.shift ≡ shift) × FlowStandsFor flow packets
IsAt m shift packets (Refused rec fault) = IsRefused m packets rec fault
IsAt m shift packets Spent = ⊥

-- the state is that after these packets of a flow, which are `fed` packets
pub record StandsFor {M : Type 0} (m : Media) (shift : Shift) (fed : ℕ) (packets : List FlowPacket) (state : State M)
    : Type 0 where
  pub count : fed ≡ length packets
  pub stamped : AreStamped packets
  pub is : IsAt m shift packets state

-- a flow without a fault was fed exactly these packets
pub record IsFedTo {M : Type 0} (flow : Flow M) (fed : ℕ) (packets : List FlowPacket) : Type 0 where
  pub count : length packets ≡ fed
  pub stamped : AreStamped packets
  pub stands : FlowStandsFor flow packets

-- a flow without a fault was fed some packets
abbrev pub IsKnown : {M : Type 0} → ℕ → State M → Type 0
IsKnown fed (Going flow) = (packets : List FlowPacket) × IsFedTo flow fed packets
IsKnown fed (Refused rec fault) = ⊤
IsKnown fed Spent = ⊤

-- the packet that is expected next, by the state; none after a fault
abbrev pub state_expects : {M : Type 0} → State M → Option Rtp
state_expects (Going flow) = flow_expects flow
state_expects (Refused rec fault) = None
state_expects Spent = None
