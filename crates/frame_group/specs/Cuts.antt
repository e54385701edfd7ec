-- The result for each packet of a flow: the gap before it, or a fault. Packets count from 0.
use Rattle.std.specs.Prelude.{ℕ, ◌+◌, if◌then◌else◌, List, Option, Some, None, Result, Ok, Err}
use Rattle.timing_base.specs.Flows.{FirstFault, expected_number, first_fault_below, is_cut}
use Rattle.timing_base.specs.declared.packet.FlowPacket.{FlowPacket}
use Rattle.timing_base.specs.declared.packet.PacketFault.{PacketFault}

-- the packet number that was expected, if there is a gap before packet i
abbrev pub cut_at : List FlowPacket → ℕ → Option ℕ
cut_at packets i = if is_cut packets i then Some (expected_number packets i) else None

-- the fault, or the gap if there is none
abbrev pub unless_fault : Option FirstFault → Option ℕ → Result (Option ℕ) PacketFault
unless_fault (Some first) cut = Err first.fault
unless_fault None cut = Ok cut

-- the result for packet i of a flow with this payload type: the gap before it, or from the first faulty packet on the
-- first fault
abbrev pub answer_at : List FlowPacket → ℕ → ℕ → Result (Option ℕ) PacketFault
answer_at packets pt i = unless_fault (first_fault_below packets pt (i + 1)) (cut_at packets i)
