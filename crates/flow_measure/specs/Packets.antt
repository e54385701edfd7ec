-- The judged packets of a run: their packet records, counted from 1, and their RTP timestamps, in ticks of 90 kHz.
use Rattle.std.specs.Prelude.{ℕ, List, map}
use Rattle.timing_base.specs.Flows.{read_or_zeros}
use Rattle.timing_base.specs.declared.packet.FlowPacket.{FlowPacket}

-- the packet records of packets
abbrev pub records_of : List FlowPacket → List ℕ
records_of packets = map (λ (p : FlowPacket). p.rec) packets

-- the RTP timestamps of packets
abbrev pub timestamps_of : List FlowPacket → List ℕ
timestamps_of packets = map (λ (p : FlowPacket). (read_or_zeros p.rtp).timestamp) packets
