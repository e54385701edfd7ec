-- What a flow is at after these packets: the run that hasn't ended, or the reason why it isn't judged any more. Packets
-- count from 0, runs and packet records from 1. This project's profile.
use Rattle.std.specs.Prelude.{ℕ, ◌+◌, ◌==◌, if◌then◌else◌, is_some, nat_le, List, ◌∷◌, length, Option, Some, None}
use Rattle.std.specs.Prelude.{option_map}
use Rattle.timing_base.specs.Flows.{FirstFault, cuts, first_fault, last_place, markers, packet, rtp}
use Rattle.timing_base.specs.Judged.{expected_at}
use Rattle.timing_base.specs.declared.packet.FlowPacket.{FlowPacket}
use Rattle.timing_base.specs.declared.packet.PacketFault.{PacketFault}
use Rattle.timing_base.specs.declared.packet.PacketFault.TheVariants.{Number}
use Rattle.timing_base.specs.declared.row.Unjudged.{Unjudged}
use Rattle.timing_base.specs.declared.row.Unjudged.TheVariants as unjudged
use Rattle.fail_interval.specs.declared.current.RunSoFar.{RunSoFar}

-- the run that begins with packet `from`, the run of this number, up to the last packet
abbrev pub run_from : List FlowPacket → (number from : ℕ) → RunSoFar
run_from packets number from = record {
  run = number;
  rec = (packet packets from).rec;
  number = (rtp packets from).number;
  expected = expected_at packets from;
  whole = nat_le 2 (length (markers packets from (length packets)));
}

-- the run of the last packet; none if there is no packet
abbrev pub last_run : List FlowPacket → Option RunSoFar
last_run packets =
    let places = cuts packets (length packets) in
    if length packets == 0 then None else Some (run_from packets (length places + 1) (last_place (0 ∷ places)))

-- the run of the last packet, if no packet has a fault
abbrev pub open_run_of : List FlowPacket → (pt : ℕ) → Option RunSoFar
open_run_of packets pt = if is_some (first_fault packets pt) then None else last_run packets

-- why a flow with this fault isn't judged: one gap too many is reported as a gap, each other fault as itself
abbrev pub unjudged_by : (rec_number : ℕ) → PacketFault → Unjudged
unjudged_by rec_number (Number expected got) = unjudged.Gap rec_number expected got
unjudged_by rec_number fault = unjudged.Refused rec_number fault

-- why the flow isn't judged; none if no packet has a fault
abbrev pub refusal_of : List FlowPacket → (pt : ℕ) → Option Unjudged
refusal_of packets pt =
    option_map (λ (first : FirstFault). unjudged_by (packet packets first.index).rec first.fault)
    (first_fault packets pt)
