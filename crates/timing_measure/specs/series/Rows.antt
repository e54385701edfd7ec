-- The rows of a flow: those of its judged runs, one run after the other. If the flow has a fault, those of the whole
-- frames or fields before the packet with the first fault. `m` is the media. Which packets are
-- listed is this project's own choice.
use Rattle.std.specs.Prelude.{ℕ, Bool, List, Option, Some, None}
use Rattle.timing_base.specs.Shifts.{FlowOptions, Shift}
use Rattle.timing_base.specs.Flows.{FirstFault, first_fault}
use Rattle.timing_base.specs.Media.{Media}
use Rattle.timing_base.specs.Numbered.{numbered}
use Rattle.timing_base.specs.declared.packet.FlowPacket.{FlowPacket}
use Rattle.fail_interval.specs.Parts.{judged_parts, open_before, parts_before}
use Rattle.flow_measure.specs.rows.Told.{AreRowsSoFar}

-- the rows up to the first fault of the packets, if there is one
abbrev pub AreRowsUpTo : (frames : Bool) → Media → Shift → List FlowPacket → Option FirstFault → List ℕ → Type 0
AreRowsUpTo frames m shift packets None rows =
    AreRowsSoFar frames m shift (judged_parts m packets shift) None rows
AreRowsUpTo frames m shift packets (Some first) rows =
    AreRowsSoFar frames m shift (parts_before m packets shift first.index) (open_before packets shift first.index)
    rows

-- the rows of packets by their numbers as they are
abbrev pub AreRowsAsNumbered : (frames : Bool) → Media → Shift → List FlowPacket → List ℕ → Type 0
AreRowsAsNumbered frames m shift packets rows = AreRowsUpTo frames m shift packets (first_fault packets m.pt) rows

-- the rows of the flow of a media, by the options of the flow
abbrev pub AreRowsOfFlow : (frames : Bool) → Media → FlowOptions → List FlowPacket → List ℕ → Type 0
AreRowsOfFlow frames m options packets rows =
    AreRowsAsNumbered frames m options.shift (numbered options.seq16 packets) rows
