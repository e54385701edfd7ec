-- The judged runs of a flow, and the judged packets of the open one, whatever follows. A run stands between two gaps;
-- its judged packets are those after its first marker, up to and including its last marker. Packets count from 0, runs
-- from 1. This project's profile.
use Rattle.std.specs.Prelude.{ℕ, ◌+◌, List, [], ◌∷◌, ◌++◌, length, slice_index, slice_range, Option, Some, None}
use Rattle.timing_base.specs.Shifts.{Shift}
use Rattle.timing_base.specs.Flows.{FirstFault, cuts, last_place, markers, packet}
use Rattle.timing_base.specs.Judged.{FlowVerdict, RunOutcome, in_one_run, in_runs, judged_as_numbered, no_whole_frame}
use Rattle.timing_base.specs.Judged.{run_outcome}
use Rattle.timing_base.specs.Judged.{whole_frames}
use Rattle.timing_base.specs.Media.{Media}
use Rattle.timing_base.specs.declared.packet.FlowPacket.{FlowPacket}
use Rattle.run_meter.specs.Runs.{JudgedPart, OpenPart, RunOf}
use Rattle.fail_interval.specs.Row.{judged_values}

-- the judged packets of the run from packet `from` on and before packet `to`
abbrev pub judged_packets : List FlowPacket → (from to : ℕ) → List FlowPacket
judged_packets packets from to =
    let marks = markers packets from to in slice_range packets (slice_index marks 0 + 1) (last_place marks + 1)

-- the run of this number, with this first packet and these judged packets, if it has a complete frame or field
abbrev pub part_by : Media → (number : ℕ) → (first : FlowPacket) → (packets : List FlowPacket) → RunOutcome
    → List JudgedPart
part_by m number first packets (no_whole_frame head) = []
part_by m number first packets (whole_frames run) =
    record { number = number; first = first; values = judged_values m run; packets = packets } ∷ []

-- the run of this number from packet `from` on and before packet `to`
abbrev pub part_between : Media → List FlowPacket → (shift : Shift) (number from to : ℕ) → List JudgedPart
part_between m packets shift number from to =
    part_by m number (packet packets from) (judged_packets packets from to) (run_outcome packets shift from to)

-- the judged runs from packet `from` on, up to the last of these gaps; the first run has this number
abbrev pub parts_over : Media → List FlowPacket → (shift : Shift) (number from : ℕ) → List ℕ → List JudgedPart
parts_over m packets shift number from [] = []
parts_over m packets shift number from (cut ∷ rest) =
    part_between m packets shift number from cut ++ parts_over m packets shift (number + 1) cut rest

-- the judged runs from packet `from` on and before packet `to`, with these gaps between; the first run has this number
abbrev pub parts_between : Media → List FlowPacket → (shift : Shift) (to number from : ℕ) → List ℕ → List JudgedPart
parts_between m packets shift to number from [] = part_between m packets shift number from to
parts_between m packets shift to number from (cut ∷ rest) =
    part_between m packets shift number from cut ++ parts_between m packets shift to (number + 1) cut rest

-- the judged runs of a flow with this verdict
abbrev pub parts_in : Media → List FlowPacket → (shift : Shift) → FlowVerdict → List JudgedPart
parts_in m packets shift (in_one_run outcome) =
    part_by m 1 (packet packets 0) (judged_packets packets 0 (length packets)) outcome
parts_in m packets shift (in_runs runs) =
    parts_between m packets shift (length packets) 1 0 (cuts packets (length packets))
parts_in m packets shift verdict = []

-- the judged runs of the flow of a media, by the packet numbers as they are
abbrev pub judged_parts : Media → List FlowPacket → (shift : Shift) → List JudgedPart
judged_parts m packets shift = parts_in m packets shift (judged_as_numbered packets m.pt shift)

-- the judged runs that have ended before packet n of a flow
abbrev pub parts_before : Media → List FlowPacket → (shift : Shift) (n : ℕ) → List JudgedPart
parts_before m packets shift n = parts_over m packets shift 1 0 (cuts packets n)

-- the run of this number, with this first packet and n packets per frame or field
abbrev pub run_by : (number : ℕ) → (first : FlowPacket) → (n : ℕ) → RunOf
run_by number first n = record { number = number; first = first; n = n }

-- the packets of the complete frames or fields of the open run, if it has any
abbrev pub open_by : (number : ℕ) → (first : FlowPacket) → (packets : List FlowPacket) → RunOutcome → Option OpenPart
open_by number first packets (no_whole_frame head) = None
open_by number first packets (whole_frames run) =
    Some (record { run = run_by number first run.n; packets = packets })

-- the run that is open before packet n of a flow, with gaps at these places before
abbrev pub open_at : List FlowPacket → (shift : Shift) → List ℕ → (n : ℕ) → Option OpenPart
open_at packets shift places n =
    let from = last_place (0 ∷ places) in
    open_by (length places + 1) (packet packets from) (judged_packets packets from n)
    (run_outcome packets shift from n)

-- the run that is open before packet n of a flow
abbrev pub open_before : List FlowPacket → (shift : Shift) (n : ℕ) → Option OpenPart
open_before packets shift n = open_at packets shift (cuts packets n) n

-- the number of packets before the first fault; n if there is none
abbrev pub sound_before : Option FirstFault → (n : ℕ) → ℕ
sound_before None n = n
sound_before (Some first) n = first.index
