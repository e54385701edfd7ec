-- What each packet of a flow adds to the lines of the flow, and what the end of the capture adds. So the lines of some
-- packets are the first part of the lines of these and more. m is the media, and `shift` that of the capture
-- timestamps. Packets count from 0, packet records from 1. This project's profile: which lines there are.
use Rattle.std.specs.Prelude.{◌≡◌, ◌+◌, ◌-◌, ◌^◌, ◌&&◌, ◌==◌, ℕ, zero, suc, Bool, true, false, if◌then◌else◌}
use Rattle.std.specs.Prelude.{nat_le, nat_lt}
use Rattle.std.specs.Prelude.{List, [], ◌∷◌, ◌++◌, length, Option, Some, None}
use Rattle.timing_base.specs.Flows.{FirstFault, expected_number, fault, first_fault, first_fault_below, has_marker}
use Rattle.timing_base.specs.Flows.{is_cut}
use Rattle.timing_base.specs.Flows.{packet, rtp, run_start}
use Rattle.timing_base.specs.Media.{Media}
use Rattle.timing_base.specs.Numbered.{numbered}
use Rattle.timing_base.specs.Shifts.{FlowOptions, Shift}
use Rattle.timing_base.specs.declared.packet.FlowPacket.{FlowPacket}
use Rattle.timing_base.specs.declared.packet.PacketFault.{PacketFault}
use Rattle.run_meter.specs.Runs.{OpenPart}
use Rattle.fail_interval.specs.Current.{unjudged_by}
use Rattle.fail_interval.specs.Parts.{open_before}
use Rattle.flow_watch.specs.Lines.{gap_line, refused_line, waiting_line}
use Rattle.flow_watch.specs.Watched.{HasLine, IsLeftLine, groups_in, left_of, open_part}
use Rattle.flow_watch.specs.declared.form.Gap.{Gap}
use Rattle.flow_watch.specs.declared.form.LineForm.{LineForm}
use Rattle.flow_watch.specs.declared.form.Waiting.{Waiting}

-- how the lines of a flow are made: its media and their form, and the frames or fields of a complete stretch
pub record Watching : Type 0 where
  pub form : LineForm
  pub every : ℕ

-- ---- what is left of a stretch

-- the line of what is left of the last stretch of the open run; none if there is no such run, or nothing is left
abbrev pub IsLeftOf : Watching → Media → Shift → Option OpenPart → List ℕ → Type 0
IsLeftOf w m shift None text = text ≡ []
IsLeftOf w m shift (Some part) text = IsLeftLine w.form w.every m shift (open_part part) text

-- the line of what is left of the last stretch of the run that is open before packet n
abbrev pub IsLeftBefore : Watching → Media → Shift → List FlowPacket → (n : ℕ) → List ℕ → Type 0
IsLeftBefore w m shift packets n text = IsLeftOf w m shift (open_before packets shift n) text

-- the line of what is left, and then another line
abbrev pub EndsStretch : Watching → Media → Shift → List FlowPacket → (n : ℕ) → (line text : List ℕ) → Type 0
EndsStretch w m shift packets n line text =
    (left : List ℕ) × IsLeftBefore w m shift packets n left × (text ≡ left ++ line)

-- ---- a run without a complete frame or field

-- packet b comes a second or more after packet a
abbrev pub is_second_later : List FlowPacket → (a b : ℕ) → Bool
is_second_later packets a b = nat_le ((packet packets a).at + 10 ^ 9) (packet packets b).at

-- the last packet that was told of, `count` packets after the first packet of a run, `from`: the run's first packet, or
-- the first one that comes a second or more after the one that was told of before
abbrev pub last_told : List FlowPacket → (from count : ℕ) → ℕ
last_told packets from zero = from
last_told packets from (suc count) =
    if is_second_later packets (last_told packets from count) (from + suc count) then from + suc count
    else last_told packets from count

-- packet i isn't the first one of its run, and comes a second or more after the last packet that was told of
abbrev pub is_due : List FlowPacket → (from i : ℕ) → Bool
is_due packets from i = nat_lt from i && (last_told packets from (i - from) == i)

-- the packets of the run from packet `from` up to packet i
abbrev pub waiting_at : List FlowPacket → (from i : ℕ) → Waiting
waiting_at packets from i = record { packets = i - from + 1; rec = (packet packets from).rec }

-- what packet i adds if its run has no complete frame or field
abbrev pub waiting_text : Watching → List FlowPacket → (from i : ℕ) → List ℕ
waiting_text w packets from i =
    if is_due packets from i then waiting_line w.form (waiting_at packets from i) else []

-- ---- a run with one

-- what a packet with the marker adds: the line of the stretch that it completes
abbrev pub AddsStretch : Watching → Media → Shift → OpenPart → (completes : Bool) → List ℕ → Type 0
AddsStretch w m shift part true text =
    HasLine w.form m shift (open_part part) (groups_in (open_part part) - w.every) (groups_in (open_part part)) text
AddsStretch w m shift part false text = text ≡ []

-- packet i has the marker, and its frame or field is the last one of a stretch
abbrev pub completes : Watching → List FlowPacket → (i : ℕ) → OpenPart → Bool
completes w packets i part = has_marker packets i && (left_of w.every (open_part part) == 0)

-- what packet i adds that continues a run. `part` has the complete frames or fields of the run up to packet i
abbrev pub AddsWithin : Watching → Media → Shift → List FlowPacket → (i : ℕ) → (part : Option OpenPart) → List ℕ
    → Type 0
AddsWithin w m shift packets i None text = text ≡ waiting_text w packets (run_start packets i) i
AddsWithin w m shift packets i (Some part) text = AddsStretch w m shift part (completes w packets i part) text

-- ---- any packet

-- the gap before packet i
abbrev pub gap_at : List FlowPacket → (i : ℕ) → Gap
gap_at packets i = record {
  rec = (packet packets i).rec;
  expected = expected_number packets i;
  got = (rtp packets i).number;
}

-- what packet i adds if it has no fault: the line of a gap, or what it adds within its run
abbrev pub AddsSound : Watching → Media → Shift → List FlowPacket → (i : ℕ) → (cut : Bool) → List ℕ → Type 0
AddsSound w m shift packets i true text = EndsStretch w m shift packets i (gap_line w.form (gap_at packets i)) text
AddsSound w m shift packets i false text = AddsWithin w m shift packets i (open_before packets shift (i + 1)) text

-- what packet i adds, which may have a fault, after packets without one
abbrev pub AddsNext : Watching → Media → Shift → List FlowPacket → (i : ℕ) → Option PacketFault → List ℕ → Type 0
AddsNext w m shift packets i None text = AddsSound w m shift packets i (is_cut packets i) text
AddsNext w m shift packets i (Some fault) text =
    EndsStretch w m shift packets i (refused_line w.form m (unjudged_by (packet packets i).rec fault)) text

-- what packet i adds: nothing if a packet before has a fault
abbrev pub AddsAfter : Watching → Media → Shift → List FlowPacket → (i : ℕ) → Option FirstFault → List ℕ → Type 0
AddsAfter w m shift packets i None text = AddsNext w m shift packets i (fault packets m.pt i) text
AddsAfter w m shift packets i (Some first) text = text ≡ []

-- what packet i adds
abbrev pub Adds : Watching → Media → Shift → List FlowPacket → (i : ℕ) → List ℕ → Type 0
Adds w m shift packets i text = AddsAfter w m shift packets i (first_fault_below packets m.pt i) text

-- what the next packet adds after those before, by the options of the flow
abbrev pub AddsPacket : Watching → Media → FlowOptions → (before : List FlowPacket) → FlowPacket → List ℕ → Type 0
AddsPacket w m options before p text =
    Adds w m options.shift (numbered options.seq16 (before ++ p ∷ [])) (length before) text

-- the lines of packets that follow those before
abbrev pub AreFlowLines : Watching → Media → FlowOptions → (before packets : List FlowPacket) → List ℕ → Type 0
AreFlowLines w m options before [] text = text ≡ []
AreFlowLines w m options before (p ∷ packets) text =
    (here : List ℕ) × (rest : List ℕ) × (text ≡ here ++ rest) × AddsPacket w m options before p here
    × AreFlowLines w m options (before ++ p ∷ []) packets rest

-- ---- the end

-- what the end adds: the line of what is left of a stretch, unless a packet has a fault
abbrev pub IsLeftUnless : Watching → Media → Shift → List FlowPacket → Option FirstFault → List ℕ → Type 0
IsLeftUnless w m shift packets None text = IsLeftBefore w m shift packets (length packets) text
IsLeftUnless w m shift packets (Some first) text = text ≡ []

-- what the end adds to the lines of these packets, by the options of the flow
abbrev pub IsLeftEnd : Watching → Media → FlowOptions → List FlowPacket → List ℕ → Type 0
IsLeftEnd w m options packets text =
    let judged = numbered options.seq16 packets in
    IsLeftUnless w m options.shift judged (first_fault judged m.pt) text
