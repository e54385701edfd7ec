-- What is judged of a flow: its runs, and in each the packets of whole frames or fields.
-- A run is what lies between two gaps in the packet numbers. Its packets up to and including the first marker are the
-- head, those after the last marker the tail, and those between are judged.
-- Times are nanoseconds; a group is a frame of a progressive video or a field of an interlaced one.
use Rattle.std.specs.Prelude.{ℕ, ◌+◌, ◌-◌, ◌==◌, nat_lt, if◌then◌else◌, List, [], ◌∷◌, length, map}
use Rattle.std.specs.Prelude.{slice_index, slice_range, Option, Some, None}
use Rattle.timing_base.specs.declared.packet.FlowPacket.{FlowPacket}
use Rattle.timing_base.specs.declared.packet.PacketFault.{PacketFault}
use Rattle.timing_base.specs.declared.packet.PacketFault.TheVariants.{Number}
use Rattle.timing_base.specs.Flows.{FirstFault, packet, rtp, expected_number, cuts, markers, last_place, group_len}
use Rattle.timing_base.specs.Flows.{first_fault}
use Rattle.timing_base.specs.Numbered.{numbered}
use Rattle.timing_base.specs.Shifts.{Shift, FlowOptions, shifted}

-- the judged packets of a run
pub record JudgedRun : Type 0 where
  -- the number of packets in each frame or field
  pub n : ℕ
  -- the number of frames or fields
  pub groups : ℕ
  -- the number of packets before the judged ones, and of those after them
  pub head : ℕ
  pub tail : ℕ
  -- the capture timestamp of each judged packet after the shift, in nanoseconds of TAI
  pub stamps : List ℕ

-- what is judged of one run. A run with fewer than two markers has only a head: the packets up to and including the
-- first marker, or all of them
pub data RunOutcome : Type 0 where
  no_whole_frame : (head : ℕ) → RunOutcome
  whole_frames : JudgedRun → RunOutcome

-- a run: the packets between two gaps
pub record FlowRun : Type 0 where
  -- the packet record and the packet number of its first packet
  pub rec : ℕ
  pub number : ℕ
  -- the packet number that would have continued the run before; none for the first run
  pub expected : Option ℕ
  -- what is judged of it
  pub outcome : RunOutcome

-- what is judged of a flow
pub data FlowVerdict : Type 0 where
  absent : FlowVerdict
  refused : (rec : ℕ) (fault : PacketFault) → FlowVerdict
  gap : (rec expected got : ℕ) → FlowVerdict
  in_one_run : RunOutcome → FlowVerdict
  in_runs : List FlowRun → FlowVerdict

-- the capture timestamp of a packet after this shift, in nanoseconds
abbrev pub stamp_of : Shift → FlowPacket → ℕ
stamp_of shift packet = shifted shift packet.at

-- the number of packets from a place up to and including the first of these markers, or up to the end if there is
-- none
abbrev pub head_len : List ℕ → ℕ → ℕ → ℕ
head_len marks from to = if length marks == 0 then to - from else slice_index marks 0 + 1 - from

-- a run of two or more markers: the packets after the first marker and up to the last one are judged
abbrev pub judged_run : List FlowPacket → Shift → ℕ → ℕ → JudgedRun
judged_run packets shift from to = let marks = markers packets from to in record {
  n = group_len marks;
  groups = length marks - 1;
  head = head_len marks from to;
  tail = to - (last_place marks + 1);
  stamps = map (stamp_of shift) (slice_range packets (slice_index marks 0 + 1) (last_place marks + 1));
}

-- the run from the first place to before the second
abbrev pub run_outcome : List FlowPacket → Shift → ℕ → ℕ → RunOutcome
run_outcome packets shift from to =
    if nat_lt (length (markers packets from to)) 2 then no_whole_frame (head_len (markers packets from to) from to)
    else whole_frames (judged_run packets shift from to)

-- the packet number that would have continued the run before, if this isn't the first run
abbrev pub expected_at : List FlowPacket → ℕ → Option ℕ
expected_at packets from = if from == 0 then None else Some (expected_number packets from)

-- a run, with the packet record and the packet number of its first packet
abbrev pub run_at : List FlowPacket → Shift → ℕ → ℕ → FlowRun
run_at packets shift from to = record {
  rec = (packet packets from).rec;
  number = (rtp packets from).number;
  expected = expected_at packets from;
  outcome = run_outcome packets shift from to;
}

-- the runs from a place up to the end, with gaps at these places between
abbrev pub runs_between : List FlowPacket → Shift → ℕ → ℕ → List ℕ → List FlowRun
runs_between packets shift to from [] = run_at packets shift from to ∷ []
runs_between packets shift to from (cut ∷ rest) = run_at packets shift from cut ∷ runs_between packets shift to cut rest

-- the runs of a flow
abbrev pub runs : List FlowPacket → Shift → List FlowRun
runs packets shift = runs_between packets shift (length packets) 0 (cuts packets (length packets))

-- one gap too many is reported as a gap, each other fault as itself
abbrev pub refusal : ℕ → PacketFault → FlowVerdict
refusal rec (Number expected got) = gap rec expected got
refusal rec fault = refused rec fault

-- a flow with a fault isn't judged
abbrev pub refused_or : List FlowPacket → Option FirstFault → FlowVerdict → FlowVerdict
refused_or packets (Some first) verdict = refusal (packet packets first.index).rec first.fault
refused_or packets None verdict = verdict

-- what is judged of a flow without a fault: one run, or the runs between its gaps
abbrev pub judged_runs : List FlowPacket → Shift → FlowVerdict
judged_runs packets shift =
    if length (cuts packets (length packets)) == 0 then in_one_run (run_outcome packets shift 0 (length packets))
    else in_runs (runs packets shift)

-- what is judged of the packets of one media with this payload type, by their packet numbers as they are
abbrev pub judged_as_numbered : List FlowPacket → ℕ → Shift → FlowVerdict
judged_as_numbered packets pt shift =
    if length packets == 0 then absent else refused_or packets (first_fault packets pt) (judged_runs packets shift)

-- what is judged of the packets of one media with this payload type: by their packet numbers, or with `--seq16` by
-- numbers that are counted by sequence numbers alone, at their capture timestamps after the shift
abbrev pub judged : List FlowPacket → ℕ → FlowOptions → FlowVerdict
judged packets pt options = judged_as_numbered (numbered options.seq16 packets) pt options.shift
