-- The verdicts on each judged run of a flow are those on its judged packets.
use Rattle.std.specs.Prelude.{◌==◌, nat_lt, if◌then◌else◌, All}
use Rattle.std.proofs.Common.{◌+◌, ◌∷◌, [], ℕ, Bool, true, false, List, length, Option, Some, None}
use Rattle.std.proofs.lemmas.List.Elements.{All-append, All-cons, All-nil}
use Rattle.timing_base.specs.Shifts.{Shift}
use Rattle.timing_base.specs.Flows.{FirstFault, cuts, first_fault, markers, packet}
use Rattle.timing_base.specs.Judged.{absent, head_len, in_one_run, in_runs, judged_run, judged_runs, no_whole_frame, refusal, refused_or, run_outcome, runs}
use Rattle.timing_base.specs.Judged.{whole_frames}
use Rattle.timing_base.specs.Media.{Media}
use Rattle.timing_base.specs.declared.media.Kind.TheVariants.{N, NL, W}
use Rattle.timing_base.specs.declared.packet.FlowPacket.{FlowPacket}
use Rattle.timing_base.specs.declared.packet.PacketFault.{PacketFault}
use Rattle.timing_base.specs.declared.packet.PacketFault.TheVariants as fault
use Rattle.run_meter.specs.Runs.{JudgedPart, NameFirst, stamps_of}
use Rattle.fail_interval.specs.Parts.{judged_packets, judged_parts, part_between, part_by, parts_between, parts_in}
use Rattle.fail_interval.proofs.Confirmed.{names-first}

-- the verdicts on a run each name the first of its packets that violates a model
abbrev pub NamesOwn : Media → (shift : Shift) → JudgedPart → Type 0
NamesOwn m shift part = NameFirst m part.values.n (stamps_of shift part.packets) part.values.kinds

-- of a run, whether it has a complete frame or field
names-case : (m : Media) (packets : List FlowPacket) (shift : Shift) (number from to : ℕ) (few : Bool)
    → All (NamesOwn m shift) (part_by m number (packet packets from) (judged_packets packets from to)
    (if few then no_whole_frame (head_len (markers packets from to) from to) else whole_frames (judged_run packets shift from to)))
names-case m packets shift number from to true = All-nil (NamesOwn m shift)
names-case m packets shift number from to false =
    let run = judged_run packets shift from to in
    All-cons (NamesOwn m shift) _ [] (names-first m run.n run.stamps N, names-first m run.n run.stamps NL, names-first m run.n run.stamps W)
    (All-nil (NamesOwn m shift))

names-between : (m : Media) (packets : List FlowPacket) (shift : Shift) (number from to : ℕ)
    → All (NamesOwn m shift) (part_between m packets shift number from to)
names-between m packets shift number from to =
    names-case m packets shift number from to (nat_lt (length (markers packets from to)) 2)

-- of the runs between gaps
names-runs : (m : Media) (packets : List FlowPacket) (shift : Shift) (to number from : ℕ) (places : List ℕ)
    → All (NamesOwn m shift) (parts_between m packets shift to number from places)
names-runs m packets shift to number from [] = names-between m packets shift number from to
names-runs m packets shift to number from (cut ∷ rest) =
    All-append (NamesOwn m shift) (part_between m packets shift number from cut) (parts_between m packets shift to (number + 1) cut rest)
    (names-between m packets shift number from cut) (names-runs m packets shift to (number + 1) cut rest)

-- of a flow that is refused, which has none
names-refused : (m : Media) (packets : List FlowPacket) (shift : Shift) (rec : ℕ) (why : PacketFault)
    → All (NamesOwn m shift) (parts_in m packets shift (refusal rec why))
names-refused m packets shift rec (fault.Number expected got) = All-nil (NamesOwn m shift)
names-refused m packets shift rec fault.Short = All-nil (NamesOwn m shift)
names-refused m packets shift rec fault.Version = All-nil (NamesOwn m shift)
names-refused m packets shift rec fault.PayloadType = All-nil (NamesOwn m shift)
names-refused m packets shift rec fault.SecondSource = All-nil (NamesOwn m shift)
names-refused m packets shift rec (fault.StampBack before got) = All-nil (NamesOwn m shift)
names-refused m packets shift rec fault.NoMarker = All-nil (NamesOwn m shift)
names-refused m packets shift rec fault.SameStamp = All-nil (NamesOwn m shift)
names-refused m packets shift rec (fault.FrameSize want got) = All-nil (NamesOwn m shift)
names-refused m packets shift rec fault.FrameTooLarge = All-nil (NamesOwn m shift)

-- of a flow in one run, or in several
names-judged : (m : Media) (packets : List FlowPacket) (shift : Shift) (one : Bool)
    → All (NamesOwn m shift) (parts_in m packets shift
    (if one then in_one_run (run_outcome packets shift 0 (length packets)) else in_runs (runs packets shift)))
names-judged m packets shift true = names-between m packets shift 1 0 (length packets)
names-judged m packets shift false = names-runs m packets shift (length packets) 1 0 (cuts packets (length packets))

names-sound : (m : Media) (packets : List FlowPacket) (shift : Shift) (first : Option FirstFault)
    → All (NamesOwn m shift) (parts_in m packets shift (refused_or packets first (judged_runs packets shift)))
names-sound m packets shift (Some first) = names-refused m packets shift (packet packets first.index).rec first.fault
names-sound m packets shift None = names-judged m packets shift (length (cuts packets (length packets)) == 0)

-- of a flow with packets, or without
names-some : (m : Media) (packets : List FlowPacket) (shift : Shift) (none : Bool)
    → All (NamesOwn m shift) (parts_in m packets shift
    (if none then absent else refused_or packets (first_fault packets m.pt) (judged_runs packets shift)))
names-some m packets shift true = All-nil (NamesOwn m shift)
names-some m packets shift false = names-sound m packets shift (first_fault packets m.pt)

-- of all judged runs of a flow
pub names-own : (m : Media) (packets : List FlowPacket) (shift : Shift) → All (NamesOwn m shift) (judged_parts m packets shift)
names-own m packets shift = names-some m packets shift (length packets == 0)
