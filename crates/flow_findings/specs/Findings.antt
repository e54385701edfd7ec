-- Which findings hold of the flow of a media, in the order of the list: of the flow as a whole, of its gaps, and of the
-- judged run that is shown, x, by its numbers for the sender type K (SMPTE ST 2110-21). m is the media. Capture
-- timestamps are nanoseconds of TAI, RTP timestamps and steps ticks of 90 kHz (RFC 4175, section 4.1; SMPTE ST 2110-10,
-- media clock), drifts tenths of a ppm. The bucket, the buffer and its reads are the standard's. This project's
-- profile: all findings, their limits and their order.
use Rattle.std.specs.Prelude.{ℕ, ℤ, pos, neg_ℤ, ◌+◌, ◌-◌, ◌*◌, ◌/◌, ◌^◌, ◌+ℤ◌, ◌-ℤ◌, ◌*ℤ◌, ◌==◌, ◌&&◌, ◌||◌, not}
use Rattle.std.specs.Prelude.{Bool, true, false, min, max, nat_le, nat_lt, int_lt, if◌then◌else◌, List, [], ◌++◌}
use Rattle.std.specs.Prelude.{length, find, Option, Some, None}
use Rattle.std.specs.Int.{div_ceil}
use Rattle.std.specs.List.{count_by, list_all, list_any}
use Rattle.std.specs.Option.{option_map, option_to_list}
use Rattle.timing_base.specs.Addresses.{is_same_address}
use Rattle.timing_base.specs.Keys.{key_of, media_of}
use Rattle.timing_base.specs.Media.{Media}
use Rattle.timing_base.specs.Targets.{is_same_target, target_of}
use Rattle.timing_base.specs.declared.row.KindVerdict.{KindVerdict}
use Rattle.timing_base.specs.declared.row.KindVerdict.TheVariants as kind_verdict
use Rattle.timing_base.specs.declared.row.Run.{Run}
use Rattle.timing_base.specs.declared.row.RunVerdict.{RunVerdict}
use Rattle.timing_base.specs.declared.row.RunVerdict.TheVariants as run_verdict
use Rattle.timing_base.specs.declared.row.Unjudged.{Unjudged}
use Rattle.timing_base.specs.declared.row.Unjudged.TheVariants as unjudged
use Rattle.timing_base.specs.declared.row.Verdict.{Verdict}
use Rattle.timing_base.specs.declared.row.Verdict.TheVariants as verdict
use Rattle.timing_base.specs.declared.target.Target.{Target}
use Rattle.sender_params.specs.Times.{group_time, groups_of}
use Rattle.timing_report.specs.Outcomes.{first_passing, is_pass}
use Rattle.flow_measure.specs.declared.columns.slope.Slope.{Slope}
use Rattle.flow_measure.specs.declared.numbers.Place.{Place}
use Rattle.capture_scan.specs.declared.found.PassedOver.{PassedOver}
use Rattle.capture_scan.specs.declared.stream.Stream.{Stream}
use Rattle.flow_findings.specs.Gaps.{backs, gaps_of, losses, missing, wraps}
use Rattle.flow_findings.specs.Numbers.{kind_of, numbers_of}
use Rattle.flow_findings.specs.declared.explained.Explained.{Explained}
use Rattle.flow_findings.specs.declared.explained.ExplainedRun.{ExplainedRun}
use Rattle.flow_findings.specs.declared.explained.RunCounts.{RunCounts}
use Rattle.flow_findings.specs.declared.finding.BrokenBuffer.{BrokenBuffer}
use Rattle.flow_findings.specs.declared.finding.DescribedRate.{DescribedRate}
use Rattle.flow_findings.specs.declared.finding.Finding.{Finding}
use Rattle.flow_findings.specs.declared.finding.Finding.TheVariants as finding
use Rattle.flow_findings.specs.declared.finding.Refusal.TheVariants.{Fault, Gap}
use Rattle.flow_findings.specs.declared.finding.Steps.{Steps}
use Rattle.flow_findings.specs.declared.gaps.Gap as gap
use Rattle.flow_findings.specs.declared.inputs.KnownCaptures.{KnownCaptures}
use Rattle.flow_findings.specs.declared.inputs.KnownFlow.{KnownFlow}
use Rattle.flow_findings.specs.declared.inputs.ShownRun.{ShownRun}
use Rattle.flow_findings.specs.declared.numbers.ShownNumbers.{ShownNumbers}

-- a finding, if it holds
abbrev pub found_if : Bool → Finding → Option Finding
found_if true f = Some f
found_if false f = None

-- ---- of the flow as a whole

-- no packet came to the target of the media
abbrev pub is_absent : Verdict → Bool
is_absent (verdict.Unjudged unjudged.Absent) = true
is_absent _ = false

-- one of the media of the SDP has this target
abbrev pub is_described : List Media → Target → Bool
is_described session target = list_any (λ m. is_same_target (target_of m) target) session

-- a target has the address or the port of another one
abbrev pub is_similar : Target → Target → Bool
is_similar a b = is_same_address a.address b.address || (a.port == b.port)

-- a stream of three frames or more may be that of the media: it goes to no target of the SDP, and to a similar one
abbrev pub may_be_of : List Media → Media → Stream → Bool
may_be_of session m s =
    nat_le 3 s.markers && (not (is_described session s.target) && is_similar s.target (target_of m))

-- elsewhere: the media is absent, and a stream may be its own; the first such stream
abbrev pub elsewhere : List Media → Media → Verdict → List Stream → Option Finding
elsewhere session m v streams =
    if is_absent v then option_map (λ s. finding.Elsewhere s.target s.packets) (find (may_be_of session m) streams)
    else None

-- absent: the media is absent, and no stream may be its own
abbrev pub absent : List Media → Media → Verdict → PassedOver → List Stream → Option Finding
absent session m v passed_over streams =
    found_if (is_absent v && not (list_any (may_be_of session m) streams))
    (finding.Absent passed_over (length streams))

-- refused: a packet has a fault, or the flow has one gap more than is allowed
abbrev pub refused : Verdict → Option Finding
refused (verdict.Unjudged (unjudged.Refused rec fault)) = Some (finding.Refused rec (Fault fault))
refused (verdict.Unjudged (unjudged.Gap rec expected got)) = Some (finding.Refused rec (Gap expected got))
refused _ = None

-- a run has no whole frame or field
abbrev pub has_no_frame : RunVerdict → Bool
has_no_frame (run_verdict.NoWholeFrame head) = true
has_no_frame (run_verdict.Judged judged) = false

-- none of these runs has a whole frame or field
abbrev pub have_no_frame : List Run → Bool
have_no_frame runs = list_all (λ run. has_no_frame run.verdict) runs

-- the flow has no gap and no whole frame or field. What is wrong with a flow with gaps are first its gaps, also if no
-- run has a whole frame or field
abbrev pub is_unmarked : Verdict → Bool
is_unmarked (verdict.Unjudged (unjudged.NoWholeFrame head)) = true
is_unmarked _ = false

-- the count of markers of the stream to the media's target, if it is among the streams that are listed. A flow that
-- isn't refused is one stream: its packets are read as RTP, and have one SSRC
abbrev pub markers_to : Media → List Stream → Option ℕ
markers_to m streams = option_map (λ s. s.markers) (find (λ s. is_same_target s.target (target_of m)) streams)

-- unmarked: packets came without a gap, and there is no whole frame or field
abbrev pub unmarked : Media → Verdict → (packets : ℕ) → List Stream → Option Finding
unmarked m v packets streams = found_if (is_unmarked v) (finding.Unmarked packets (markers_to m streams))

-- ---- of its gaps

-- wrap: the sequence number wraps, and the extended sequence number stays 0
abbrev pub wrap : (seq16 : Bool) → List gap.Gap → Option Finding
wrap seq16 gaps = found_if (nat_lt 0 (wraps seq16 gaps)) (finding.Wrap (wraps seq16 gaps))

-- loss: packets are missing
abbrev pub loss : (seq16 : Bool) → List gap.Gap → Option Finding
loss seq16 gaps =
    found_if (nat_lt 0 (losses seq16 gaps)) (finding.Loss (losses seq16 gaps) (missing seq16 gaps))

-- order: packet numbers go back
abbrev pub order : (seq16 : Bool) → List gap.Gap → Option Finding
order seq16 gaps = found_if (nat_lt 0 (backs seq16 gaps)) (finding.Order (backs seq16 gaps))

-- ---- of the run that is shown: its frame rate and its clock

-- the frames or fields in q seconds
abbrev pub groups_in_q : Media → ℕ
groups_in_q m = m.p * groups_of m

-- the ticks of the media clock in q seconds
abbrev pub ticks_in_q : Media → ℕ
ticks_in_q m = 90000 * m.q

-- the ticks of a frame or field, rounded down
abbrev pub least_step : Media → ℕ
least_step m = ticks_in_q m / max 1 (groups_in_q m)

-- the same, rounded up
abbrev pub greatest_step : Media → ℕ
greatest_step m = div_ceil (ticks_in_q m) (max 1 (groups_in_q m))

-- a step of the RTP timestamp isn't that of the described rate
abbrev pub misfits : Media → Option Steps → Bool
misfits m None = false
misfits m (Some s) = int_lt s.least (pos (least_step m)) || int_lt (pos (greatest_step m)) s.greatest

-- a slope in tenths of a ppm, rounded toward zero, without its sign; a change above 2^64 ns counts as 2^64 ns
abbrev pub tenths_of : Media → Slope → ℕ
tenths_of m s = min s.by (2 ^ 64) * 10000000 * (group_time m).1 / max 1 (s.over * (group_time m).0)

-- the tenths of a ppm of a slope, and 0 without one
abbrev pub drift_tenths : Media → Option Slope → ℕ
drift_tenths m None = 0
drift_tenths m (Some s) = tenths_of m s

-- the described frame rate
abbrev pub described_rate : Media → DescribedRate
described_rate m = record { p = m.p; q = m.q }

-- rate: a step isn't that of the described rate, or the first packets drift by 500 ppm or more
abbrev pub rate : Media → ShownNumbers → Option Finding
rate m x =
    found_if (misfits m x.steps || nat_le 5000 (drift_tenths m x.slope))
    (finding.Rate (described_rate m) x.steps x.mean_period)

-- the ticks by which TAI was ahead of UTC from 2017 on: 37 s
abbrev pub leap_ticks : ℕ
leap_ticks = 3330000

-- a number of ticks is above this many frames or fields below 0
abbrev pub is_above : Media → (times : ℕ) → ℤ → Bool
is_above m times ticks = int_lt (neg_ℤ (pos (times * ticks_in_q m))) (ticks *ℤ pos (groups_in_q m))

-- a number of ticks is below this many frames or fields
abbrev pub is_below : Media → (times : ℕ) → ℤ → Bool
is_below m times ticks = int_lt (ticks *ℤ pos (groups_in_q m)) (pos (times * ticks_in_q m))

-- a number of ticks is above -`below` and below `above` times the ticks of a frame or field
abbrev pub is_within : Media → (below above : ℕ) → ℤ → Bool
is_within m below above ticks = is_above m below ticks && is_below m above ticks

-- the RTP timestamp of the first frame or field is 37 s ahead of the media clock
abbrev pub is_utc : Media → ShownNumbers → Bool
is_utc m x = is_within m 1 2 (x.offset -ℤ pos leap_ticks)

-- the RTP timestamp of the first frame or field is 37 s behind the media clock
abbrev pub is_tai_twice : Media → ShownNumbers → Bool
is_tai_twice m x = is_within m 2 1 (x.offset +ℤ pos leap_ticks)

-- utc: RTP timestamps are TAI, and capture timestamps UTC
abbrev pub utc : Media → ShownNumbers → Option Finding
utc m x = found_if (is_utc m x) (finding.Utc x.offset)

-- tai_twice: capture timestamps were TAI before seconds were added
abbrev pub tai_twice : Media → ShownNumbers → Option Finding
tai_twice m x = found_if (is_tai_twice m x) (finding.TaiTwice x.offset)

-- ---- of the run that is shown: the limits of K

-- burst, with the place in the capture of the first packet after which the bucket exceeds C_MAX
abbrev pub burst_at : ShownNumbers → Place → Finding
burst_at x first =
    finding.Burst x.bucket_peak x.limits.c_max x.limits.above_bucket x.overfull.groups first x.span x.period

-- burst: the bucket exceeds C_MAX after a packet
abbrev pub burst : ShownNumbers → Option Finding
burst x = option_map (burst_at x) x.overfull.first

-- the packets break the buffer: one is late, or the buffer exceeds VRX_FULL after one
abbrev pub breaks_buffer : ShownNumbers → Bool
breaks_buffer x = nat_lt 0 x.limits.above_buffer || nat_lt 0 x.late

-- an offset serves for both ends of the buffer
abbrev pub serve : (least greatest : Option ℕ) → Bool
serve (Some least) (Some greatest) = nat_le least greatest
serve _ _ = false

-- an offset would serve
abbrev pub has_offset : ShownNumbers → Bool
has_offset x = serve x.limits.offsets.least x.limits.offsets.greatest

-- the packets that break the buffer, and the offsets that would serve
abbrev pub broken_buffer : ShownNumbers → BrokenBuffer
broken_buffer x = record {
  late = x.late;
  above = x.limits.above_buffer;
  slack = x.slack;
  offsets = x.limits.offsets;
  target = x.target;
}

-- phase: the packets break the buffer, and an offset would serve
abbrev pub phase : ShownNumbers → Option Finding
phase x = found_if (breaks_buffer x && has_offset x) (finding.Phase (broken_buffer x))

-- pacing: the packets break the buffer, and no offset would serve
abbrev pub pacing : ShownNumbers → Option Finding
pacing x = found_if (breaks_buffer x && not (has_offset x)) (finding.Pacing (broken_buffer x))

-- tenths of a ppm with the sign of a slope
abbrev pub signed_tenths : Media → Slope → ℤ
signed_tenths m s = if s.falls then neg_ℤ (pos (tenths_of m s)) else pos (tenths_of m s)

-- a drift of 1 ppm or more, and less than 500
abbrev pub drifts : Media → Slope → Bool
drifts m s = nat_le 10 (tenths_of m s) && nat_lt (tenths_of m s) 5000

-- drift: the first packets drift by 1 ppm or more, and less than 500
abbrev pub drift : Media → Option Slope → Option Finding
drift m None = None
drift m (Some s) = found_if (drifts m s) (finding.Drift (signed_tenths m s))

-- at least one frame or field breaks a limit of K, and at most one of a hundred
abbrev pub breaks_rarely : ShownNumbers → Bool
breaks_rarely x = nat_le 1 x.limits.groups_broken && nat_le (x.limits.groups_broken * 100) x.groups

-- the number, from 1, of the frame or field of packet i, from 0; 2^64 - 1 if it is greater, which it isn't in a run
abbrev pub group_at : ShownNumbers → (i : ℕ) → ℕ
group_at x i = min (i / max 1 x.n + 1) (2 ^ 64 - 1)

-- rare: few frames or fields break a limit; the violation of the verdict ends with the first packet that breaks one
abbrev pub rare_by : ShownNumbers → KindVerdict → Option Finding
rare_by x kind_verdict.Pass = None
rare_by x (kind_verdict.Fail proof) =
    found_if (breaks_rarely x) (finding.Rare x.limits.groups_broken x.groups (group_at x proof.to))

abbrev pub rare : ShownNumbers → Option Finding
rare x = rare_by x x.verdict

-- pass: all packets keep the limits
abbrev pub pass : ShownNumbers → Option Finding
pass x =
    found_if (is_pass x.verdict)
    (finding.Pass x.bucket_peak x.limits.c_max x.buffer_peak x.limits.vrx_full x.slack)

-- ---- of the captures, and of the clock again

-- microseconds: all of at least 100 packet records have a whole number of microseconds
abbrev pub microseconds : (whole : Bool) → (records : ℕ) → ShownNumbers → Option Finding
microseconds whole records x = found_if (whole && nat_le 100 records) (finding.Microseconds x.drain)

-- the RTP timestamp differs from the media clock by two frames or fields or more, and not for the 37 s of UTC
abbrev pub is_unlocked : Media → ShownNumbers → Bool
is_unlocked m x = not (is_utc m x) && (not (is_tai_twice m x) && not (is_within m 2 2 x.offset))

-- unlocked: RTP timestamps differ from the media clock
abbrev pub unlocked : Media → ShownNumbers → Option Finding
unlocked m x = found_if (is_unlocked m x) (finding.Unlocked x.offset)

-- ---- the list

-- the findings on the flow as a whole
abbrev pub flow_findings : List Media → Media → KnownCaptures → KnownFlow → List Finding
flow_findings session m c flow =
    option_to_list (elsewhere session m flow.verdict c.streams)
    ++ (option_to_list (absent session m flow.verdict c.passed_over c.streams)
    ++ (option_to_list (refused flow.verdict)
    ++ option_to_list (unmarked m flow.verdict flow.packets c.streams)))

-- the findings on its gaps
abbrev pub gap_findings : (seq16 : Bool) → List gap.Gap → List Finding
gap_findings seq16 gaps =
    option_to_list (wrap seq16 gaps) ++ (option_to_list (loss seq16 gaps) ++ option_to_list (order seq16 gaps))

-- the findings on the frame rate of the run and on the seconds of its timestamps
abbrev pub clock_findings : Media → ShownNumbers → List Finding
clock_findings m x =
    option_to_list (rate m x) ++ (option_to_list (utc m x) ++ option_to_list (tai_twice m x))

-- the findings on the limits of K
abbrev pub limit_findings : Media → ShownNumbers → List Finding
limit_findings m x =
    option_to_list (burst x)
    ++ (option_to_list (phase x)
    ++ (option_to_list (pacing x)
    ++ (option_to_list (drift m x.slope)
    ++ (option_to_list (rare x)
    ++ option_to_list (pass x)))))

-- the findings that no limit depends on
abbrev pub other_findings : Media → KnownCaptures → ShownNumbers → List Finding
other_findings m c x =
    option_to_list (microseconds c.whole_microseconds c.records x) ++ option_to_list (unlocked m x)

-- the findings on a run with these numbers
abbrev pub numbers_findings : Media → KnownCaptures → ShownNumbers → List Finding
numbers_findings m c x = clock_findings m x ++ (limit_findings m x ++ other_findings m c x)

-- the findings on the run that is shown, if there is one
abbrev pub run_findings : Media → KnownCaptures → Option ShownRun → List Finding
run_findings m c None = []
run_findings m c (Some s) = numbers_findings m c (numbers_of m s)

-- all findings on the flow of this media
abbrev pub media_findings : List Media → Media → KnownCaptures → KnownFlow → List Finding
media_findings session m c flow =
    flow_findings session m c flow
    ++ (gap_findings c.seq16 (gaps_of flow.verdict) ++ run_findings m c flow.shown)

-- ---- a flow with its findings

-- the media of a flow
abbrev pub media_at : List Media → KnownFlow → Media
media_at session flow = media_of session (key_of 0 flow.media)

-- the run of this media that is shown, in short
abbrev pub shown_in_short : Media → ShownRun → ExplainedRun
shown_in_short m s = record {
  class = first_passing s.run.judged;
  kind = kind_of m.declared s.run.judged;
  groups = s.run.judged.frames;
  packets = s.run.judged.packets;
}

-- this many runs are judged, of this many
abbrev pub judged_of : (judged all : ℕ) → Option RunCounts
judged_of judged all = Some (record { judged = judged; all = all })

-- the count of runs of a flow that isn't judged: none without a packet, and none of a flow that is refused
abbrev pub unjudged_runs : Unjudged → Option RunCounts
unjudged_runs unjudged.Absent = None
unjudged_runs (unjudged.NoWholeFrame head) = judged_of 0 1
unjudged_runs (unjudged.Refused rec fault) = judged_of 0 0
unjudged_runs (unjudged.Gap rec expected got) = judged_of 0 0

-- the count of runs of a flow; none without a packet
abbrev pub runs_of : Verdict → Option RunCounts
runs_of (verdict.Unjudged unjudged) = unjudged_runs unjudged
runs_of (verdict.Judged judged) = judged_of 1 1
runs_of (verdict.Runs runs) = judged_of (count_by (λ run. not (has_no_frame run.verdict)) runs) (length runs)

-- a flow of the session with all its findings
abbrev pub explained : List Media → KnownCaptures → KnownFlow → Explained
explained session c flow = record {
  media = flow.media;
  runs = runs_of flow.verdict;
  shown = option_map (shown_in_short (media_at session flow)) flow.shown;
  findings = media_findings session (media_at session flow) c flow;
}
