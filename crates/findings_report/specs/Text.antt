-- The findings as lines of text: for each media a line, and for each of its findings a sentence and a line with what to
-- do. Media, packet records, and frames or fields count from 1. This project's profile: the whole format.
use Rattle.std.specs.Prelude.{ℕ, ℤ, pos, ◌+◌, ◌==◌, ◌&&◌, nat_lt, int_lt, unsigned_abs, Bool, true, false}
use Rattle.std.specs.Prelude.{if◌then◌else◌, List, [], ◌∷◌, ◌++◌, codes, Option, Some, None}
use Rattle.std.specs.Fmt.{decimal, signed_decimal}
use Rattle.std.specs.List.{flat_map}
use Rattle.timing_base.specs.Keys.{key_of, media_of}
use Rattle.timing_base.specs.Media.{Media}
use Rattle.timing_base.specs.Targets.{target_of, target_text}
use Rattle.timing_base.specs.declared.capture.FileNote.{FileNote}
use Rattle.timing_base.specs.declared.capture.FileNote.TheVariants.{End}
use Rattle.timing_base.specs.declared.media.Kind.TheVariants.{W}
use Rattle.timing_base.specs.declared.packet.PacketFault.{PacketFault}
use Rattle.timing_base.specs.declared.packet.PacketFault.TheVariants.{Short, Version, PayloadType, SecondSource, Number}
use Rattle.timing_base.specs.declared.packet.PacketFault.TheVariants.{StampBack, NoMarker, SameStamp, FrameSize}
use Rattle.timing_base.specs.declared.packet.PacketFault.TheVariants.{FrameTooLarge}
use Rattle.timing_base.specs.declared.target.Target.{Target}
use Rattle.timing_report.specs.Text.{ended, file_text}
use Rattle.timing_report.specs.Words.{class_name, declared_name, group_name, kind_name, packet_fault_text}
use Rattle.flow_measure.specs.declared.numbers.Place.{Place}
use Rattle.capture_scan.specs.declared.found.PassedOver.{PassedOver}
use Rattle.flow_findings.specs.declared.explained.Explained.{Explained}
use Rattle.flow_findings.specs.declared.explained.ExplainedRun.{ExplainedRun}
use Rattle.flow_findings.specs.declared.finding.BrokenBuffer.{BrokenBuffer}
use Rattle.flow_findings.specs.declared.finding.DescribedRate.{DescribedRate}
use Rattle.flow_findings.specs.declared.finding.Finding.{Finding}
use Rattle.flow_findings.specs.declared.finding.Finding.TheVariants as finding
use Rattle.flow_findings.specs.declared.finding.Refusal.{Refusal}
use Rattle.flow_findings.specs.declared.finding.Refusal.TheVariants.{Fault, Gap}
use Rattle.flow_findings.specs.declared.finding.Steps.{Steps}
use Rattle.findings_report.specs.declared.setting.Setting.{Setting}
use Rattle.findings_report.specs.Times.{epoch_text, micro_sign, signed_time_text, tenths_text, time_text}
use Rattle.flow_findings.specs.Words.{finding_name}

-- ---- words

-- a count with its noun
abbrev pub counted : ℕ → (noun : List ℕ) → List ℕ
counted n noun = decimal n ++ (codes " " ++ (noun ++ (if n == 1 then [] else codes "s")))

-- packets, with their count
abbrev pub packets_text : ℕ → List ℕ
packets_text n = counted n (codes "packet")

-- gaps, with their count
abbrev pub gaps_text : ℕ → List ℕ
gaps_text n = counted n (codes "gap")

-- frames or fields, with their count
abbrev pub groups_text : Setting → ℕ → List ℕ
groups_text s n = counted n (group_name s.interlaced)

-- `frame` or `field`
abbrev pub group_of : Setting → List ℕ
group_of s = group_name s.interlaced

-- what the sentences on a flow of this media have in common
abbrev pub setting_of : Media → Option ExplainedRun → Setting
setting_of m None = record { interlaced = m.interlaced; kind = W; groups = 0; packets = 0 }
setting_of m (Some run) =
    record { interlaced = m.interlaced; kind = run.kind; groups = run.groups; packets = run.packets }

-- ---- of the flow as a whole

-- elsewhere
abbrev pub elsewhere_text : Target → (packets : ℕ) → List ℕ
elsewhere_text target packets =
    codes "no packet comes to this target, but " ++ (packets_text packets ++ (codes " to " ++ (target_text target
    ++ codes ", which the description doesn't have.")))

-- a class of frames without a target, if there is one
abbrev pub class_text : ℕ → (what : List ℕ) → List ℕ
class_text frames what =
    if frames == 0 then [] else codes " Passed over: " ++ (decimal frames ++ (codes " (" ++ (what ++ codes ").")))

-- the classes of frames without a target
abbrev pub passed_over_text : PassedOver → List ℕ
passed_over_text n =
    class_text n.empty (codes "no byte, or a packet of another link")
    ++ (class_text n.tags (codes "more than one VLAN tag, or a provider's")
    ++ (class_text n.ipv6 (codes "IPv6")
    ++ (class_text n.other (codes "neither IPv4 nor IPv6")
    ++ (class_text n.not_udp (codes "IPv4, but not UDP")
    ++ (class_text n.fragment (codes "a fragment of a UDP datagram")
    ++ class_text n.broken (codes "IPv4 in a bad form, or cut short"))))))

-- absent: no packet came, and the count of streams
abbrev pub streams_text : (streams : ℕ) → List ℕ
streams_text streams =
    codes "no packet comes to this target. The capture has " ++ (counted streams (codes "stream") ++ codes ".")

-- absent
abbrev pub absent_text : PassedOver → (streams : ℕ) → List ℕ
absent_text passed_over streams = streams_text streams ++ passed_over_text passed_over

-- why a flow is refused
abbrev pub refusal_text : Refusal → List ℕ
refusal_text (Fault fault) = packet_fault_text fault
refusal_text (Gap expected got) =
    codes "expected " ++ (decimal expected ++ (codes ", got " ++ (decimal got
    ++ codes ", one gap more than is allowed")))

-- refused
abbrev pub refused_text : (rec : ℕ) → Refusal → List ℕ
refused_text rec cause =
    codes "the flow is refused at record " ++ (decimal rec ++ (codes ": " ++ (refusal_text cause
    ++ codes ". None of its packets is judged.")))

-- markers, with their count, if it is known
abbrev pub markers_text : Option ℕ → List ℕ
markers_text None = []
markers_text (Some markers) = codes " with " ++ counted markers (codes "marker")

-- unmarked
abbrev pub unmarked_text : Setting → (packets : ℕ) → (markers : Option ℕ) → List ℕ
unmarked_text s packets markers =
    packets_text packets ++ (markers_text markers ++ (codes ": no whole " ++ (group_of s ++ codes ".")))

-- ---- of its gaps

-- wrap
abbrev pub wrap_text : (gaps : ℕ) → List ℕ
wrap_text gaps =
    codes "the sequence number wraps and the extended sequence number stays 0, at " ++ (gaps_text gaps
    ++ codes ".")

-- loss
abbrev pub loss_text : (gaps missing : ℕ) → List ℕ
loss_text gaps missing =
    codes "missing packets: " ++ (decimal missing ++ (codes ", in " ++ (gaps_text gaps ++ codes ".")))

-- order
abbrev pub order_text : (gaps : ℕ) → List ℕ
order_text gaps = codes "packet numbers go back, at " ++ (gaps_text gaps ++ codes ".")

-- ---- of the run that is shown

-- frames per second, `50` or `60000/1001`
abbrev pub rate_text : DescribedRate → List ℕ
rate_text r = if r.q == 1 then decimal r.p else decimal r.p ++ (codes "/" ++ decimal r.q)

-- the steps of the RTP timestamp
abbrev pub steps_text : Option Steps → List ℕ
steps_text None = []
steps_text (Some s) =
    codes " RTP timestamps go on by " ++ (signed_decimal s.least ++ (codes " to " ++ (signed_decimal s.greatest
    ++ codes " ticks.")))

-- the mean time from one frame or field to the next
abbrev pub period_text : Setting → Option ℕ → List ℕ
period_text s None = []
period_text s (Some ns) =
    codes " On average a " ++ (group_of s ++ (codes " comes every " ++ (time_text ns ++ codes ".")))

-- rate
abbrev pub rate_sentence : Setting → DescribedRate → Option Steps → (period : Option ℕ) → List ℕ
rate_sentence s described steps period =
    codes "the description has " ++ (rate_text described ++ (codes " frames per second."
    ++ (steps_text steps ++ period_text s period)))

-- burst: the greatest count of the bucket, and its limit
abbrev pub bucket_text : Setting → (greatest limit : ℕ) → List ℕ
bucket_text s greatest limit =
    codes "the bucket holds up to " ++ (packets_text greatest ++ (codes ", " ++ (kind_name s.kind ++ (codes " allows "
    ++ (decimal limit ++ codes ": ")))))

-- burst: the packets above the limit, and the place in the capture of the first one
abbrev pub above_text : Setting → (packets groups : ℕ) → Place → List ℕ
above_text s packets groups first =
    packets_text packets ++ (codes " in " ++ (decimal groups ++ (codes " of " ++ (groups_text s s.groups
    ++ (codes ", first record " ++ (decimal first.«record» ++ (codes " at " ++ (epoch_text first.stamp
    ++ codes "."))))))))

-- burst: the time in which a frame or field is sent
abbrev pub span_text : Setting → (span period : ℕ) → List ℕ
span_text s span period =
    codes " A " ++ (group_of s ++ (codes " is sent within " ++ (time_text span ++ (codes " of its "
    ++ (time_text period ++ codes ".")))))

-- burst
abbrev pub burst_text : Setting → (greatest limit packets groups : ℕ) → Place → (span period : ℕ) → List ℕ
burst_text s greatest limit packets groups first span period =
    bucket_text s greatest limit ++ (above_text s packets groups first ++ span_text s span period)

-- the packets that come after their reads
abbrev pub late_within : (late packets ns : ℕ) → List ℕ
late_within late packets ns =
    decimal late ++ (codes " of " ++ (packets_text packets ++ (codes " come after their read, by up to " ++ (time_text ns
    ++ codes "."))))

abbrev pub late_text : Setting → BrokenBuffer → List ℕ
late_text s b = late_within b.late s.packets (unsigned_abs b.slack)

-- the packets that come too early for the buffer
abbrev pub early_text : Setting → BrokenBuffer → List ℕ
early_text s b =
    decimal b.above ++ (codes " of " ++ (packets_text s.packets
    ++ (codes " come so early that the buffer holds more than " ++ (kind_name s.kind ++ codes " allows."))))

-- a space between two sentences
abbrev pub space_if : Bool → List ℕ
space_if true = codes " "
space_if false = []

-- the packets that come after their reads, if there are such packets
abbrev pub late_part : Setting → BrokenBuffer → List ℕ
late_part s b = if nat_lt 0 b.late then late_text s b else []

-- the packets that come too early for the buffer, if there are such packets
abbrev pub early_part : Setting → BrokenBuffer → List ℕ
early_part s b = if nat_lt 0 b.above then early_text s b else []

-- the packets that break the buffer
abbrev pub buffer_text : Setting → BrokenBuffer → List ℕ
buffer_text s b = late_part s b ++ (space_if (nat_lt 0 b.late && nat_lt 0 b.above) ++ early_part s b)

-- an offset in microseconds, and 0 if there is none
abbrev pub offset_number : Option ℕ → List ℕ
offset_number None = codes "0"
offset_number (Some micros) = decimal micros

-- phase: the offsets that would serve
abbrev pub offsets_text : BrokenBuffer → List ℕ
offsets_text b =
    codes " With an offset (TROFF) of " ++ (offset_number b.offsets.least ++ (codes " to "
    ++ (offset_number b.offsets.greatest ++ (codes " " ++ (micro_sign ++ codes " the buffer would pass;")))))

-- the offset of the description
abbrev pub target_told : ℕ → List ℕ
target_told target = codes " the description's is " ++ (time_text target ++ codes ".")

-- phase
abbrev pub phase_text : Setting → BrokenBuffer → List ℕ
phase_text s b = buffer_text s b ++ (offsets_text b ++ target_told b.target)

-- pacing: the offsets with which no packet is late
abbrev pub least_text : Option ℕ → List ℕ
least_text None = codes "even with 1 s packets are late"
least_text (Some micros) =
    if micros == 0 then codes "none is late with any"
    else codes "none is late from " ++ (decimal micros ++ (codes " " ++ (micro_sign ++ codes " on")))

-- pacing: the offsets with which no packet is too early
abbrev pub greatest_text : Option ℕ → List ℕ
greatest_text None = codes "even with 0 s packets are too early"
greatest_text (Some micros) = codes "none is too early up to " ++ (decimal micros ++ (codes " " ++ micro_sign))

-- pacing: the offsets that serve for one end of the buffer
abbrev pub ends_text : BrokenBuffer → List ℕ
ends_text b =
    codes " No offset (TROFF) serves all packets: " ++ (least_text b.offsets.least ++ (codes ", and "
    ++ (greatest_text b.offsets.greatest ++ codes ";")))

-- pacing
abbrev pub pacing_text : Setting → BrokenBuffer → List ℕ
pacing_text s b = buffer_text s b ++ (ends_text b ++ target_told b.target)

-- later or earlier
abbrev pub direction : ℤ → List ℕ
direction ppm10 = if int_lt ppm10 (pos 0) then codes "earlier and earlier" else codes "later and later"

-- drift
abbrev pub drift_text : Setting → (ppm10 : ℤ) → List ℕ
drift_text s ppm10 =
    group_of s ++ (codes "s come " ++ (direction ppm10 ++ (codes ", by " ++ (tenths_text (unsigned_abs ppm10)
    ++ codes " ppm."))))

-- rare
abbrev pub rare_text : Setting → (broken groups first : ℕ) → List ℕ
rare_text s broken groups first =
    kind_name s.kind ++ (codes " breaks in " ++ (decimal broken ++ (codes " of " ++ (groups_text s groups
    ++ (codes ", first in " ++ (group_of s ++ (codes " " ++ (decimal first ++ codes "."))))))))

-- pass: the greatest count of the bucket
abbrev pub pass_bucket : Setting → (bucket bucket_limit : ℕ) → List ℕ
pass_bucket s bucket bucket_limit =
    kind_name s.kind ++ (codes " passes: the bucket holds up to " ++ (decimal bucket ++ (codes " of "
    ++ packets_text bucket_limit)))

-- pass: the greatest count of the buffer
abbrev pub pass_limits : (buffer buffer_limit : ℕ) → List ℕ
pass_limits buffer buffer_limit =
    codes ", the buffer up to " ++ (decimal buffer ++ (codes " of " ++ (decimal buffer_limit
    ++ codes ", and each packet could come ")))

-- pass: by how much each packet could be later
abbrev pub later_text : (slack : ℤ) → List ℕ
later_text slack = signed_time_text slack ++ codes " later."

-- pass
abbrev pub pass_text : Setting → (bucket bucket_limit buffer buffer_limit : ℕ) → (slack : ℤ) → List ℕ
pass_text s bucket bucket_limit buffer buffer_limit slack =
    pass_bucket s bucket bucket_limit ++ (pass_limits buffer buffer_limit ++ later_text slack)

-- microseconds
abbrev pub microseconds_text : (drain : ℕ) → List ℕ
microseconds_text drain =
    codes "every capture timestamp is a whole microsecond, and the bucket drains a packet every " ++ (time_text drain
    ++ codes ".")

-- unlocked
abbrev pub unlocked_text : (offset : ℤ) → List ℕ
unlocked_text offset =
    codes "RTP timestamps differ from the media clock by " ++ (signed_decimal offset
    ++ codes " ticks. No limit of ST 2110-21 depends on it.")

-- the sentence of a finding
abbrev pub sentence : Setting → Finding → List ℕ
sentence s (finding.Elsewhere target packets) = elsewhere_text target packets
sentence s (finding.Absent passed_over streams) = absent_text passed_over streams
sentence s (finding.Refused rec cause) = refused_text rec cause
sentence s (finding.Unmarked packets markers) = unmarked_text s packets markers
sentence s (finding.Wrap gaps) = wrap_text gaps
sentence s (finding.Loss gaps missing) = loss_text gaps missing
sentence s (finding.Order gaps) = order_text gaps
sentence s (finding.Rate described steps period) = rate_sentence s described steps period
sentence s (finding.Utc offset) =
    codes "RTP timestamps are 37 s ahead of the capture's timestamps, so these count in UTC."
sentence s (finding.TaiTwice offset) =
    codes "RTP timestamps are 37 s behind the capture's timestamps, so these count in TAI without --tai."
sentence s (finding.Burst greatest limit packets groups first span period) =
    burst_text s greatest limit packets groups first span period
sentence s (finding.Phase buffer) = phase_text s buffer
sentence s (finding.Pacing buffer) = pacing_text s buffer
sentence s (finding.Drift ppm10) = drift_text s ppm10
sentence s (finding.Rare broken groups first) = rare_text s broken groups first
sentence s (finding.Pass bucket bucket_limit buffer buffer_limit slack) =
    pass_text s bucket bucket_limit buffer buffer_limit slack
sentence s (finding.Microseconds drain) = microseconds_text drain
sentence s (finding.Unlocked offset) = unlocked_text offset

-- ---- what to do

-- of a packet with a fault
abbrev pub fault_advice : PacketFault → List ℕ
fault_advice Short = codes "capture more bytes of each packet, at least 96."
fault_advice Version = codes "look at the port: these packets aren't RTP."
fault_advice PayloadType = codes "correct the payload type in the description."
fault_advice SecondSource =
    codes "look for two senders, or for one that was restarted: the command scan lists their streams."
fault_advice (Number expected got) = codes "look for what loses packets or brings them out of order."
fault_advice (StampBack before got) =
    codes "look at the order of the files, and for two capturing cards or a bonded pair."
fault_advice NoMarker = codes "correct the sender's packetizer."
fault_advice SameStamp = codes "correct the sender's packetizer."
fault_advice (FrameSize want got) = codes "correct the sender's packetizer."
fault_advice FrameTooLarge = codes "correct the sender's packetizer."

-- of a flow that is refused
abbrev pub refusal_advice : Refusal → List ℕ
refusal_advice (Fault fault) = fault_advice fault
refusal_advice (Gap expected got) = codes "look for what loses packets or brings them out of order."

-- of a phase: the findings above it come first
abbrev pub phase_advice : (is_first : Bool) → List ℕ
phase_advice is_first =
    (if is_first then [] else codes "see the findings above first; else ")
    ++ codes "align the sender to the epoch or declare its TROFF, or give --delay for a known delay of the capture."

-- of a burst
abbrev pub burst_advice : Setting → List ℕ
burst_advice s =
    codes "space the packets of a " ++ (group_of s
    ++ (codes " evenly. If the capturing host makes the timestamps in software, "
    ++ codes "capture with the network card's first."))

-- of pacing
abbrev pub pacing_advice : Setting → List ℕ
pacing_advice s =
    codes "space the packets of a " ++ (group_of s ++ codes " evenly, and see whether they drift through the capture.")

-- what to do about a finding; nothing about a pass
abbrev pub advice : Setting → (is_first : Bool) → Finding → Option (List ℕ)
advice s is_first (finding.Elsewhere target packets) =
    Some (codes "correct the description, or the destination of the sender.")
advice s is_first (finding.Absent passed_over streams) =
    Some (codes "capture the right port or VLAN, and join the group. IPv6 and double VLAN tags aren't read.")
advice s is_first (finding.Refused rec cause) = Some (refusal_advice cause)
advice s is_first (finding.Unmarked packets markers) =
    Some (codes "capture for longer. If that doesn't help, the sender sets no marker.")
advice s is_first (finding.Wrap gaps) =
    Some (codes "add --seq16: the sender leaves the extended sequence number 0.")
advice s is_first (finding.Loss gaps missing) =
    Some (codes "look for drops: of the capture (the last lines of tcpdump), on the path, and of the socket buffer.")
advice s is_first (finding.Order gaps) =
    Some (codes "look for a bonded pair, a mirror of both directions, two senders with one SSRC, or a restart.")
advice s is_first (finding.Rate described steps period) =
    Some (codes "correct exactframerate in the description, or the sender's clock.")
advice s is_first (finding.Utc offset) = Some (codes "add --tai 37.")
advice s is_first (finding.TaiTwice offset) = Some (codes "leave out --tai.")
advice s is_first (finding.Burst greatest limit packets groups first span period) = Some (burst_advice s)
advice s is_first (finding.Phase buffer) = Some (phase_advice is_first)
advice s is_first (finding.Pacing buffer) = Some (pacing_advice s)
advice s is_first (finding.Drift ppm10) =
    Some (codes "lock the sender and the capturing card to PTP: one of them isn't.")
advice s is_first (finding.Rare broken groups first) =
    Some (codes "look at that time in the sender's log: this is a single event.")
advice s is_first (finding.Pass bucket bucket_limit buffer buffer_limit slack) = None
advice s is_first (finding.Microseconds drain) =
    Some (codes "capture with nanoseconds: a packet can be off by a microsecond.")
advice s is_first (finding.Unlocked offset) = Some (codes "lock the sender's RTP clock to PTP if receivers need it.")

-- ---- lines

-- the line with what to do
abbrev pub advice_line : Option (List ℕ) → List ℕ
advice_line None = []
advice_line (Some what) = codes "  do: " ++ (what ++ codes "\n")

-- the line of a finding
abbrev pub sentence_line : Setting → Finding → List ℕ
sentence_line s f = codes "  " ++ (finding_name f ++ (codes ": " ++ (sentence s f ++ codes "\n")))

-- the lines of a finding
abbrev pub finding_lines : Setting → (is_first : Bool) → Finding → List ℕ
finding_lines s is_first f = sentence_line s f ++ advice_line (advice s is_first f)

-- the lines of the findings after the first one
abbrev pub later_lines : Setting → List Finding → List ℕ
later_lines s findings = flat_map (finding_lines s false) findings

-- the lines of findings
abbrev pub findings_lines : Setting → List Finding → List ℕ
findings_lines s [] = []
findings_lines s (f ∷ fs) = finding_lines s true f ++ later_lines s fs

-- the class of a run that is shown
abbrev pub class_part : Option ExplainedRun → List ℕ
class_part None = []
class_part (Some run) = codes " class " ++ class_name run.class

-- the first finding, by its name
abbrev pub headline : List Finding → List ℕ
headline [] = codes "none"
headline (f ∷ fs) = finding_name f

-- `MEDIA TARGET declared D class C: HEADLINE`
abbrev pub media_line : Media → Explained → List ℕ
media_line m e =
    decimal (e.media + 1) ++ (codes " " ++ (target_text (target_of m) ++ (codes " declared "
    ++ (declared_name m.declared ++ (class_part e.shown ++ (codes ": " ++ (headline e.findings ++ codes "\n")))))))

-- the lines of a flow of this media
abbrev pub flow_lines : Media → Explained → List ℕ
flow_lines m e = media_line m e ++ findings_lines (setting_of m e.shown) e.findings

-- the line of capture `file`, counted from 0, that doesn't end after a whole packet record
abbrev pub broken_line : (file : ℕ) → FileNote → (name : List ℕ) → List ℕ
broken_line file End name = []
broken_line file note name = ended (file_text file note name)

-- the lines of such captures from number `file` on, by their names and how each ends
abbrev pub broken_lines : (file : ℕ) → (names : List (List ℕ)) → List FileNote → List ℕ
broken_lines file (name ∷ names) (note ∷ notes) = broken_line file note name ++ broken_lines (file + 1) names notes
broken_lines file [] notes = []
broken_lines file (name ∷ names) [] = []

-- the lines of a flow of the session
abbrev pub explained_lines : List Media → Explained → List ℕ
explained_lines session e = flow_lines (media_of session (key_of 0 e.media)) e

-- the lines of the flows of the session
abbrev pub flows_lines : List Media → List Explained → List ℕ
flows_lines session flows = flat_map (explained_lines session) flows

-- the whole text, of captures with these names that end in these ways
abbrev pub explained_text : (names : List (List ℕ)) → List FileNote → List Media → List Explained → List ℕ
explained_text names notes session flows = broken_lines 0 names notes ++ flows_lines session flows
