-- The result of a scan as lines of text, each of which can be read alone. Streams, packet records and lines of a
-- picture count from 1; a line header counts lines from 0.
-- This project's profile: the whole format.
use Rattle.std.specs.Prelude.{ℕ, ◌+◌, ◌*◌, ◌/◌, ◌%◌, ◌==◌, max, Bool, if◌then◌else◌, List, [], ◌∷◌}
use Rattle.std.specs.Prelude.{◌++◌, length}
use Rattle.std.specs.Prelude.{Option, Some, None, codes}
use Rattle.std.specs.Fmt.{decimal}
use Rattle.std.specs.List.{flat_map}
use Rattle.timing_base.specs.Targets.{target_text}
use Rattle.timing_base.specs.declared.capture.FileNote.{FileNote}
use Rattle.timing_report.specs.Words.{note_text, ssrc_text}
use Rattle.capture_scan.specs.declared.found.PassedOver.{PassedOver}
use Rattle.capture_scan.specs.declared.found.UnreadTarget.{UnreadTarget}
use Rattle.capture_scan.specs.declared.stream.Lines.{Lines}
use Rattle.capture_scan.specs.declared.stream.Pace.{Pace}
use Rattle.capture_scan.specs.declared.stream.Range.{Range}
use Rattle.capture_scan.specs.declared.stream.Stream.{Stream}
use Rattle.capture_scan.specs.report.Contents.{Contents}
use Rattle.capture_scan.specs.report.Draft.{has_fields}
use Rattle.capture_scan.specs.report.Rates.{has_steps_of, nearest, rate_text}
use Rattle.capture_scan.specs.declared.report.rate.FrameRate.{FrameRate}

-- `capture NAME: NOTE`, followed by `after`
abbrev pub capture_told : (after name : List ℕ) → FileNote → List ℕ
capture_told after name note = codes "capture " ++ (name ++ (codes ": " ++ (note_text note ++ after)))

-- the same for each capture, by their names and how each ends
abbrev pub captures_told : (after : List ℕ) → (names : List (List ℕ)) → List FileNote → List ℕ
captures_told after (name ∷ names) (note ∷ notes) = capture_told after name note ++ captures_told after names notes
captures_told after [] notes = []
captures_told after (name ∷ names) [] = []

-- `R records, S streams`
abbrev pub counts_told : Contents → List ℕ
counts_told c = decimal c.records ++ (codes " records, " ++ (decimal (length c.streams) ++ codes " streams\n"))

-- of one capture `capture NAME: NOTE, R records, S streams`; of several `capture NAME: NOTE` for each, and then
-- `all captures: R records, S streams`
abbrev pub heading : (names : List (List ℕ)) → List FileNote → Contents → List ℕ
heading names notes c =
    if length names == 1 then captures_told (codes ", ") names notes ++ counts_told c
    else captures_told (codes "\n") names notes ++ (codes "all captures: " ++ counts_told c)

-- `passed over N: WHAT`, if N isn't 0
abbrev pub class_text : ℕ → List ℕ → List ℕ
class_text frames what =
    if frames == 0 then codes "" else codes "passed over " ++ (decimal frames ++ (codes ": " ++ (what ++ codes "\n")))

-- the lines of the frames without a target
abbrev pub passed_over_text : PassedOver → List ℕ
passed_over_text n =
    class_text n.empty (codes "no byte, or a packet of another link")
    ++ (class_text n.tags (codes "more than one VLAN tag, or a provider's")
    ++ (class_text n.ipv6 (codes "IPv6")
    ++ (class_text n.other (codes "neither IPv4 nor IPv6")
    ++ (class_text n.not_udp (codes "IPv4, but not UDP")
    ++ (class_text n.fragment (codes "a fragment of a UDP datagram")
    ++ class_text n.broken (codes "IPv4 in a bad form, or cut short"))))))

-- `unread N: UDP to TARGET that isn't RTP with an extended sequence number`
abbrev pub unread_text : UnreadTarget → List ℕ
unread_text unread =
    codes "unread " ++ (decimal unread.packets ++ (codes ": UDP to " ++ (target_text unread.target
    ++ codes " that isn't RTP with an extended sequence number\n")))

-- `more N: packets of further streams and targets`, if N isn't 0
abbrev pub more_text : ℕ → List ℕ
more_text more =
    if more == 0 then codes ""
    else codes "more " ++ (decimal more ++ codes ": packets of further streams and targets\n")

-- source, target, SSRC and payload type of a stream
abbrev pub key_text : Stream → List ℕ
key_text s =
    target_text s.source ++ (codes " to " ++ (target_text s.target ++ (codes ", ssrc " ++ (ssrc_text s.ssrc
    ++ (codes ", payload type " ++ (decimal s.pt ++ (codes " but for " ++ decimal s.pts)))))))

-- the counts of a stream, and its first and last packet record
abbrev pub packets_text : Stream → List ℕ
packets_text s =
    decimal s.packets ++ (codes " in records " ++ (decimal s.first.rec ++ (codes " to " ++ (decimal s.last.rec
    ++ (codes ", " ++ (decimal s.markers ++ (codes " with the marker, " ++ (decimal s.bytes ++ codes " bytes"))))))))

-- `A to B`
abbrev pub range_text : Range → List ℕ
range_text range = decimal range.least ++ (codes " to " ++ decimal range.greatest)

-- the nearest known rate, if the least step is that of the rate
abbrev pub known_rate : Bool → Pace → Option FrameRate
known_rate fields pace =
    if has_steps_of fields pace.step (nearest fields pace.rate) then Some (nearest fields pace.rate) else None

-- a rate, or that none is known
abbrev pub known_text : Option FrameRate → List ℕ
known_text None = codes "none that is known"
known_text (Some rate) = rate_text rate

-- a rate and the range of the steps
abbrev pub steps_told : Option FrameRate → Range → List ℕ
steps_told rate step = known_text rate ++ (codes ", steps of " ++ (range_text step ++ codes " ticks"))

-- the frame rate, and the steps of the RTP timestamp from one marker to the next
abbrev pub rate_told : Bool → Option Pace → List ℕ
rate_told fields None = codes "not seen: fewer than two markers"
rate_told fields (Some pace) = steps_told (known_rate fields pace) pace.step

-- the number of packets from one marker to the next
abbrev pub frame_told : Option Pace → List ℕ
frame_told None = codes "not seen: fewer than two markers"
frame_told (Some pace) = range_text pace.frame ++ codes " packets"

-- the share of what was sent that is lost, in hundredths of a percent, rounded down
abbrev pub lost_share : Stream → ℕ
lost_share s = s.order.lost * 10000 / max 1 (s.packets + s.order.lost)

-- `L of S sent (P %), B back, R repeated, W wraps without the extended number`
abbrev pub loss_text : Stream → List ℕ
loss_text s =
    decimal s.order.lost ++ (codes " of " ++ (decimal (s.packets + s.order.lost) ++ (codes " sent ("
    ++ (decimal (lost_share s / 100) ++ (codes "." ++ (decimal (lost_share s / 10 % 10)
    ++ (decimal (lost_share s % 10) ++ (codes " %), " ++ (decimal s.order.back ++ (codes " back, "
    ++ (decimal s.order.same ++ (codes " repeated, " ++ (decimal s.order.wraps
    ++ codes " wraps without the extended number")))))))))))))

-- the lines that were seen, of a frame or of each field
abbrev pub count_told : Lines → List ℕ
count_told lines =
    if lines.second_field then decimal (lines.greatest + 1) ++ codes " in each of two fields"
    else decimal (lines.greatest + 1)

-- the lines that were seen; none if a line header doesn't fit raw video
abbrev pub lines_told : Option Lines → List ℕ
lines_told None = codes "not seen: no line header was captured"
lines_told (Some lines) =
    if lines.fits then count_told lines else codes "none: not raw video, as a line header doesn't fit its packet"

-- a line of the stream with this number
abbrev pub stream_line : ℕ → List ℕ → List ℕ → List ℕ
stream_line number what told = codes "stream " ++ (decimal number ++ (what ++ (told ++ codes "\n")))

-- the lines of the stream with this number, from 1
abbrev pub stream_text : ℕ → Stream → List ℕ
stream_text number s =
    stream_line number (codes " from    ") (key_text s)
    ++ (stream_line number (codes " packets ") (packets_text s)
    ++ (stream_line number (codes " rate    ") (rate_told (has_fields s.lines) s.pace)
    ++ (stream_line number (codes " frame   ") (frame_told s.pace)
    ++ (stream_line number (codes " lost    ") (loss_text s)
    ++ stream_line number (codes " lines   ") (lines_told s.lines)))))

-- the lines of the streams from this number on
abbrev pub streams_text : ℕ → List Stream → List ℕ
streams_text number [] = []
streams_text number (s ∷ rest) = stream_text number s ++ streams_text (number + 1) rest

-- the text of a scan of captures with these names that end in these ways
abbrev pub contents_text : (names : List (List ℕ)) → List FileNote → Contents → List ℕ
contents_text names notes c =
    heading names notes c
    ++ (passed_over_text c.passed_over
    ++ (flat_map unread_text c.unread ++ (more_text c.more ++ streams_text 1 c.streams)))
