-- The result of a scan as JSON (RFC 8259): one value without spaces, and a newline. The members of an object stand in
-- the byte order of their keys, in whatever order they are put in. Packet records count from 1, line numbers from 0.
-- Capture timestamps are nanoseconds since 1970-01-01 00:00:00, lengths are bytes, ticks are of 90 kHz.
use Rattle.std.specs.Prelude.{ℕ, ◌^◌, nat_lt, if◌then◌else◌, List, [], ◌∷◌, ◌++◌, map, Option, Some, None, codes}
use Rattle.serde_json.specs.Data.{Data, boolean, string}
use Rattle.serde_json.specs.Written.{compact_text}
use Rattle.timing_base.specs.Targets.{target_text}
use Rattle.timing_base.specs.declared.capture.FileNote.{FileNote}
use Rattle.timing_base.specs.declared.target.Target.{Target}
use Rattle.timing_report.specs.json_report.Json.{Member, count, list_of, object_of}
use Rattle.timing_report.specs.Words.{note_text, ssrc_text}
use Rattle.capture_scan.specs.declared.found.PassedOver.{PassedOver}
use Rattle.capture_scan.specs.declared.found.Span.{Span}
use Rattle.capture_scan.specs.declared.found.UnreadTarget.{UnreadTarget}
use Rattle.capture_scan.specs.declared.stream.Arrival.{Arrival}
use Rattle.capture_scan.specs.declared.stream.Lines.{Lines}
use Rattle.capture_scan.specs.declared.stream.Order.{Order}
use Rattle.capture_scan.specs.declared.stream.Pace.{Pace}
use Rattle.capture_scan.specs.declared.stream.Range.{Range}
use Rattle.capture_scan.specs.declared.stream.Rate.{Rate}
use Rattle.capture_scan.specs.declared.stream.Stream.{Stream}
use Rattle.capture_scan.specs.report.Contents.{Contents}

-- an address and a port
abbrev pub target_data : Target → Data
target_data target = string (target_text target)

-- the capture timestamps of the first and the last packet record; absent without a record
abbrev pub span_members : Option Span → List Member
span_members None = []
span_members (Some span) = (codes "first", count span.first) ∷ (codes "last", count span.last) ∷ []

-- the numbers of frames without a target, by class
abbrev pub class_members : PassedOver → List Member
class_members n =
    (codes "broken", count n.broken) ∷ (codes "empty", count n.empty) ∷ (codes "fragment", count n.fragment)
    ∷ (codes "ipv6", count n.ipv6) ∷ (codes "not_udp", count n.not_udp) ∷ (codes "other", count n.other)
    ∷ (codes "tags", count n.tags) ∷ []

-- the object of those numbers
abbrev pub passed_over_data : PassedOver → Data
passed_over_data n = object_of (class_members n)

-- a target and the number of its unread packets
abbrev pub unread_members : UnreadTarget → List Member
unread_members unread =
    (codes "packets", count unread.packets) ∷ (codes "target", target_data unread.target) ∷ []

-- the object of such a target
abbrev pub unread_data : UnreadTarget → Data
unread_data unread = object_of (unread_members unread)

-- the packet record and the capture timestamp of a packet
abbrev pub arrival_data : Arrival → Data
arrival_data arrival = object_of ((codes "record", count arrival.rec) ∷ (codes "stamp", count arrival.at) ∷ [])

-- the least and the greatest of some numbers
abbrev pub range_data : Range → Data
range_data range = object_of ((codes "greatest", count range.greatest) ∷ (codes "least", count range.least) ∷ [])

-- the sum of ticks and the number of steps
abbrev pub rate_data : Rate → Data
rate_data rate = object_of ((codes "steps", count rate.steps) ∷ (codes "ticks", count rate.ticks) ∷ [])

-- `rate`; absent if the sum of ticks has more than 64 bits, which takes more than 2^32 steps
abbrev pub rate_members : Rate → List Member
rate_members rate = if nat_lt rate.ticks (2 ^ 64) then (codes "rate", rate_data rate) ∷ [] else []

-- the numbers from one packet with the marker to the next; absent without two such packets
abbrev pub pace_members : Option Pace → List Member
pace_members None = []
pace_members (Some pace) =
    (codes "frame", range_data pace.frame) ∷ (codes "step", range_data pace.step) ∷ rate_members pace.rate

-- the numbers of the first line headers; absent if there is none, or one doesn't fit raw video
abbrev pub lines_members : Option Lines → List Member
lines_members None = []
lines_members (Some lines) =
    if lines.fits then (codes "line", count lines.greatest) ∷ (codes "second_field", boolean lines.second_field) ∷ []
    else []

-- source, target, SSRC and payload type of a stream
abbrev pub key_members : Stream → List Member
key_members s =
    (codes "source", target_data s.source) ∷ (codes "ssrc", string (ssrc_text s.ssrc))
    ∷ (codes "target", target_data s.target) ∷ (codes "pt", count s.pt) ∷ (codes "pts", count s.pts) ∷ []

-- the counts of a stream, and its first and last packet
abbrev pub packet_members : Stream → List Member
packet_members s =
    (codes "packets", count s.packets) ∷ (codes "markers", count s.markers) ∷ (codes "bytes", count s.bytes)
    ∷ (codes "first", arrival_data s.first) ∷ (codes "last", arrival_data s.last) ∷ []

-- the order of the sequence numbers
abbrev pub order_members : Order → List Member
order_members order =
    (codes "lost", count order.lost) ∷ (codes "back", count order.back) ∷ (codes "same", count order.same)
    ∷ (codes "wraps", count order.wraps) ∷ []

-- the members of a stream
abbrev pub stream_members : Stream → List Member
stream_members s =
    key_members s ++ (packet_members s ++ (order_members s.order ++ (pace_members s.pace ++ lines_members s.lines)))

-- a stream
abbrev pub stream_data : Stream → Data
stream_data s = object_of (stream_members s)

-- the capture: its name, how it ends, and the numbers of its packet records
abbrev pub file_members : List ℕ → FileNote → Contents → List Member
file_members name note c =
    (codes "end", string (note_text note)) ∷ (codes "name", string name) ∷ (codes "records", count c.records)
    ∷ (codes "passed_over", passed_over_data c.passed_over) ∷ (codes "more", count c.more) ∷ span_members c.span

-- the targets with unread packets, and the streams
abbrev pub held_members : Contents → List Member
held_members c =
    (codes "unread", list_of (map unread_data c.unread)) ∷ (codes "streams", list_of (map stream_data c.streams)) ∷ []

-- the members of a scan
abbrev pub contents_members : List ℕ → FileNote → Contents → List Member
contents_members name note c = file_members name note c ++ held_members c

-- the result of a scan as a JSON value
abbrev pub contents_data : List ℕ → FileNote → Contents → Data
contents_data name note c = object_of (contents_members name note c)

-- the JSON of the capture with this name that ends in this way
abbrev pub json_text : List ℕ → FileNote → Contents → List ℕ
json_text name note c = compact_text (contents_data name note c) ++ codes "\n"
