-- The result of a scan as lists, which the texts are functions of.
use Rattle.std.specs.Prelude.{ℕ, ◌+◌, List, length, Option}
use Rattle.timing_base.specs.Captures.{Record}
use Rattle.capture_scan.specs.Scans.{more_packets, more_unread, packets, passed_over, span_of, streams, unread}
use Rattle.capture_scan.specs.Scans.{unread_targets}
use Rattle.capture_scan.specs.declared.found.Found.{Found}
use Rattle.capture_scan.specs.declared.found.PassedOver.{PassedOver}
use Rattle.capture_scan.specs.declared.found.Span.{Span}
use Rattle.capture_scan.specs.declared.found.UnreadTarget.{UnreadTarget}
use Rattle.capture_scan.specs.declared.stream.Stream.{Stream}

-- the result of a scan; the fields are those of `Found`
pub record Contents : Type 0 where
  pub records : ℕ
  pub span : Option Span
  pub passed_over : PassedOver
  pub streams : List Stream
  pub unread : List UnreadTarget
  pub more : ℕ

-- the lists of a `Found`
abbrev pub contents_of : Found → Contents
contents_of found = record {
  records = found.records;
  span = found.span;
  passed_over = found.passed_over;
  streams = found.streams.items;
  unread = found.unread.items;
  more = found.more;
}

-- the result of a scan of these packet records, which are those of a capture, or of several taken as one
abbrev pub contents : List Record → Contents
contents records = record {
  records = length records;
  span = span_of records;
  passed_over = passed_over records;
  streams = streams (packets records);
  unread = unread_targets (unread records);
  more = more_packets (packets records) + more_unread (unread records);
}
