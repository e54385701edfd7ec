-- The numbers of a stream after one more packet, from its numbers, its last packet number and its last packet with the
-- marker.
use Rattle.std.specs.Prelude.{ℕ, ◌+◌, min, max, if◌then◌else◌, ◌&&◌, ◌||◌, [], Option, Some, None}
use Rattle.timing_base.specs.declared.packet.Rtp.{Rtp}
use Rattle.capture_scan.specs.Streams.{arrival, goes_back, has_other_type, is_same, lost_in, range_from, size, step}
use Rattle.capture_scan.specs.Streams.{wraps_alone}
use Rattle.udp_rtp.specs.declared.class.FrameClass.{FrameClass}
use Rattle.udp_rtp.specs.declared.class.FrameClass.TheVariants.{Empty, Tags, Ipv6, Other, NotUdp, Fragment, Broken}
use Rattle.capture_scan.specs.declared.found.PassedOver.{PassedOver}
use Rattle.capture_scan.specs.declared.found.Span.{Span}
use Rattle.capture_scan.specs.declared.mark.Mark.{Mark}
use Rattle.capture_scan.specs.declared.packet.Line.{Line}
use Rattle.capture_scan.specs.declared.packet.Packet.{Packet}
use Rattle.capture_scan.specs.declared.stream.Lines.{Lines}
use Rattle.capture_scan.specs.declared.stream.Order.{Order}
use Rattle.capture_scan.specs.declared.stream.Pace.{Pace}
use Rattle.capture_scan.specs.declared.stream.Range.{Range}
use Rattle.capture_scan.specs.declared.stream.Stream.{Stream}

-- the order after one more packet number, given with the one before it
abbrev pub order_next : Order → ℕ × ℕ → Order
order_next o two = record {
  lost = o.lost + lost_in two;
  back = o.back + (if goes_back two then 1 else 0);
  same = o.same + (if is_same two then 1 else 0);
  wraps = o.wraps + (if wraps_alone two then 1 else 0);
}

-- a range with one more number
abbrev pub range_next : Range → ℕ → Range
range_next r x = record { least = min r.least x; greatest = max r.greatest x }

-- the pace after one more packet with the marker, given with the one before it
abbrev pub pace_next : Option Pace → Mark × Mark → Pace
pace_next None two = record {
  frame = range_from (size two) [];
  step = range_from (step two) [];
  rate = record { ticks = step two; steps = 1 };
}
pace_next (Some p) two = record {
  frame = range_next p.frame (size two);
  step = range_next p.step (step two);
  rate = record { ticks = p.rate.ticks + step two; steps = p.rate.steps + 1 };
}

-- the mark of a packet at this place of its stream, if it has the marker
abbrev pub mark_of : ℕ → Rtp → Option Mark
mark_of place p = if p.marker then Some (record { place = place; timestamp = p.timestamp }) else None

-- the last mark
abbrev pub mark_next : (before mark : Option Mark) → Option Mark
mark_next before None = before
mark_next before (Some mark) = Some mark

-- the pace after one more packet
abbrev pub pace_with : Option Pace → (before mark : Option Mark) → Option Pace
pace_with pace before None = pace
pace_with pace None (Some mark) = pace
pace_with pace (Some before) (Some mark) = Some (pace_next pace (before, mark))

-- the lines after one more packet
abbrev pub lines_with : Option Lines → Option Line → Option Lines
lines_with lines None = lines
lines_with None (Some l) = Some (record { greatest = l.number; second_field = l.second_field; fits = l.fits })
lines_with (Some lines) (Some l) = Some (record {
  greatest = max lines.greatest l.number;
  second_field = lines.second_field || l.second_field;
  fits = lines.fits && l.fits;
})

-- the numbers of a stream after one more packet
abbrev pub stream_next : Stream → ℕ → Option Mark → Packet → Stream
stream_next s number mark p = record {
  source = s.source;
  target = s.target;
  ssrc = s.ssrc;
  pt = s.pt;
  pts = s.pts + (if has_other_type s.pt p then 1 else 0);
  packets = s.packets + 1;
  markers = s.markers + (if p.rtp.marker then 1 else 0);
  first = s.first;
  last = arrival p;
  bytes = s.bytes + p.length;
  order = order_next s.order (number, p.rtp.number);
  pace = pace_with s.pace mark (mark_of s.packets p.rtp);
  lines = lines_with s.lines p.line;
}

-- the capture timestamps of the first and the last packet record, after one more record
abbrev pub span_with : Option Span → ℕ → Span
span_with None at = record { first = at; last = at }
span_with (Some span) at = record { first = span.first; last = at }

-- the counts of the frames without a target, after one more frame of this class
abbrev pub passed_with : PassedOver → FrameClass → PassedOver
passed_with n Empty = record n { empty = n.empty + 1 }
passed_with n Tags = record n { tags = n.tags + 1 }
passed_with n Ipv6 = record n { ipv6 = n.ipv6 + 1 }
passed_with n Other = record n { other = n.other + 1 }
passed_with n NotUdp = record n { not_udp = n.not_udp + 1 }
passed_with n Fragment = record n { fragment = n.fragment + 1 }
passed_with n Broken = record n { broken = n.broken + 1 }
