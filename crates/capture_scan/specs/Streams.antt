-- The numbers of a stream, as functions of the list of its packets.
-- From the standards: RFC 3550, section 5.1 (a sequence number of 16 bits and a timestamp of 32 bits, which wrap; the
-- marker), RFC 4175, section 4.2 (the extended sequence number, which counts how often the sequence number wrapped) and
-- 4.3 (line numbers).
-- This project's profile: which jumps of the sequence number are a loss, and which go back.
-- Capture timestamps are nanoseconds, lengths are bytes, ticks are of 90 kHz; places in a stream count from 0.
use Rattle.std.specs.Prelude.{ℕ, ◌+◌, ◌-◌, ◌/◌, ◌%◌, ◌^◌, ◌==◌, ◌&&◌, nat_lt, min, max, not, Bool, if◌then◌else◌, List}
use Rattle.std.specs.Prelude.{[], ◌∷◌, map, filter_map, length, Option, Some, None}
use Rattle.std.specs.List.{count_by, fold, list_all, list_any, sum_by}
use Rattle.timing_base.specs.declared.packet.Rtp.{Rtp}
use Rattle.capture_scan.specs.declared.mark.Mark.{Mark}
use Rattle.capture_scan.specs.declared.packet.Line.{Line}
use Rattle.capture_scan.specs.declared.packet.Packet.{Packet}
use Rattle.capture_scan.specs.declared.stream.Arrival.{Arrival}
use Rattle.capture_scan.specs.declared.stream.Lines.{Lines}
use Rattle.capture_scan.specs.declared.stream.Order.{Order}
use Rattle.capture_scan.specs.declared.stream.Pace.{Pace}
use Rattle.capture_scan.specs.declared.stream.Range.{Range}
use Rattle.capture_scan.specs.declared.stream.Stream.{Stream}

-- each item with the one after it, of a list that begins with `x`
abbrev pub pairs_from : {X : Type 0} → X → List X → List (X × X)
pairs_from x [] = []
pairs_from x (y ∷ ys) = (x, y) ∷ pairs_from y ys

-- each item with the one after it
abbrev pub neighbours : {X : Type 0} → List X → List (X × X)
neighbours [] = []
neighbours (x ∷ xs) = pairs_from x xs

-- the last item of a list that begins with `x`
abbrev pub last_from : {X : Type 0} → X → List X → X
last_from x [] = x
last_from x (y ∷ ys) = last_from y ys

-- the sequence number, the low 16 bits of a packet number
abbrev pub sequence : ℕ → ℕ
sequence number = number % 2 ^ 16

-- the extended sequence number, the high 16 bits of a packet number
abbrev pub extended : ℕ → ℕ
extended number = number / 2 ^ 16

-- the number of sequence numbers that are skipped from a packet to the next, modulo 2^16
abbrev pub jump : ℕ × ℕ → ℕ
jump two = (sequence two.1 + 2 ^ 16 - (sequence two.0 + 1)) % 2 ^ 16

-- the sequence numbers that count as lost: those skipped, if they are fewer than 32,768
abbrev pub lost_in : ℕ × ℕ → ℕ
lost_in two = if nat_lt (jump two) 32768 then jump two else 0

-- the sequence number goes back by 1 to 32,767
abbrev pub goes_back : ℕ × ℕ → Bool
goes_back two = nat_lt 32767 (jump two) && nat_lt (jump two) 65535

-- the sequence number is repeated
abbrev pub is_same : ℕ × ℕ → Bool
is_same two = jump two == 65535

-- the sequence number goes from 65,535 to 0, and the extended sequence number stays the same
abbrev pub wraps_alone : ℕ × ℕ → Bool
wraps_alone two =
    (sequence two.0 == 65535) && ((sequence two.1 == 0) && (extended two.0 == extended two.1))

-- the order of a list of packet numbers
abbrev pub order_of : List ℕ → Order
order_of numbers = record {
  lost = sum_by lost_in (neighbours numbers);
  back = count_by goes_back (neighbours numbers);
  same = count_by is_same (neighbours numbers);
  wraps = count_by wraps_alone (neighbours numbers);
}

-- the packets with the marker, each with its place and its RTP timestamp; the first packet of the list has this place
abbrev pub marks_from : ℕ → List Rtp → List Mark
marks_from place [] = []
marks_from place (p ∷ ps) =
    if p.marker then record { place = place; timestamp = p.timestamp } ∷ marks_from (place + 1) ps
    else marks_from (place + 1) ps

-- the number of packets from one mark to the next, without the first and with the second
abbrev pub size : Mark × Mark → ℕ
size two = two.1.place - two.0.place

-- the ticks of the RTP timestamp from one mark to the next, modulo 2^32
abbrev pub step : Mark × Mark → ℕ
step two = (two.1.timestamp + 2 ^ 32 - two.0.timestamp) % 2 ^ 32

-- the least and the greatest number of a list that begins with `x`
abbrev pub range_from : ℕ → List ℕ → Range
range_from x xs = record { least = fold min x xs; greatest = fold max x xs }

-- the pace from pairs of neighbouring marks; none if there is no pair
abbrev pub pace_between : List (Mark × Mark) → Option Pace
pace_between [] = None
pace_between (two ∷ twos) = Some (record {
  frame = range_from (size two) (map size twos);
  step = range_from (step two) (map step twos);
  rate = record { ticks = sum_by step (two ∷ twos); steps = length (two ∷ twos) };
})

-- the pace of a list of packets
abbrev pub pace_of : List Rtp → Option Pace
pace_of packets = pace_between (neighbours (marks_from 0 packets))

-- the greatest line number, whether a line is of the second field, and whether all line headers fit raw video
abbrev pub lines_of : List Line → Option Lines
lines_of [] = None
lines_of (l ∷ ls) = Some (record {
  greatest = fold max l.number (map (λ x. x.number) ls);
  second_field = list_any (λ x. x.second_field) (l ∷ ls);
  fits = list_all (λ x. x.fits) (l ∷ ls);
})

-- the packet record and the capture timestamp of a packet
abbrev pub arrival : Packet → Arrival
arrival p = record { rec = p.rec; at = p.at }

-- whether a packet has another payload type than `pt`
abbrev pub has_other_type : ℕ → Packet → Bool
has_other_type pt p = not (p.rtp.pt == pt)

-- the numbers of the stream of a packet and those after it
abbrev pub stream_from : Packet → List Packet → Stream
stream_from p ps = record {
  source = p.source;
  target = p.target;
  ssrc = p.rtp.ssrc;
  pt = p.rtp.pt;
  pts = count_by (has_other_type p.rtp.pt) (p ∷ ps);
  packets = length (p ∷ ps);
  markers = count_by (λ q. q.rtp.marker) (p ∷ ps);
  first = arrival p;
  last = arrival (last_from p ps);
  bytes = sum_by (λ q. q.length) (p ∷ ps);
  order = order_of (map (λ q. q.rtp.number) (p ∷ ps));
  pace = pace_of (map (λ q. q.rtp) (p ∷ ps));
  lines = lines_of (filter_map (λ q. q.line) (p ∷ ps));
}

-- the numbers of a stream of these packets; none if there is no packet
abbrev pub stream_of : List Packet → Option Stream
stream_of [] = None
stream_of (p ∷ ps) = Some (stream_from p ps)
