-- Ethernet frames, packets and lists of numbers for the examples that are worked by hand.
use Rattle.std.specs.Prelude.{ℕ, ◌+◌, ◌*◌, Bool, true, false, List, replicate, [], ◌∷◌, ◌++◌, None}
use Rattle.timing_base.specs.Captures.{Record}
use Rattle.timing_base.specs.declared.packet.Rtp.{Rtp}
use Rattle.udp_rtp.specs.Examples.{arp_type, broken_frame, extended, fragment_frame, frame_of, group, ip_type}
use Rattle.udp_rtp.specs.Examples.{ipv6_type, macs, plain_ip, rtp, sender, tag, tcp_frame, ten, udp}
use Rattle.capture_scan.specs.declared.packet.Line.{Line}
use Rattle.capture_scan.specs.declared.packet.Packet.{Packet}
use Rattle.capture_scan.specs.declared.stream.Order.{Order}
use Rattle.capture_scan.specs.declared.stream.Pace.{Pace}

-- the packet of `frame_of plain_ip` in a packet record with this number and capture timestamp
abbrev pub plain_at : ℕ → ℕ → Packet
plain_at rec at = record {
  rec = rec;
  at = at;
  source = sender;
  target = group;
  length = 42;
  rtp = record { number = 65544; timestamp = 1800; marker = false; pt = 96; ssrc = 1 };
  line = None;
}

-- a frame to the group with these bytes behind the extended sequence number, and with this UDP length, below 256
abbrev pub frame_on : ℕ → List ℕ → List ℕ
frame_on stated more = macs ++ (ip_type ++ (plain_ip ++ (udp stated ++ (rtp 0x80 0x60 ++ (extended ++ more)))))

-- a line header with this line number, which fits raw video or doesn't
abbrev pub line_with : (number : ℕ) → (second_field fits : Bool) → Line
line_with number second_field fits = record { number = number; second_field = second_field; fits = fits }

-- a line header of 1,920 bytes, line 1,079 of the first field
abbrev pub line_header : List ℕ
line_header = 0x07 ∷ 0x80 ∷ 0x04 ∷ 0x37 ∷ 0x00 ∷ 0x00 ∷ []

-- a line header of 1,920 bytes, line 539 of the second field
abbrev pub second_header : List ℕ
second_header = 0x07 ∷ 0x80 ∷ 0x82 ∷ 0x1b ∷ 0x00 ∷ 0x00 ∷ []

-- a line header of 100 bytes, line 1,079
abbrev pub short_header : List ℕ
short_header = 0x00 ∷ 0x64 ∷ 0x04 ∷ 0x37 ∷ 0x00 ∷ 0x00 ∷ []

-- a line header of 0 bytes with the greatest line number that fits, 4,319
abbrev pub last_header : List ℕ
last_header = 0x00 ∷ 0x00 ∷ 0x10 ∷ 0xdf ∷ 0x00 ∷ 0x00 ∷ []

-- a line header of 0 bytes with line number 4,320
abbrev pub further_header : List ℕ
further_header = 0x00 ∷ 0x00 ∷ 0x10 ∷ 0xe0 ∷ 0x00 ∷ 0x00 ∷ []

-- six bytes of 24-bit audio samples (L24, RFC 3190) in the place of a line header
abbrev pub samples : List ℕ
samples = 0x12 ∷ 0x34 ∷ 0x56 ∷ 0xed ∷ 0xcb ∷ 0xaa ∷ []

-- the RTP header of a packet with this RTP timestamp and marker
abbrev pub read_with : ℕ → Bool → Rtp
read_with timestamp marker = record { number = 1; timestamp = timestamp; marker = marker; pt = 96; ssrc = 1 }

-- this many packets without the marker and one with it, all with this RTP timestamp
abbrev pub frame_of_reads : (unmarked timestamp : ℕ) → List Rtp
frame_of_reads unmarked timestamp = replicate unmarked (read_with timestamp false) ++ (read_with timestamp true ∷ [])

-- a packet to the group in this packet record, with `rec` also as its capture timestamp
abbrev pub came : (rec ssrc number : ℕ) → Bool → Packet
came rec ssrc number marker = record {
  rec = rec;
  at = rec;
  source = sender;
  target = group;
  length = 42;
  rtp = record { number = number; timestamp = 1800; marker = marker; pt = 96; ssrc = ssrc };
  line = None;
}

-- an order with these counts
abbrev pub order_with : ℕ → ℕ → ℕ → ℕ → Order
order_with lost back same wraps = record { lost = lost; back = back; same = same; wraps = wraps }

-- a pace with these ranges and this rate
abbrev pub pace_with : ℕ → ℕ → ℕ → ℕ → ℕ → ℕ → Pace
pace_with least_frame greatest_frame least_step greatest_step ticks steps = record {
  frame = record { least = least_frame; greatest = greatest_frame };
  step = record { least = least_step; greatest = greatest_step };
  rate = record { ticks = ticks; steps = steps };
}

-- packet records of these frames, numbered from `number`, with capture timestamps of ten times their numbers
abbrev pub records_from : ℕ → List (List ℕ) → List Record
records_from number [] = []
records_from number (frame ∷ frames) =
    record { number = number; stamp = number * 10; bytes = frame } ∷ records_from (number + 1) frames

-- one frame of each class, and one that is an RTP packet
abbrev pub one_of_each : ℕ → List Record
one_of_each number =
    records_from number
    ([] ∷ (macs ++ (tag ++ (tag ++ ip_type))) ∷ (macs ++ (ipv6_type ++ ten)) ∷ (macs ++ (arp_type ++ ten)) ∷ tcp_frame
    ∷ fragment_frame ∷ broken_frame ∷ frame_of plain_ip ∷ [])
