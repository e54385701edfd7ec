-- A capture of one video flow, 50 frames per second of 20 packets each, made from a number: its packets by frame and
-- place, and its bytes. Capture timestamps are nanoseconds since 1970-01-01 00:00:00.
use Rattle.std.specs.Prelude.{ℕ, ◌+◌, ◌-◌, ◌*◌, ◌%◌, ◌^◌, ◌==◌, true, not, if◌then◌else◌, List, ◌∷◌, ◌++◌, map}
use Rattle.std.specs.List.{filter, flat_map, range_with_len}
use Rattle.capture_gen.specs.declared.flaw.Flaw.{Flaw}
use Rattle.capture_gen.specs.declared.frame.Frame.{Frame}
use Rattle.capture_gen.specs.declared.packet.Packet.{Packet}
use Rattle.capture_gen.specs.Flaws.{flaw_of, spacing, is_bunched, is_left_out, marked_place}
use Rattle.pcap_reader.specs.WrittenHeads.{file_head}
use Rattle.capture_gen.specs.Packets.{record_of}

-- the second in which frame 0 begins, in nanoseconds
abbrev pub start : ℕ → ℕ
start number = (1600000000 + number % 1000000) * 1000000000

-- the packet before frame 0, a millisecond before the start of that frame
abbrev pub head_packet : ℕ → Packet
head_packet number = record {
  at = start number - 1000000;
  timestamp = 0;
  marker = true;
  number = number % 2 ^ 32;
}

-- packet j of a frame, whether it is left out or not; the RTP timestamp rises by 1,800 ticks of 90 kHz with each
-- frame
abbrev pub packet_of : Frame → ℕ → Packet
packet_of f j = record {
  at = start f.number + 20000000 * f.index + 764000 + (if is_bunched f.flaw f.last j then 0 else spacing f.flaw * j);
  timestamp = 1800 * (f.index + 1);
  marker = j == marked_place f.flaw f.last;
  number = (f.number + 1 + 20 * f.index + j) % 2 ^ 32;
}

-- the packets of a frame
unfoldable pub packets_of : Frame → List Packet
packets_of f = map (packet_of f) (filter (λ j. not (is_left_out f.flaw f.last j)) (range_with_len 0 20))

-- frame k of a capture, counted from 0
abbrev pub frame_of : ℕ → ℕ → Flaw → ℕ → Frame
frame_of number frames flaw k = record { number = number; flaw = flaw; index = k; last = k + 1 == frames }

-- the packets of a capture, in the order of its packet records
unfoldable pub packets : ℕ → ℕ → ℕ → List Packet
packets number frames flaw =
    head_packet number ∷ flat_map (λ k. packets_of (frame_of number frames (flaw_of flaw) k)) (range_with_len 0 frames)

-- the bytes of a capture
unfoldable pub capture : ℕ → ℕ → ℕ → List ℕ
capture number frames flaw = file_head ++ flat_map record_of (packets number frames flaw)
