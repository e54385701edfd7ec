-- The pieces in which a capture is written: the packet records of one packet, of one frame, and of all frames.
use Rattle.std.specs.Prelude.{ℕ, if◌then◌else◌, List, []}
use Rattle.std.specs.List.{flat_map, range_with_len}
use Rattle.capture_gen.specs.declared.flaw.Flaw.{Flaw}
use Rattle.capture_gen.specs.declared.frame.Frame.{Frame}
use Rattle.capture_gen.specs.Capture.{frame_of, packet_of, packets_of}
use Rattle.capture_gen.specs.Flaws.{is_left_out}
use Rattle.capture_gen.specs.Packets.{record_of}

-- the packet record of packet j of a frame; nothing, if the packet is left out
abbrev pub place_bytes : Frame → ℕ → List ℕ
place_bytes f j = if is_left_out f.flaw f.last j then [] else record_of (packet_of f j)

-- the packet records of a frame
unfoldable pub frame_bytes : Frame → List ℕ
frame_bytes f = flat_map record_of (packets_of f)

-- the packet records of frame k of a capture
abbrev pub bytes_of_frame : ℕ → ℕ → Flaw → ℕ → List ℕ
bytes_of_frame number frames flaw k = frame_bytes (frame_of number frames flaw k)

-- the packet records of all frames
unfoldable pub frames_bytes : ℕ → ℕ → Flaw → List ℕ
frames_bytes number frames flaw = flat_map (bytes_of_frame number frames flaw) (range_with_len 0 frames)
