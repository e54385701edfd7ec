-- A capture as the parts that are written one after the other.
use Rattle.std.proofs.Common.{◌≡◌, ℕ, ◌++◌, List, ap, sym, ◌∙◌, ◌<◌, subst}
use Rattle.std.specs.Prelude.{Option, Result}
use Rattle.std.specs.Io.KnownBytes.{Appends}
use Rattle.timing_outside.specs.Written.{AppendsFront, PutsAll}
use Rattle.std.specs.List.{flat_map, range_with_len}
use Rattle.capture_gen.specs.declared.flaw.Flaw.{Flaw}
use Rattle.capture_gen.specs.declared.frame.Frame.{Frame}
use Rattle.capture_gen.specs.Flaws.{flaw_of, is_left_out}
use Rattle.pcap_reader.specs.WrittenHeads.{file_head}
use Rattle.capture_gen.specs.Packets.{record_of}
use Rattle.capture_gen.specs.Capture.{capture, frame_of, head_packet, packet_of, packets, packets_of}
use Rattle.capture_gen.specs.Writing.{bytes_of_frame, frame_bytes, frames_bytes, place_bytes}
use Rattle.capture_gen.proofs.Lists.{flat_map-flat_map, flat_map-map-filter}
use Rattle.capture_gen.proofs.Puts.{front_after, front_longer, front_of_pieces, puts_after}

-- a frame by its places
pub frame_bytes-places : (f : Frame) (n : ℕ) → n ≡ 20 → frame_bytes f ≡ flat_map (place_bytes f) (range_with_len 0 n)
unfolding frame_bytes packets_of
frame_bytes-places f n e =
    flat_map-map-filter record_of (packet_of f) (is_left_out f.flaw f.last) (range_with_len 0 20) ∙ ap (λ k. flat_map (place_bytes f) (range_with_len 0 k))
    (sym e)

-- k places of a frame, and a front of the next one
pub front_of_frame : (a b c : Option (List ℕ)) (f : Frame) (k n : ℕ) → n ≡ 20 → k < n
    → Appends a b (flat_map (place_bytes f) (range_with_len 0 k)) → AppendsFront b c (place_bytes f k) → AppendsFront a c (frame_bytes f)
front_of_frame a b c f k n e h p q =
    subst (AppendsFront a c) (sym (frame_bytes-places f n e)) (front_of_pieces a b c (place_bytes f) k n h p q)

-- all frames, where the last one was written
pub frames_bytes-all : (number frames : ℕ) (flaw : Flaw) (n : ℕ) → n ≡ frames
    → flat_map (bytes_of_frame number frames flaw) (range_with_len 0 n) ≡ frames_bytes number frames flaw
unfolding frames_bytes
frames_bytes-all number frames flaw n e = ap (λ k. flat_map (bytes_of_frame number frames flaw) (range_with_len 0 k)) e

-- k frames, and a front of the next one
pub front_of_frames : (a b c : Option (List ℕ)) (number frames : ℕ) (flaw : Flaw) (k : ℕ) → k < frames
    → Appends a b (flat_map (bytes_of_frame number frames flaw) (range_with_len 0 k)) → AppendsFront b c (bytes_of_frame number frames flaw k)
    → AppendsFront a c (frames_bytes number frames flaw)
unfolding frames_bytes
front_of_frames a b c number frames flaw k h p q = front_of_pieces a b c (bytes_of_frame number frames flaw) k frames h p q

-- a capture: its head, its first record, and its frames
pub capture-parts : (number frames flaw : ℕ) → capture number frames flaw ≡ file_head
    ++ (record_of (head_packet number) ++ frames_bytes number frames (flaw_of flaw))
unfolding capture packets frames_bytes frame_bytes
capture-parts number frames flaw =
    ap (λ l. file_head ++ (record_of (head_packet number) ++ l))
    (flat_map-flat_map record_of (λ k. packets_of (frame_of number frames (flaw_of flaw) k)) (range_with_len 0 frames))

-- a front of the first piece, or of the second one after the first, is a front of the whole
pub front_in_head : (a b : Option (List ℕ)) (xs ys zs : List ℕ) → AppendsFront a b xs → AppendsFront a b (xs ++ (ys ++ zs))
front_in_head a b xs ys zs p = front_longer a b xs (ys ++ zs) p

pub front_in_second : (a b c : Option (List ℕ)) (xs ys zs : List ℕ) → Appends a b xs → AppendsFront b c ys → AppendsFront a c (xs ++ (ys ++ zs))
front_in_second a b c xs ys zs p q = front_after a b c xs (ys ++ zs) p (front_longer b c ys zs q)

pub puts_third : {T E : Type 0} (a b c d : Option (List ℕ)) (xs ys zs : List ℕ) (r : Result T E)
    → Appends a b xs → Appends b c ys → PutsAll c d r zs → PutsAll a d r (xs ++ (ys ++ zs))
puts_third a b c d xs ys zs r p q s = puts_after a b d xs (ys ++ zs) r p (puts_after b c d ys zs r q s)

-- what is written is the capture, where each piece is the right one
pub parts-capture : (number frames flaw : ℕ) (head first : List ℕ) (f : Flaw) → head ≡ file_head → first ≡ record_of (head_packet number) → f ≡ flaw_of flaw
    → head ++ (first ++ frames_bytes number frames f) ≡ capture number frames flaw
parts-capture number frames flaw head first f e g h =
    ap (λ xs. xs ++ (first ++ frames_bytes number frames f)) e ∙ ap (λ xs. file_head ++ (xs ++ frames_bytes number frames f)) g
    ∙ ap (λ x. file_head ++ (record_of (head_packet number) ++ frames_bytes number frames x)) h ∙ sym (capture-parts number frames flaw)
