-- How many packets and bytes a capture has.
use Rattle.std.proofs.Common.{◌≡◌, ◌≤◌, ◌<◌, ◌+◌, ◌-◌, ◌*◌, ℕ, zero, suc, Bool, true, false, not, ◌==◌, nat_le, if◌then◌else◌, List, [], ◌∷◌, length, refl, sym}
use Rattle.std.proofs.Common.{ap, ◌∙◌, arith, length-append}
use Rattle.std.specs.List.{filter, flat_map, range_with_len}
use Rattle.std.proofs.lemmas.List.{length-map}
use Rattle.std.proofs.lemmas.Bool.{ne_eqb, eq-eqb, le-leb}
use Rattle.capture_gen.specs.declared.flaw.Flaw.{Flaw}
use Rattle.capture_gen.specs.declared.flaw.Flaw.TheVariants.{Clean, Burst, Slow, Gap, Short}
use Rattle.capture_gen.specs.declared.frame.Frame.{Frame}
use Rattle.capture_gen.specs.declared.packet.Packet.{Packet}
use Rattle.capture_gen.specs.Flaws.{flaw_of, is_left_out}
use Rattle.pcap_reader.specs.WrittenHeads.{file_head}
use Rattle.capture_gen.specs.Packets.{record_of}
use Rattle.capture_gen.specs.Capture.{capture, frame_of, packet_of, packets, packets_of}
use Rattle.capture_gen.proofs.Lists.{flat_map-range_more}

length-record_of : (p : Packet) → length (record_of p) ≡ 72
unfolding record_of
length-record_of p = refl

-- each record has 72 bytes
length-records : (ps : List Packet) → length (flat_map record_of ps) ≡ 72 * length ps
length-records [] = refl
length-records (p ∷ ps) = omega (arith, length-append (record_of p) (flat_map record_of ps), length-record_of p, length-records ps)

-- the packets of a frame
kept : Flaw → Bool → ℕ
kept flaw last = length (filter (λ j. not (is_left_out flaw last j)) (range_with_len 0 20))

-- the packets that a flaw takes out of the last frame
abbrev lost : Flaw → ℕ
lost Gap = 1
lost Short = 1
lost _ = 0

-- of an early frame, and of the last one
kept-both : (flaw : Flaw) → (kept flaw false ≡ 20) × (kept flaw true + lost flaw ≡ 20)
unfolding kept
kept-both Clean = (refl, refl)
kept-both Burst = (refl, refl)
kept-both Slow = (refl, refl)
kept-both Gap = (refl, refl)
kept-both Short = (refl, refl)

lost-number : (flaw : ℕ) → lost (flaw_of flaw) ≡ (if nat_le 3 flaw then 1 else 0)
lost-number zero = refl
lost-number (suc zero) = refl
lost-number (suc (suc zero)) = refl
lost-number (suc (suc (suc zero))) = refl
lost-number (suc (suc (suc (suc n)))) = sym (ap (λ b. if b then 1 else 0) (le-leb 3 (suc (suc (suc (suc n)))) (omega arith)))

length-packets_of : (f : Frame) → length (packets_of f) ≡ kept f.flaw f.last
unfolding packets_of kept
length-packets_of f = length-map (filter (λ j. not (is_left_out f.flaw f.last j)) (range_with_len 0 20)) (packet_of f)

module _ (number frames : ℕ) (flaw : Flaw) where
  at : ℕ → List Packet
  at k = packets_of (frame_of number frames flaw k)

  length-at : (k : ℕ) (last : Bool) → (k + 1 == frames) ≡ last → length (at k) ≡ kept flaw last
  unfolding at
  length-at k last e = length-packets_of (frame_of number frames flaw k) ∙ ap (kept flaw) e

  -- the frames before the last one are whole
  early : (n : ℕ) → n < frames → length (flat_map at (range_with_len 0 n)) ≡ 20 * n
  early zero h = refl
  early (suc n) h =
      let e : suc n ≡ n + 1 = omega arith in
      let differs : (n + 1 == frames) ≡ false = ne_eqb (n + 1) frames (λ same. omega arith) in
      let now = flat_map at (range_with_len 0 n) in
      let one : length (at n) ≡ 20 = length-at n false differs ∙ (kept-both flaw).0 in
      let all : length (flat_map at (range_with_len 0 (suc n))) ≡ length now + length (at n) =
      ap (λ k. length (flat_map at (range_with_len 0 k))) e ∙ ap length (flat_map-range_more at n) ∙ length-append now (at n) in
      omega (arith, all, one, early n (omega arith))

  -- and the last one lacks what the flaw takes out
  all : (n : ℕ) → frames ≡ n + 1 → length (flat_map at (range_with_len 0 frames)) + lost flaw ≡ 20 * frames
  all n e =
      let now = flat_map at (range_with_len 0 n) in
      let one : length (at n) ≡ kept flaw true = length-at n true (eq-eqb (n + 1) frames (sym e)) in
      let both : length (flat_map at (range_with_len 0 frames)) ≡ length now + length (at n) =
      ap (λ k. length (flat_map at (range_with_len 0 k))) e ∙ ap length (flat_map-range_more at n) ∙ length-append now (at n) in
      omega (arith, both, one, early n (omega arith), (kept-both flaw).1)

-- the packets of a capture
pub length-packets : (number frames flaw : ℕ) → 1 ≤ frames → length (packets number frames flaw) ≡ 1 + 20 * frames - (if nat_le 3 flaw then 1 else 0)
unfolding packets at
length-packets number frames flaw h =
    omega (arith, all number frames (flaw_of flaw) (frames - 1) (omega arith), lost-number flaw)

-- the bytes of a capture
pub length-capture : (number frames flaw : ℕ) → 1 ≤ frames → length (capture number frames flaw) ≡ 24
    + 72 * (1 + 20 * frames - (if nat_le 3 flaw then 1 else 0))
unfolding capture
length-capture number frames flaw h =
    length-append file_head (flat_map record_of (packets number frames flaw)) ∙ ap (λ n. 24 + n)
    (length-records (packets number frames flaw) ∙ ap (λ n. 72 * n) (length-packets number frames flaw h))
