-- What is read of a frame that carries a packet.
use Rattle.std.proofs.Common.{◌%◌, ◌≡◌, ℕ, Bool, true, false, ◌+◌, ◌-◌, ◌*◌, ◌^◌, ◌<◌, ◌≤◌, List, length}
use Rattle.std.proofs.Common.{take, drop, slice_index, refl, ap, ◌∙◌, arith, length-take, length-drop}
use Rattle.std.specs.Prelude.{Some, Ok, ◌==◌, ◌&&◌, not, nat_le, nat_lt}
use Rattle.std.proofs.lemmas.Bool.{and_from, and_parts, not-true}
use Rattle.std.proofs.lemmas.Bool.Decides.{nat_tests}
use Rattle.timing_base.specs.declared.packet.Rtp.{Rtp}
use Rattle.timing_base.specs.declared.target.Target.{Target}
use Rattle.udp_rtp.specs.Carried.{carries, goes_to, has_fields, is_plain_rtp, is_plain_udp, number}
use Rattle.timing_base.specs.Captures.{Record}
use Rattle.timing_base.specs.Media.{Media}
use Rattle.timing_base.proofs.Targets.{target-itself}
use Rattle.timing_base.specs.Targets.{target_of}
use Rattle.udp_rtp.specs.Flow.{datagram_packet, flow_packet}
use Rattle.udp_rtp.specs.Frames.{datagram_at, datagram_of, is_udp_at, payload_at, udp_place}
use Rattle.byteorder.specs.Endian.{big_number}
use Rattle.byteorder.specs.Numbers.{big_from-take}
use Rattle.std.proofs.lemmas.List.{drop-drop, drop-take, get_or-drop, get_or-take}
use Rattle.udp_rtp.specs.Numbers.{number16, number32}
use Rattle.udp_rtp.specs.Reading.{payload_place, reading, rtp_at}

-- the fields of a frame that carries a packet, one by one
pub record IsCarried (target : Target) (p : Rtp) (frame : List ℕ) : Type 0 where
  pub long : 56 ≤ length frame
  pub kind : number16 frame 12 ≡ 0x0800
  pub first : slice_index frame 14 ≡ 0x45
  pub whole : number16 frame 20 % 2 ^ 14 ≡ 0
  pub protocol : slice_index frame 23 ≡ 17
  pub address : number32 frame 30 ≡ target.address.bits
  pub port : number16 frame 36 ≡ target.port
  pub stated : 22 ≤ number16 frame 38
  pub version : slice_index frame 42 ≡ 0x80
  pub marker : p.marker ≡ false
  pub small : p.pt < 128
  pub pt : slice_index frame 43 ≡ p.pt
  pub number : number frame ≡ p.number
  pub timestamp : number32 frame 46 ≡ p.timestamp
  pub ssrc : number32 frame 50 ≡ p.ssrc

-- the parts of a test with several
pub and4 : (a b c d : Bool) → (a && b && c && d) ≡ true → (a ≡ true) × (b ≡ true) × (c ≡ true) × (d ≡ true)
and4 a b c d h =
    let (abc, w) = and_parts (a && b && c) d h in
    let (ab, z) = and_parts (a && b) c abc in
    let (x, y) = and_parts a b ab in
    (x, y, z, w)

pub and5 : (a b c d e : Bool) → (a && b && c && d && e) ≡ true
    → (a ≡ true) × (b ≡ true) × (c ≡ true) × (d ≡ true) × (e ≡ true)
and5 a b c d e h =
    let (abcd, v) = and_parts (a && b && c && d) e h in
    let (x, y, z, w) = and4 a b c d abcd in
    (x, y, z, w, v)

pub and6 : (a b c d e f : Bool) → (a && b && c && d && e && f) ≡ true
    → (a ≡ true) × (b ≡ true) × (c ≡ true) × (d ≡ true) × (e ≡ true) × (f ≡ true)
and6 a b c d e f h =
    let (five, u) = and_parts (a && b && c && d && e) f h in
    let (x, y, z, w, v) = and5 a b c d e five in
    (x, y, z, w, v, u)

equal : (a b : ℕ) → (a == b) ≡ true → a ≡ b
equal a b h = grind (arith, nat_tests)

at_most : (a b : ℕ) → nat_le a b ≡ true → a ≤ b
at_most a b h = grind (arith, nat_tests)

-- what `carries` compares, field by field
pub carried : (target : Target) (p : Rtp) (frame : List ℕ) → carries target p frame ≡ true → IsCarried target p frame
carried target p frame h =
    let (long, udp, goes, rtp, fields) =
    and5 (nat_le 56 (length frame)) (is_plain_udp frame) (goes_to target frame) (is_plain_rtp frame) (has_fields p frame) h in
    let (kind, first, whole, protocol) =
    and4 (number16 frame 12 == 0x0800) (slice_index frame 14 == 0x45) (number16 frame 20 % 2 ^ 14 == 0) (slice_index frame 23 == 17) udp in
    let (address, port) = and_parts (number32 frame 30 == target.address.bits) (number16 frame 36 == target.port) goes in
    let (stated, version) = and_parts (nat_le 22 (number16 frame 38)) (slice_index frame 42 == 0x80) rtp in
    let (marker, small, pt, same, timestamp, ssrc) =
    and6 (not p.marker) (nat_lt p.pt 128) (slice_index frame 43 == p.pt) (number frame == p.number)
    (number32 frame 46 == p.timestamp) (number32 frame 50 == p.ssrc) fields in
    record {
      long = at_most _ _ long;
      kind = equal _ _ kind;
      first = equal _ _ first;
      whole = equal _ _ whole;
      protocol = equal _ _ protocol;
      address = equal _ _ address;
      port = equal _ _ port;
      stated = at_most _ _ stated;
      version = equal _ _ version;
      marker = not-true _ marker;
      small = at_most _ _ small;
      pt = equal _ _ pt;
      number = equal _ _ same;
      timestamp = equal _ _ timestamp;
      ssrc = equal _ _ ssrc;
    }

-- the UDP header stands behind the plain IPv4 header
udp-at : (frame : List ℕ) → slice_index frame 14 ≡ 0x45 → udp_place frame 14 ≡ 34
udp-at frame e = ap (λ b. 14 + 4 * (b % 16)) e

is-udp : (frame : List ℕ) → 56 ≤ length frame → slice_index frame 14 ≡ 0x45 → slice_index frame 23 ≡ 17 → number16 frame 20 % 2 ^ 14 ≡ 0
    → is_udp_at frame 14 ≡ true
is-udp frame long first protocol whole = grind (arith, nat_tests, and_from)

datagram-behind : (frame : List ℕ) → number16 frame 12 ≡ 0x0800 → is_udp_at frame 14 ≡ true → datagram_of frame ≡ Some (datagram_at frame 14)
datagram-behind frame kind udp = rw (kind, udp) refl

-- such a frame has a datagram to this target
pub datagram-carried : (target : Target) (p : Rtp) (frame : List ℕ) → IsCarried target p frame
    → datagram_of frame ≡ Some (record (datagram_at frame 14) { target = target; payload = payload_at frame 34 })
datagram-carried target p frame f =
    datagram-behind frame f.kind (is-udp frame f.long f.first f.protocol f.whole)
    ∙ rw (udp-at frame f.first, f.address, f.port) refl

-- the payload has the frame's numbers from 42 on, as far as it reaches
length-payload : (frame : List ℕ) → 56 ≤ length frame → 22 ≤ number16 frame 38 → 14 ≤ length (payload_at frame 34)
length-payload frame long stated =
    omega (arith, length-take (number16 frame 38 - 8) (drop 42 frame), length-drop 42 frame, stated, long)

number-payload : (n place : ℕ) (frame : List ℕ) → 22 ≤ number16 frame 38 → place + n ≤ 14
    → big_number n (drop place (payload_at frame 34)) ≡ big_number n (drop (42 + place) frame)
number-payload n place frame stated within =
    let size : number16 frame 38 - 8 ≡ place + (number16 frame 38 - 8 - place) = omega (arith, stated, within) in
    ap (λ k. big_number n (drop place (take k (drop 42 frame)))) size
    ∙ ap (big_number n) (drop-take place (number16 frame 38 - 8 - place) (drop 42 frame))
    ∙ big_from-take 0 n (number16 frame 38 - 8 - place) (drop place (drop 42 frame)) (omega (arith, stated, within))
    ∙ ap (big_number n) (drop-drop place 42 frame)

byte-payload : (place : ℕ) (frame : List ℕ) → 22 ≤ number16 frame 38 → place < 14
    → slice_index (payload_at frame 34) place ≡ slice_index frame (42 + place)
byte-payload place frame stated within = get_or-take _ (drop 42 frame) place 0 (omega arith) ∙ get_or-drop 42 frame place 0

plain-place : (bytes : List ℕ) → slice_index bytes 0 ≡ 0x80 → payload_place bytes ≡ 12
plain-place bytes e = rw e refl

reading-plain : (bytes : List ℕ) → 14 ≤ length bytes → slice_index bytes 0 ≡ 0x80 → reading bytes ≡ Ok (rtp_at bytes 12)
reading-plain bytes long version =
    let enough : nat_lt (length bytes) 12 ≡ false = grind (arith, nat_tests) in
    let whole : nat_lt (length bytes) 14 ≡ false = grind (arith, nat_tests) in
    rw (enough, version, whole) refl

same-fields : (number timestamp pt ssrc : ℕ) (marker : Bool) (p : Rtp) → number ≡ p.number → timestamp ≡ p.timestamp → marker ≡ p.marker
    → pt ≡ p.pt → ssrc ≡ p.ssrc → record { number = number; timestamp = timestamp; marker = marker; pt = pt; ssrc = ssrc } ≡ p
same-fields number timestamp pt ssrc marker p n t m k s = rw (n, t, m, k, s) refl

fields-are : (bytes : List ℕ) (p : Rtp) → p.marker ≡ false → p.pt < 128 → slice_index bytes 1 ≡ p.pt → number16 bytes 12 * 2 ^ 16 + number16 bytes 2 ≡ p.number
    → number32 bytes 4 ≡ p.timestamp → number32 bytes 8 ≡ p.ssrc → rtp_at bytes 12 ≡ p
fields-are bytes p marker small pt number timestamp ssrc =
    same-fields _ _ _ _ _ p number timestamp (grind (arith, nat_tests)) (omega (arith, pt, small)) ssrc

-- its payload reads as this packet
pub reading-carried : (target : Target) (p : Rtp) (frame : List ℕ) → IsCarried target p frame → reading (payload_at frame 34) ≡ Ok p
reading-carried target p frame f =
    let bytes = payload_at frame 34 in
    reading-plain bytes (length-payload frame f.long f.stated) (byte-payload 0 frame f.stated (omega arith) ∙ f.version)
    ∙ ap Ok (fields-are bytes p f.marker f.small (byte-payload 1 frame f.stated (omega arith) ∙ f.pt)
    (omega (arith, number-payload 2 12 frame f.stated (omega arith), number-payload 2 2 frame f.stated (omega arith), f.number))
    (number-payload 4 4 frame f.stated (omega arith) ∙ f.timestamp)
    (number-payload 4 8 frame f.stated (omega arith) ∙ f.ssrc))

-- a record of it has this packet in the flow of each media of this target
pub packet-carried : (media : Media) (p : Rtp) (r : Record) → IsCarried (target_of media) p r.bytes
    → flow_packet media r ≡ Some (record { rec = r.number; at = r.stamp; rtp = Ok p })
packet-carried media p r f =
    ap (datagram_packet media r.number r.stamp) (datagram-carried (target_of media) p r.bytes f)
    ∙ rw (target-itself (target_of media), reading-carried (target_of media) p r.bytes f) refl
