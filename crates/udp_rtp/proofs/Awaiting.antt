-- A frame's bytes as numbers of eight bytes, and the fields in them.
use Rattle.std.proofs.Common.{◌≡◌, ◌≤◌, ◌<◌, ◌+◌, ◌-◌, ◌*◌, ◌/◌, ◌%◌, ◌^◌, ℕ, Bool, true, false, List, drop, length, slice_index, arith, ap, refl, sym, ◌∙◌}
use Rattle.std.specs.Prelude.{Option, Some, None, if◌then◌else◌, ◌==◌, ◌&&◌, ◌||◌, not, nat_le, nat_lt}
use Rattle.byteorder.specs.Endian.{big_number}
use Rattle.std.proofs.lemmas.Bool.Decides.{nat_tests}
use Rattle.std.proofs.lemmas.List.{get_or-drop}
use Rattle.timing_base.specs.Flows.{next_number}
use Rattle.timing_base.specs.declared.packet.Rtp.{Rtp}
use Rattle.timing_base.specs.declared.target.Target.{Target}
use Rattle.udp_rtp.specs.Carried.{carries, goes_to, has_fields, is_plain_rtp, is_plain_udp, number}
use Rattle.udp_rtp.specs.Numbers.{number16, number32}
use Rattle.udp_rtp.specs.Awaited.{awaited, awaited_after, awaited_of, carries_awaited, has_numbers, packet_of, target_of}
use Rattle.udp_rtp.specs.declared.awaited.Awaited.{Awaited}
use Rattle.udp_rtp.proofs.Parts.{both-true, equal, four-at, same-test, tested, two-at}
use Rattle.udp_rtp.proofs.PlainFrames.{and5, carried}

-- what a frame has at the places that are compared: 34 and 36, 42 to 55
pub destination-at : (frame : List ℕ)
    → big_number 8 (drop 30 frame) ≡ number32 frame 30 * 2 ^ 32 + number16 frame 34 * 2 ^ 16 + number16 frame 36
destination-at frame =
    omega (
      arith,
      four-at frame 30,
      two-at frame 34,
      two-at frame 36,
      get_or-drop 30 frame 0 0,
      get_or-drop 30 frame 1 0,
      get_or-drop 30 frame 2 0,
      get_or-drop 30 frame 3 0,
      get_or-drop 30 frame 4 0,
      get_or-drop 30 frame 5 0,
      get_or-drop 30 frame 6 0,
      get_or-drop 30 frame 7 0,
    )

pub start-at : (frame : List ℕ) → big_number 8 (drop 42 frame)
    ≡ slice_index frame 42 * 2 ^ 56 + slice_index frame 43 * 2 ^ 48 + number16 frame 44 * 2 ^ 32 + number32 frame 46
start-at frame =
    omega (
      arith,
      two-at frame 44,
      four-at frame 46,
      get_or-drop 42 frame 0 0,
      get_or-drop 42 frame 1 0,
      get_or-drop 42 frame 2 0,
      get_or-drop 42 frame 3 0,
      get_or-drop 42 frame 4 0,
      get_or-drop 42 frame 5 0,
      get_or-drop 42 frame 6 0,
      get_or-drop 42 frame 7 0,
    )

pub rest-at : (frame : List ℕ) → big_number 8 (drop 48 frame)
    ≡ number16 frame 48 * 2 ^ 48 + number32 frame 50 * 2 ^ 16 + number16 frame 54
rest-at frame =
    omega (
      arith,
      two-at frame 48,
      four-at frame 50,
      two-at frame 54,
      get_or-drop 48 frame 0 0,
      get_or-drop 48 frame 1 0,
      get_or-drop 48 frame 2 0,
      get_or-drop 48 frame 3 0,
      get_or-drop 48 frame 4 0,
      get_or-drop 48 frame 5 0,
      get_or-drop 48 frame 6 0,
      get_or-drop 48 frame 7 0,
    )

half-at : (frame : List ℕ) → number32 frame 46 ≡ number16 frame 46 * 2 ^ 16 + number16 frame 48
half-at frame = omega (arith, four-at frame 46, two-at frame 46, two-at frame 48)

two-below : (frame : List ℕ) (p : ℕ) → slice_index frame (p + 0) < 2 ^ 8 → slice_index frame (p + 1) < 2 ^ 8 → number16 frame p < 2 ^ 16
two-below frame p a b = omega (arith, two-at frame p, a, b)

four-below : (frame : List ℕ) (p : ℕ) → slice_index frame (p + 0) < 2 ^ 8 → slice_index frame (p + 1) < 2 ^ 8 → slice_index frame (p + 2) < 2 ^ 8
    → slice_index frame (p + 3) < 2 ^ 8 → number32 frame p < 2 ^ 32
four-below frame p a b c d = omega (arith, four-at frame p, a, b, c, d)

-- a number of four bytes by its parts: one byte, one and two; and one of eight bytes: two, four and two
head-parts : (h : ℕ) → h ≡ h / 2 ^ 24 * 2 ^ 24 + h / 2 ^ 16 % 2 ^ 8 * 2 ^ 16 + h % 2 ^ 16
head-parts h = omega arith

three-parts : (r : ℕ) → r ≡ r / 2 ^ 48 * 2 ^ 48 + r / 2 ^ 16 % 2 ^ 32 * 2 ^ 16 + r % 2 ^ 16
three-parts r = omega arith

-- the parts of a number that is put together
head24 : (a b c : ℕ) → b < 2 ^ 8 → c < 2 ^ 16 → (a * 2 ^ 24 + b * 2 ^ 16 + c) / 2 ^ 24 ≡ a
head24 a b c hb hc = omega (arith, hb, hc)

head16 : (a b c : ℕ) → b < 2 ^ 8 → c < 2 ^ 16 → (a * 2 ^ 24 + b * 2 ^ 16 + c) / 2 ^ 16 % 2 ^ 8 ≡ b
head16 a b c hb hc = omega (arith, hb, hc)

head0 : (a b c : ℕ) → b < 2 ^ 8 → c < 2 ^ 16 → (a * 2 ^ 24 + b * 2 ^ 16 + c) % 2 ^ 16 ≡ c
head0 a b c hb hc = omega (arith, hb, hc)

halves : (a b c d head timestamp : ℕ) → d < 2 ^ 32 → timestamp < 2 ^ 32
    → a * 2 ^ 56 + b * 2 ^ 48 + c * 2 ^ 32 + d ≡ head * 2 ^ 32 + timestamp
    → (a * 2 ^ 24 + b * 2 ^ 16 + c ≡ head) × (d ≡ timestamp)
halves a b c d head timestamp hd ht e = (omega (arith, hd, ht, e), omega (arith, hd, ht, e))

rest48 : (a b c : ℕ) → b < 2 ^ 32 → c < 2 ^ 16 → (a * 2 ^ 48 + b * 2 ^ 16 + c) / 2 ^ 48 ≡ a
rest48 a b c hb hc = omega (arith, hb, hc)

rest16 : (a b c : ℕ) → b < 2 ^ 32 → c < 2 ^ 16 → (a * 2 ^ 48 + b * 2 ^ 16 + c) / 2 ^ 16 % 2 ^ 32 ≡ b
rest16 a b c hb hc = omega (arith, hb, hc)

rest0 : (a b c : ℕ) → b < 2 ^ 32 → c < 2 ^ 16 → (a * 2 ^ 48 + b * 2 ^ 16 + c) % 2 ^ 16 ≡ c
rest0 a b c hb hc = omega (arith, hb, hc)

-- a destination by its parts: where nothing stands in the place of the source's port
destination-parts : (d : ℕ) → d / 2 ^ 16 % 2 ^ 16 ≡ 0 → d ≡ d / 2 ^ 32 * 2 ^ 32 + d % 2 ^ 16
destination-parts d none = omega (arith, none)

destination-middle : (a b : ℕ) → b < 2 ^ 16 → (a * 2 ^ 32 + b) / 2 ^ 16 % 2 ^ 16 ≡ 0
destination-middle a b hb = omega (arith, hb)

destination-high : (a b : ℕ) → b < 2 ^ 16 → (a * 2 ^ 32 + b) / 2 ^ 32 ≡ a
destination-high a b hb = omega (arith, hb)

destination-low : (a b : ℕ) → b < 2 ^ 16 → (a * 2 ^ 32 + b) % 2 ^ 16 ≡ b
destination-low a b hb = omega (arith, hb)

in-short-case : (a : Awaited) (frame : List ℕ) (some : Bool) → nat_le 56 (length frame) ≡ false
    → false ≡ carries_awaited (if some then Some (target_of a, packet_of a) else None) frame
in-short-case a frame true short = rw short refl
in-short-case a frame false short = refl

-- a frame that is too short carries nothing
pub in-short : (a : Awaited) (frame : List ℕ) → nat_le 56 (length frame) ≡ false → false ≡ carries_awaited (awaited a) frame
in-short a frame short = in-short-case a frame (a.destination / 2 ^ 16 % 2 ^ 16 == 0) short

-- what is known of what is awaited, and of a frame that is long enough
pub record IsKnown (a : Awaited) (frame : List ℕ) : Type 0 where
  pub version : a.head / 2 ^ 24 ≡ 0x80
  pub unmarked : a.head / 2 ^ 16 % 2 ^ 8 < 128
  pub overlap : a.rest / 2 ^ 48 ≡ a.timestamp % 2 ^ 16
  pub timestamp : a.timestamp < 2 ^ 32
  pub long : 56 ≤ length frame
  pub bytes : (place : ℕ) → slice_index frame place < 2 ^ 8

-- the numbers of a frame are below what their bytes can say
n16 : (frame : List ℕ) (p : ℕ) → ((place : ℕ) → slice_index frame place < 2 ^ 8) → number16 frame p < 2 ^ 16
n16 frame p b = two-below frame p (b (p + 0)) (b (p + 1))

n32 : (frame : List ℕ) (p : ℕ) → ((place : ℕ) → slice_index frame place < 2 ^ 8) → number32 frame p < 2 ^ 32
n32 frame p b = four-below frame p (b (p + 0)) (b (p + 1)) (b (p + 2)) (b (p + 3))

-- the fields of a frame that has the numbers
record HasFields (a : Awaited) (frame : List ℕ) : Type 0 where
  pub version : slice_index frame 42 ≡ 0x80
  pub pt : slice_index frame 43 ≡ (packet_of a).pt
  pub number : number frame ≡ (packet_of a).number
  pub timestamp : number32 frame 46 ≡ (packet_of a).timestamp
  pub ssrc : number32 frame 50 ≡ (packet_of a).ssrc

fields-of : (a : Awaited) (frame : List ℕ) → IsKnown a frame → big_number 8 (drop 42 frame) ≡ a.head * 2 ^ 32 + a.timestamp
    → big_number 8 (drop 48 frame) ≡ a.rest
    → HasFields a frame
fields-of a frame k start rest =
    let b43 : slice_index frame 43 < 2 ^ 8 = k.bytes 43 in
    let h44 : number16 frame 44 < 2 ^ 16 = n16 frame 44 k.bytes in
    let h46 : number32 frame 46 < 2 ^ 32 = n32 frame 46 k.bytes in
    let h50 : number32 frame 50 < 2 ^ 32 = n32 frame 50 k.bytes in
    let h54 : number16 frame 54 < 2 ^ 16 = n16 frame 54 k.bytes in
    let (head, time) =
    halves (slice_index frame 42) (slice_index frame 43) (number16 frame 44) (number32 frame 46) a.head a.timestamp h46 k.timestamp
    (sym (start-at frame) ∙ start) in
    let r : number16 frame 48 * 2 ^ 48 + number32 frame 50 * 2 ^ 16 + number16 frame 54 ≡ a.rest = sym (rest-at frame) ∙ rest in
    let low : number16 frame 44 ≡ a.head % 2 ^ 16 =
    sym (head0 (slice_index frame 42) (slice_index frame 43) (number16 frame 44) b43 h44) ∙ ap (λ x. x % 2 ^ 16) head in
    let high : number16 frame 54 ≡ a.rest % 2 ^ 16 =
    sym (rest0 (number16 frame 48) (number32 frame 50) (number16 frame 54) h50 h54) ∙ ap (λ x. x % 2 ^ 16) r in
    record {
      version =
          sym (head24 (slice_index frame 42) (slice_index frame 43) (number16 frame 44) b43 h44) ∙ ap (λ x. x / 2 ^ 24) head ∙ k.version;
      pt = sym (head16 (slice_index frame 42) (slice_index frame 43) (number16 frame 44) b43 h44) ∙ ap (λ x. x / 2 ^ 16 % 2 ^ 8) head;
      number = rw (low, high) refl;
      timestamp = time;
      ssrc = sym (rest16 (number16 frame 48) (number32 frame 50) (number16 frame 54) h50 h54) ∙ ap (λ x. x / 2 ^ 16 % 2 ^ 32) r;
    }

parts-below : (low high x y : ℕ) → low < 2 ^ 16 → x < 2 ^ 16 → high * 2 ^ 16 + low ≡ y * 2 ^ 16 + x → (low ≡ x) × (high ≡ y)
parts-below low high x y hl hx e = (omega (arith, hl, hx, e), omega (arith, hl, hx, e))

-- and the other way round
number-parts : (low high head r : ℕ) → low < 2 ^ 16 → high < 2 ^ 16 → high * 2 ^ 16 + low ≡ r % 2 ^ 16 * 2 ^ 16 + head % 2 ^ 16
    → (low ≡ head % 2 ^ 16) × (high ≡ r % 2 ^ 16)
number-parts low high head r hl hh e = parts-below low high (head % 2 ^ 16) (r % 2 ^ 16) hl (omega arith) e

joined-start : (h b42 b43 low time : ℕ) → h / 2 ^ 24 ≡ 0x80 → b42 ≡ 0x80 → b43 ≡ h / 2 ^ 16 % 2 ^ 8 → low ≡ h % 2 ^ 16
    → b42 * 2 ^ 56 + b43 * 2 ^ 48 + low * 2 ^ 32 + time ≡ h * 2 ^ 32 + time
joined-start h b42 b43 low time version first type low_is = omega (arith, head-parts h, version, first, type, low_is)

joined-rest : (r half ssrc high : ℕ) → half ≡ r / 2 ^ 48 → ssrc ≡ r / 2 ^ 16 % 2 ^ 32 → high ≡ r % 2 ^ 16
    → half * 2 ^ 48 + ssrc * 2 ^ 16 + high ≡ r
joined-rest r half ssrc high h s n = omega (arith, three-parts r, h, s, n)

half-of : (frame : List ℕ) (ts : ℕ) → number16 frame 48 < 2 ^ 16 → number32 frame 46 ≡ ts → number16 frame 48 ≡ ts % 2 ^ 16
half-of frame ts below e = omega (arith, half-at frame, below, e)

numbers-of : (a : Awaited) (frame : List ℕ) → IsKnown a frame → HasFields a frame
    → (big_number 8 (drop 42 frame) ≡ a.head * 2 ^ 32 + a.timestamp) × (big_number 8 (drop 48 frame) ≡ a.rest)
numbers-of a frame k f =
    let (low, high) =
    number-parts (number16 frame 44) (number16 frame 54) a.head a.rest (n16 frame 44 k.bytes) (n16 frame 54 k.bytes) f.number in
    let half : number16 frame 48 ≡ a.rest / 2 ^ 48 =
    half-of frame a.timestamp (n16 frame 48 k.bytes) f.timestamp ∙ sym k.overlap in (
      start-at frame
          ∙ joined-start a.head (slice_index frame 42) (slice_index frame 43) (number16 frame 44) (number32 frame 46) k.version f.version f.pt low
          ∙ ap (λ t. a.head * 2 ^ 32 + t) f.timestamp,
      rest-at frame ∙ joined-rest a.rest (number16 frame 48) (number32 frame 50) (number16 frame 54) half f.ssrc high,
    )

long-test : (n : ℕ) → 56 ≤ n → nat_le 56 n ≡ true
long-test n h = grind (arith, nat_tests)

below-test : (n : ℕ) → n < 128 → nat_lt n 128 ≡ true
below-test n h = grind (arith, nat_tests)

stated-test : (n : ℕ) → 22 ≤ n → nat_le 22 n ≡ true
stated-test n h = grind (arith, nat_tests)

carried-if : (target : Target) (p : Rtp) (frame : List ℕ) → nat_le 56 (length frame) ≡ true → is_plain_udp frame ≡ true → goes_to target frame ≡ true
    → is_plain_rtp frame ≡ true → has_fields p frame ≡ true → carries target p frame ≡ true
carried-if target p frame long udp goes rtp fields = both-true _ _ (both-true _ _ (both-true _ _ (both-true _ _ long udp) goes) rtp) fields

tested-both : (b : Bool) → b ≡ true → b ≡ false → ⊥
tested-both true e f = cc
tested-both false e f = cc

never-true : (b : Bool) → (b ≡ true → ⊥) → b ≡ false
never-true true h = absurd (h refl)
never-true false h = refl

-- where something is awaited: the frame has the numbers exactly where it carries the packet
there : (a : Awaited) (frame : List ℕ) → IsKnown a frame → a.destination / 2 ^ 16 % 2 ^ 16 ≡ 0 → has_numbers a frame ≡ true
    → carries (target_of a) (packet_of a) frame ≡ true
there a frame k none h =
    let (udp, goes, stated, start, rest) =
    and5 (is_plain_udp frame) (number32 frame 30 * 2 ^ 32 + number16 frame 36 == a.destination) (nat_le 22 (number16 frame 38))
    (big_number 8 (drop 42 frame) == a.head * 2 ^ 32 + a.timestamp) (big_number 8 (drop 48 frame) == a.rest) h in
    let f = fields-of a frame k (equal _ _ start) (equal _ _ rest) in
    let d : number32 frame 30 * 2 ^ 32 + number16 frame 36 ≡ a.destination = equal _ _ goes in
    let low : number16 frame 36 < 2 ^ 16 = n16 frame 36 k.bytes in
    let address : number32 frame 30 ≡ a.destination / 2 ^ 32 =
    sym (destination-high (number32 frame 30) (number16 frame 36) low) ∙ ap (λ x. x / 2 ^ 32) d in
    let port : number16 frame 36 ≡ a.destination % 2 ^ 16 =
    sym (destination-low (number32 frame 30) (number16 frame 36) low) ∙ ap (λ x. x % 2 ^ 16) d in
    carried-if (target_of a) (packet_of a) frame (long-test _ k.long) udp
    (both-true _ _ (tested _ _ address) (tested _ _ port))
    (both-true _ _ stated (tested _ _ f.version))
    (both-true _ _ (both-true _ _ (both-true _ _ (both-true _ _ (below-test _ k.unmarked) (tested _ _ f.pt)) (tested _ _ f.number))
    (tested _ _ f.timestamp)) (tested _ _ f.ssrc))

back : (a : Awaited) (frame : List ℕ) → IsKnown a frame → a.destination / 2 ^ 16 % 2 ^ 16 ≡ 0 → carries (target_of a) (packet_of a) frame ≡ true
    → has_numbers a frame ≡ true
back a frame k none h =
    let (long, udp, goes, rtp, fields) =
    and5 (nat_le 56 (length frame)) (is_plain_udp frame) (goes_to (target_of a) frame) (is_plain_rtp frame) (has_fields (packet_of a) frame) h in
    let c = carried (target_of a) (packet_of a) frame h in
    let f : HasFields a frame = record { version = c.version; pt = c.pt; number = c.number; timestamp = c.timestamp; ssrc = c.ssrc } in
    let (start, rest) = numbers-of a frame k f in
    let d : number32 frame 30 * 2 ^ 32 + number16 frame 36 ≡ a.destination =
    rw (c.address, c.port) (sym (destination-parts a.destination none)) in
    both-true _ _ (both-true _ _ (both-true _ _ (both-true _ _ udp (tested _ _ d)) (stated-test _ c.stated)) (tested _ _ start)) (tested _ _ rest)

-- where nothing is awaited no frame has the numbers
never : (a : Awaited) (frame : List ℕ) → IsKnown a frame → (a.destination / 2 ^ 16 % 2 ^ 16 == 0) ≡ false → has_numbers a frame ≡ true → ⊥
never a frame k some h =
    let (udp, goes, stated, start, rest) =
    and5 (is_plain_udp frame) (number32 frame 30 * 2 ^ 32 + number16 frame 36 == a.destination) (nat_le 22 (number16 frame 38))
    (big_number 8 (drop 42 frame) == a.head * 2 ^ 32 + a.timestamp) (big_number 8 (drop 48 frame) == a.rest) h in
    let middle : a.destination / 2 ^ 16 % 2 ^ 16 ≡ 0 =
    sym (ap (λ x. x / 2 ^ 16 % 2 ^ 16) (equal _ _ goes)) ∙ destination-middle (number32 frame 30) (number16 frame 36) (n16 frame 36 k.bytes) in
    tested-both _ (tested _ _ middle) some

in-long-case : (a : Awaited) (frame : List ℕ) (some : Bool) → IsKnown a frame → (a.destination / 2 ^ 16 % 2 ^ 16 == 0) ≡ some
    → has_numbers a frame ≡ carries_awaited (if some then Some (target_of a, packet_of a) else None) frame
in-long-case a frame true k e = same-test _ _ (there a frame k (equal _ _ e)) (back a frame k (equal _ _ e))
in-long-case a frame false k e = never-true _ (never a frame k e)

pub in-long : (a : Awaited) (frame : List ℕ) → IsKnown a frame → has_numbers a frame ≡ carries_awaited (awaited a) frame
in-long a frame k = in-long-case a frame (a.destination / 2 ^ 16 % 2 ^ 16 == 0) k refl

-- a packet that no plain frame can carry is carried by none, and each other one is awaited as it is
and-false : (b : Bool) → false ≡ (b && false)
and-false true = refl
and-false false = refl

carried-by-none : (target : Target) (p : Rtp) (frame : List ℕ) → has_fields p frame ≡ false → false ≡ carries target p frame
carried-by-none target p frame none =
    and-false (nat_le 56 (length frame) && is_plain_udp frame && goes_to target frame && is_plain_rtp frame)
    ∙ sym (ap (λ b. nat_le 56 (length frame) && is_plain_udp frame && goes_to target frame && is_plain_rtp frame && b) none)

of-case : (target : Target) (p : Rtp) (frame : List ℕ) (marker small : Bool) → p.marker ≡ marker → nat_lt p.pt 128 ≡ small
    → carries_awaited (if marker || not small then None else Some (target, p)) frame ≡ carries target p frame
of-case target p frame true small m s = carried-by-none target p frame (rw m refl)
of-case target p frame false true m s = refl
of-case target p frame false false m s = carried-by-none target p frame (rw (m, s) refl)

pub carried-of : (target : Target) (p : Rtp) (frame : List ℕ) → carries_awaited (awaited_of target (Some p)) frame ≡ carries target p frame
carried-of target p frame = of-case target p frame p.marker (nat_lt p.pt 128) refl refl

-- what is awaited, where a frame carries it
pub awaited-carried : (w : Option (Target × Rtp)) (frame : List ℕ) → carries_awaited w frame ≡ true
    → (target : Target) × (p : Rtp) × (w ≡ Some (target, p)) × (carries target p frame ≡ true)
awaited-carried None frame h = cc
awaited-carried (Some (target, p)) frame h = (target, p, refl, h)

packet-in : Rtp → Option (Target × Rtp) → Rtp
packet-in p None = p
packet-in p (Some (target, q)) = q

packet-case : (a : Awaited) (some : Bool) (target : Target) (p : Rtp)
    → if◌then◌else◌ {A = Option (Target × Rtp)} some (Some (target_of a, packet_of a)) None ≡ Some (target, p)
    → packet_of a ≡ p
unfolding packet-in
packet-case a true target p h = ap (packet-in p) h
packet-case a false target p h = cc

pub packet-awaited : (a : Awaited) (target : Target) (p : Rtp) → awaited a ≡ Some (target, p) → packet_of a ≡ p
packet-awaited a target p h = packet-case a (a.destination / 2 ^ 16 % 2 ^ 16 == 0) target p h

-- what goes on after a packet goes to its target
target-in : Target → Option (Target × Rtp) → Target
target-in t None = t
target-in t (Some (target, q)) = target

after-case : (s : Target) (q : Rtp) (target t : Target) (p : Rtp) (last : Bool) → s ≡ target
    → if◌then◌else◌ {A = Option (Target × Rtp)} last None (Some (
      s,
      record {
        number = next_number q.number;
        timestamp = q.timestamp;
        marker = q.marker;
        pt = q.pt;
        ssrc = q.ssrc;
      },
    )) ≡ Some (t, p)
    → t ≡ target
unfolding target-in
after-case s q target t p true same e = cc
after-case s q target t p false same e = sym (ap (target-in t) e) ∙ same

pub target-after : (w : Option (Target × Rtp)) (target t : Target) (p : Rtp) → ((s : Target) (q : Rtp) → w ≡ Some (s, q) → s ≡ target)
    → awaited_after w ≡ Some (t, p) → t ≡ target
target-after None target t p h e = cc
target-after (Some (s, q)) target t p h e = after-case s q target t p (q.number % 2 ^ 16 == 65535) (h s q refl) e

of-case-target : (target : Target) (p : Rtp) (left_out : Bool) (s : Target) (q : Rtp)
    → if◌then◌else◌ {A = Option (Target × Rtp)} left_out None (Some (target, p)) ≡ Some (s, q)
    → s ≡ target
unfolding target-in
of-case-target target p true s q e = cc
of-case-target target p false s q e = sym (ap (target-in s) e)

pub target-of : (target : Target) (packet : Option Rtp) (s : Target) (q : Rtp) → awaited_of target packet ≡ Some (s, q) → s ≡ target
target-of target None s q e = cc
target-of target (Some p) s q e = of-case-target target p (p.marker || not (nat_lt p.pt 128)) s q e

pub goes-on-to : (a b : Awaited) (target t : Target) (p q : Rtp) → awaited a ≡ Some (target, p) → awaited b ≡ awaited_after (awaited a)
    → awaited b ≡ Some (t, q) → t ≡ target
goes-on-to a b target t p q is next e =
    after-case target p target t q (p.number % 2 ^ 16 == 65535) refl (sym (ap awaited_after is) ∙ sym next ∙ e)

middle-out : (a b c x : ℕ) → b < 2 ^ 16 → c < 2 ^ 16 → x ≡ a * 2 ^ 32 + b * 2 ^ 16 + c → x - x / 65536 % 65536 * 65536 ≡ a * 2 ^ 32 + c
middle-out a b c x hb hc e = omega (arith, hb, hc, e)

-- what is left of eight bytes where the two in the middle are taken out
pub without-source : (frame : List ℕ) (eight : ℕ) → ((place : ℕ) → slice_index frame place < 2 ^ 8) → eight ≡ big_number 8 (drop 30 frame)
    → eight - eight / 65536 % 65536 * 65536 ≡ number32 frame 30 * 2 ^ 32 + number16 frame 36
without-source frame eight bytes is =
    middle-out (number32 frame 30) (number16 frame 34) (number16 frame 36) eight (n16 frame 34 bytes) (n16 frame 36 bytes) (is ∙ destination-at frame)
