-- Bytes stay bytes: what a file of bytes gives as a classic text is bytes.
use Rattle.std.proofs.Common.{◌<◌, ◌+◌, ◌-◌, ◌*◌, ◌/◌, ◌%◌, ◌^◌, ℕ, zero, suc, Bool, true, false, List, [], ◌∷◌, ◌++◌, length, take, drop, None, Some, arith}
use Rattle.std.proofs.lemmas.List.Elements.{All-append, All-cons, All-drop, All-head, All-nil, All-tail, All-take}
use Rattle.std.specs.Prelude.{◌==◌, ◌||◌, All, if◌then◌else◌, map, nat_lt, not, slice_get, Option}
use Rattle.std.specs.Option.{option_map_or}
use Rattle.byteorder.specs.Endian.{little_bytes}
use Rattle.std.specs.Int.{byte_at, bytes_low_first}
use Rattle.pcap_reader.specs.WrittenHeads.{file_head, record_head}
use Rattle.pcapng_reader.specs.declared.block.Order.{Order}
use Rattle.pcapng_reader.specs.declared.block.Interface.{Interface}
use Rattle.pcapng_reader.specs.declared.block.Kind.{Kind}
use Rattle.pcapng_reader.specs.declared.block.Kind.TheVariants as kind
use Rattle.pcapng_reader.specs.Bytes.{AreBytes}
use Rattle.pcapng_reader.specs.Classic.{Given, Section, add_interface, begins_section, block, blocks, blocks_by, broken}
use Rattle.pcapng_reader.specs.Classic.{classic, content, cut, described, ended, gives, is_late, is_length, kind_of}
use Rattle.pcapng_reader.specs.Classic.{late, nanos, no_section, number, order_by, ordered_block, packet_by, record_by, sized_block, total_by}

abbrev IsByte : ℕ → Type 0
IsByte byte = byte < 256

at-byte : (place x : ℕ) → byte_at place x < 256
at-byte zero x = omega arith
at-byte (suc place) x = omega arith

low-bytes : (place n x : ℕ) → AreBytes (bytes_low_first place n x)
low-bytes place zero x = All-nil IsByte
low-bytes place (suc n) x = All-cons IsByte (byte_at place x) (bytes_low_first (suc place) n x) (at-byte place x) (low-bytes (suc place) n x)

four : (x : ℕ) → AreBytes (little_bytes 4 x)
four x = low-bytes 0 4 x

both : (a b : List ℕ) → AreBytes a → AreBytes b → AreBytes (a ++ b)
both a b h k = All-append IsByte a b h k

number-then : (n x : ℕ) (rest : List ℕ) → AreBytes rest → AreBytes (little_bytes n x ++ rest)
number-then n x rest h = both (little_bytes n x) rest (low-bytes 0 n x) h

front : (n : ℕ) (a : List ℕ) → AreBytes a → AreBytes (take n a)
front n a h = All-take IsByte n a h

behind : (n : ℕ) (a : List ℕ) → AreBytes a → AreBytes (drop n a)
behind n a h = All-drop IsByte n a h

-- four numbers of four bytes, as in the head of a record
heads : (x y z w : ℕ) → AreBytes (little_bytes 4 x ++ little_bytes 4 y ++ little_bytes 4 z ++ little_bytes 4 w)
heads x y z w =
    let third = little_bytes 4 z ++ little_bytes 4 w in
    let second = little_bytes 4 y ++ third in
    number-then 4 x second (number-then 4 y third (number-then 4 z (little_bytes 4 w) (four w)))

file-head : AreBytes file_head
file-head =
    let link = little_bytes 4 1 in
    let snaplen = little_bytes 4 262144 ++ link in
    let sigfigs = little_bytes 4 0 ++ snaplen in
    let zone = little_bytes 4 0 ++ sigfigs in
    let minor = little_bytes 2 4 ++ zone in
    let major = little_bytes 2 2 ++ minor in
    number-then 4 0xa1b23c4d major (number-then 2 2 minor (number-then 2 4 zone (number-then 4 0 sigfigs (number-then 4 0 snaplen
    (number-then 4 262144 link (four 1))))))

chosen : (b : Bool) (x y : Given) → AreBytes x.bytes → AreBytes y.bytes → AreBytes (if b then x else y).bytes
chosen true x y h k = h
chosen false x y h k = k

broken-bytes : AreBytes broken.bytes
broken-bytes = heads 0 0 (2 ^ 32 - 1) 0

late-bytes : AreBytes late.bytes
late-bytes = heads 0 (2 ^ 32 - 1) 0 0

by-link : (ethernet : Bool) (n : ℕ) (bytes : List ℕ) → AreBytes bytes → AreBytes (if ethernet then record_head n (length bytes) ++ bytes else record_head n 0)
by-link true n bytes h = both (record_head n (length bytes)) bytes (heads (n / 1000000000) (n % 1000000000) (length bytes) (length bytes)) h
by-link false n bytes h = heads (n / 1000000000) (n % 1000000000) 0 0

packet-bytes : (found : Option Interface) (o : Order) (s : Section) (rest : List ℕ) → AreBytes rest → AreBytes (packet_by found o s rest).bytes
packet-bytes None o s rest h = broken-bytes
packet-bytes (Some i) o s rest h =
    let stamp = number o 4 12 rest * 2 ^ 32 + number o 4 16 rest in
    let captured = number o 4 20 rest in
    let bytes = take captured (drop 28 rest) in
    let given : Given = gives (record_by i stamp bytes) s in
    chosen (nat_lt 262144 captured || nat_lt (length rest - 4) (28 + captured)) broken (if is_late i stamp then late else given) broken-bytes
    (chosen (is_late i stamp) late given late-bytes (by-link (i.link == 1) (nanos i stamp) bytes (front captured (drop 28 rest) (behind 28 rest h))))

interface-bytes : (s : Section) (found : Option Interface) → AreBytes (add_interface s found).bytes
interface-bytes s None = broken-bytes
interface-bytes s (Some i) = chosen (nat_lt (length s.interfaces) 1024) _ broken (All-nil IsByte) broken-bytes

content-bytes : (k : Kind) (o : Order) (s : Section) (rest : List ℕ) → AreBytes rest → AreBytes (content k o s rest).bytes
content-bytes kind.Section o s rest h = chosen (number o 2 12 rest == 1) _ broken (All-nil IsByte) broken-bytes
content-bytes kind.Interface o s rest h = interface-bytes s (described o rest)
content-bytes kind.Packet o s rest h = packet-bytes (slice_get s.interfaces (number o 4 8 rest)) o s rest h
content-bytes kind.Other o s rest h = All-nil IsByte

cut-bytes : AreBytes cut.bytes
cut-bytes = All-cons IsByte 0 [] (omega arith) (All-nil IsByte)

sized-bytes : (o : Order) (k : Kind) (total : ℕ) (s : Section) (rest : List ℕ) → AreBytes rest → AreBytes (sized_block o k total s rest).bytes
sized-bytes o k total s rest h =
    chosen (not (is_length k total)) broken _ broken-bytes
    (chosen (nat_lt (length rest) total) cut _ cut-bytes
    (chosen (not (number o 4 (total - 4) rest == total)) broken (content k o s (take total rest)) broken-bytes
    (content-bytes k o s (take total rest) (front total rest h))))

ordered-bytes : (o : Option Order) (s : Section) (rest : List ℕ) → AreBytes rest → AreBytes (ordered_block o s rest).bytes
ordered-bytes None s rest h = broken-bytes
ordered-bytes (Some o) s rest h = sized-bytes o (kind_of o rest) (number o 4 4 rest) s rest h

block-bytes : (s : Section) (rest : List ℕ) → AreBytes rest → AreBytes (block s rest).bytes
block-bytes s rest h =
    chosen (length rest == 0) ended _ (All-nil IsByte)
    (chosen (nat_lt (length rest) 12) cut (ordered_block (order_by s.order rest) s rest) cut-bytes (ordered-bytes (order_by s.order rest) s rest h))

later-bytes : (later : Section → List ℕ) (next : Option Section) → ((s : Section) → AreBytes (later s)) → AreBytes (option_map_or later next [])
later-bytes later None h = All-nil IsByte
later-bytes later (Some s) h = h s

by-bytes : (most : ℕ) (s : Section) (rest : List ℕ) → AreBytes rest → AreBytes (blocks_by most s rest)
by-bytes zero s rest h = All-nil IsByte
by-bytes (suc most) s rest h =
    let total = total_by (order_by s.order rest) rest in
    both (block s rest).bytes _ (block-bytes s rest h)
    (later-bytes (λ next. blocks_by most next (drop total rest)) (block s rest).next (λ next. by-bytes most next (drop total rest) (behind total rest h)))

blocks-bytes : (s : Section) (rest : List ℕ) → AreBytes rest → AreBytes (blocks s rest)
unfolding blocks
blocks-bytes s rest h = by-bytes (length rest) s rest h

either : (b : Bool) (x y : List ℕ) → AreBytes x → AreBytes y → AreBytes (if b then x else y)
either true x y h k = h
either false x y h k = k

-- the classic text of a file of bytes
pub classic-bytes : (text : List ℕ) → AreBytes text → AreBytes (classic text)
unfolding classic
classic-bytes text h =
    either (begins_section text) (file_head ++ blocks no_section (take (2 ^ 41) text)) text
    (both file_head (blocks no_section (take (2 ^ 41) text)) file-head (blocks-bytes no_section (take (2 ^ 41) text) (front (2 ^ 41) text h))) h

-- those of files of bytes
pub each-bytes : (texts : List (List ℕ)) → All AreBytes texts → All AreBytes (map classic texts)
each-bytes [] h = All-nil AreBytes
each-bytes (t ∷ ts) h = All-cons AreBytes (classic t) (map classic ts) (classic-bytes t (All-head AreBytes t ts h)) (each-bytes ts (All-tail AreBytes t ts h))
