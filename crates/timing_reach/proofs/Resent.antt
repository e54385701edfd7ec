-- The capture that is written of a flow, read as records, and the flow of these.
use Rattle.std.proofs.Common.{◌≡◌, ◌≤◌, ◌<◌, ◌+◌, ◌*◌, ◌^◌, ℕ, zero, suc, Bool, true, false, if◌then◌else◌}
use Rattle.std.proofs.Common.{List, [], ◌∷◌, ◌++◌, length, drop, take, refl, arith, ap, ◌∙◌, sym, subst}
use Rattle.std.proofs.Common.{Some, None, Ok, Option, length-append, drop-drop, drop_at, take_at}
use Rattle.std.specs.Prelude.{All, Result, cond, filter_map, ◌/◌, ◌%◌, is_some}
use Rattle.std.proofs.lemmas.Bool.Decides.{nat_tests}
use Rattle.std.proofs.lemmas.List.Elements.{All-cons, All-head, All-nil, All-tail, filter_map-append}
use Rattle.pcap_reader.specs.Header.{header}
use Rattle.pcap_reader.specs.Records.{Records, RecordsBy, RecordsFrom, captured, fraction, note_at, note_by, stamp}
use Rattle.pcap_reader.specs.WrittenHeads.{file_head, record_head}
use Rattle.pcap_reader.specs.declared.layout.Fraction.TheVariants.{Nanos}
use Rattle.pcap_reader.specs.declared.layout.Layout.{Layout}
use Rattle.pcap_reader.specs.declared.layout.Order.TheVariants.{Little}
use Rattle.pcap_reader.proofs.Reading.{record_is}
use Rattle.pcap_reader.proofs.Runs.{from-same}
use Rattle.pcap_reader.proofs.Texts.{note_at-append, note_at-none}
use Rattle.timing_base.specs.Captures.{IsStamp, Record}
use Rattle.timing_base.specs.Media.{Media}
use Rattle.timing_base.specs.Targets.{target_of}
use Rattle.timing_base.specs.declared.capture.FileNote.TheVariants.{End}
use Rattle.timing_base.specs.declared.packet.FlowPacket.{FlowPacket}
use Rattle.udp_rtp.specs.Flow.{datagram_packet, flow, flow_packet, is_same_target}
use Rattle.udp_rtp.specs.Frames.{Datagram, datagram_of}
use Rattle.udp_rtp.specs.Reading.{reading}
use Rattle.timing_base.specs.declared.packet.PacketFault.{PacketFault}
use Rattle.timing_base.specs.declared.packet.Rtp.{Rtp}
use Rattle.timing_base.specs.Flows.{packet}
use Rattle.timing_reach.specs.Shapes.{flow_records, records_text}
use Rattle.timing_reach.specs.ShapedAgain.{CanBeHeld}

-- the layout of what is written
written : Layout
written = record { order = Little; fraction = Nanos }

-- four bytes of a number, read as one
abbrev pub four : ℕ → ℕ
four x = x % 256 + 256 * (x / 256 ^ 1 % 256 + 256 * (x / 256 ^ 2 % 256 + 256 * (x / 256 ^ 3 % 256 + 256 * 0)))

pub four-bytes : (x : ℕ) → x < 2 ^ 32 → four x ≡ x
four-bytes x few = omega (arith, few)

written-captured : (s n : ℕ) (rest : List ℕ) → n < 2 ^ 32 → captured written (record_head s n ++ rest) ≡ n
unfolding written
written-captured s n rest few = four-bytes n few

written-fraction : (s n : ℕ) (rest : List ℕ) → fraction written (record_head s n ++ rest) ≡ s % 1000000000
unfolding written
written-fraction s n rest = four-bytes (s % 1000000000) (omega arith)

written-stamp : (s n : ℕ) (rest : List ℕ) → IsStamp s → stamp written (record_head s n ++ rest) ≡ s
unfolding written
written-stamp s n rest few =
    let high : four (s / 1000000000) ≡ s / 1000000000 = four-bytes (s / 1000000000) (omega (arith, few)) in
    let low : four (s % 1000000000) ≡ s % 1000000000 = four-bytes (s % 1000000000) (omega arith) in
    ap (λ x. x * 10 ^ 9 + four (s % 1000000000) * 1) high
    ∙ ap (λ x. s / 1000000000 * 10 ^ 9 + x * 1) low ∙ omega arith

-- a record stands where its length and the capture's serve
note-none : (most number place long f c : ℕ) → f < 10 ^ 9 → c ≤ 262144 → place + 16 + c ≤ most → 16 + c ≤ long
    → note_by Nanos most number place long f c ≡ None
note-none most number place long f c a b d e = grind (arith, nat_tests)

written-note : (most number place s n : ℕ) (rest : List ℕ) → n ≤ 262144 → n ≤ length rest → place + 16 + n ≤ most
    → note_at written most number place (record_head s n ++ rest) ≡ None
unfolding written
written-note most number place s n rest short whole room =
    note_at-append written most number place (record_head s n) rest (omega arith)
    ∙ ap (λ f. note_by Nanos most number place (length (record_head s n ++ rest)) f (captured written (record_head s n)))
    (four-bytes (s % 1000000000) (omega arith))
    ∙ ap (note_by Nanos most number place (length (record_head s n ++ rest)) (s % 1000000000)) (four-bytes n (omega (arith, short)))
    ∙ note-none most number place (length (record_head s n ++ rest)) (s % 1000000000) n (omega arith) short room (omega (arith, whole))

-- the records of packets that leave so, the first of them packet k
abbrev pub sent : (leaves : ℕ → ℕ → ℕ) → (k : ℕ) → List Record → List Record
sent leaves k [] = []
sent leaves k (r ∷ rs) = record { number = k + 1; stamp = leaves k r.stamp; bytes = r.bytes } ∷ sent leaves (k + 1) rs

-- each of them has a stamp, and bytes, that a capture can hold
abbrev pub CanLeave : (leaves : ℕ → ℕ → ℕ) → (k : ℕ) → List Record → Type 0
CanLeave leaves k [] = Unit {0}
CanLeave leaves k (r ∷ rs) = IsStamp (leaves k r.stamp) × (length r.bytes ≤ 262144) × CanLeave leaves (k + 1) rs

drop-sixteen : (n : ℕ) (xs : List ℕ) → drop (16 + n) xs ≡ drop n (drop 16 xs)
drop-sixteen n xs = sym (drop-drop n 16 xs)

-- what is written is read back
text-read : (leaves : ℕ → ℕ → ℕ) (most k place : ℕ) (rs : List Record) → CanLeave leaves k rs → place + length (records_text leaves k rs) ≤ most
    → RecordsFrom written most (k + 1) place (records_text leaves k rs) (sent leaves k rs) End
text-read leaves most k place [] can room = note_at-none written most (k + 1) place [] refl
text-read leaves most k place (r ∷ rs) can room =
    let s = leaves k r.stamp in
    let n = length r.bytes in
    let more = records_text leaves (k + 1) rs in
    let rest = r.bytes ++ more in
    let long : length rest ≡ n + length more = length-append r.bytes more in
    let cap : captured written (record_head s n ++ rest) ≡ n = written-captured s n rest (omega (arith, can.1)) in
    let behind : drop (16 + captured written (record_head s n ++ rest)) (record_head s n ++ rest) ≡ more =
    ap (λ c. drop (16 + c) (record_head s n ++ rest)) cap ∙ drop-sixteen n (record_head s n ++ rest) ∙ drop_at r.bytes more n refl in (
      written-note most (k + 1) place s n rest can.1 (omega (arith, long)) (omega (arith, room, long)),
      record_is (k + 1) (k + 1) s (stamp written (record_head s n ++ rest)) r.bytes (take (captured written (record_head s n ++ rest)) rest) refl
          (sym (written-stamp s n rest can.0))
          (sym (ap (λ c. take c rest) cap ∙ take_at r.bytes more n refl)),
      from-same written most (k + 1 + 1) (k + 1 + 1) (place + 16 + n) (place + 16 + captured written (record_head s n ++ rest)) more
          (drop (16 + captured written (record_head s n ++ rest)) (record_head s n ++ rest)) (sent leaves (k + 1) rs) End refl
          (sym (ap (λ c. place + 16 + c) cap)) (sym behind)
          (text-read leaves most (k + 1) (place + 16 + n) rs can.2 (omega (arith, room, long))),
    )

head-read : (rest : List ℕ) → header (file_head ++ rest) ≡ Ok written
unfolding written
head-read rest = grind (arith, nat_tests)

pub capture-read : (leaves : ℕ → ℕ → ℕ) (most : ℕ) (rs : List Record) → CanLeave leaves 0 rs → length (file_head ++ records_text leaves 0 rs) ≤ most
    → Records (file_head ++ records_text leaves 0 rs) most (sent leaves 0 rs) End
capture-read leaves most rs can room =
    let text = records_text leaves 0 rs in
    subst (λ h. RecordsBy h most (file_head ++ text) (sent leaves 0 rs) End) (sym (head-read text))
    (text-read leaves most 0 24 rs can (omega (arith, room)))

-- packets that leave so, the first of them packet k
abbrev pub moved : (leaves : ℕ → ℕ → ℕ) → (k : ℕ) → List FlowPacket → List FlowPacket
moved leaves k [] = []
moved leaves k (p ∷ ps) = record { rec = k + 1; at = leaves k p.at; rtp = p.rtp } ∷ moved leaves (k + 1) ps

-- the flow with a record more before it
flow-none : (m : Media) (x : Record) (xs : List Record) → flow_packet m x ≡ None → flow (x ∷ xs) m ≡ flow xs m
flow-none m x xs none =
    filter_map-append (flow_packet m) (x ∷ []) xs ∙ ap (λ (o : Option FlowPacket). filter_map (λ (r : Record). o) (x ∷ []) ++ flow xs m) none

flow-some : (m : Media) (x : Record) (xs : List Record) (p : FlowPacket) → flow_packet m x ≡ Some p → flow (x ∷ xs) m ≡ p ∷ flow xs m
flow-some m x xs p some =
    filter_map-append (flow_packet m) (x ∷ []) xs ∙ ap (λ (o : Option FlowPacket). filter_map (λ (r : Record). o) (x ∷ []) ++ flow xs m) some

-- a record that isn't of the flow
passed-over : (m : Media) (leaves : ℕ → ℕ → ℕ) (k : ℕ) (x : Record) (xs : List Record) → flow_packet m x ≡ None
    → flow (sent leaves k (flow_records m xs)) m ≡ moved leaves k (flow xs m)
    → flow (sent leaves k (flow_records m (x ∷ xs))) m ≡ moved leaves k (flow (x ∷ xs) m)
passed-over m leaves k x xs none rest =
    let records = flow_records m xs in
    ap (λ (o : Option FlowPacket). flow (sent leaves k (cond (is_some o) (x ∷ records) records)) m) none ∙ rest
    ∙ sym (ap (moved leaves k) (flow-none m x xs none))

-- one that is
passed-on : (m : Media) (leaves : ℕ → ℕ → ℕ) (k : ℕ) (x : Record) (xs : List Record) (rtp : Result Rtp PacketFault)
    → flow_packet m x ≡ Some (record { rec = x.number; at = x.stamp; rtp = rtp })
    → datagram_packet m (k + 1) (leaves k x.stamp) (datagram_of x.bytes) ≡ Some (record { rec = k + 1; at = leaves k x.stamp; rtp = rtp })
    → flow (sent leaves (k + 1) (flow_records m xs)) m ≡ moved leaves (k + 1) (flow xs m)
    → flow (sent leaves k (flow_records m (x ∷ xs))) m ≡ moved leaves k (flow (x ∷ xs) m)
passed-on m leaves k x xs rtp some again rest =
    let records = flow_records m xs in
    let p : FlowPacket = record { rec = k + 1; at = leaves k x.stamp; rtp = rtp } in
    let y : Record = record { number = k + 1; stamp = leaves k x.stamp; bytes = x.bytes } in
    ap (λ (o : Option FlowPacket). flow (sent leaves k (cond (is_some o) (x ∷ records) records)) m) some
    ∙ flow-some m y (sent leaves (k + 1) records) p again ∙ ap (λ (l : List FlowPacket). p ∷ l) rest
    ∙ sym (ap (moved leaves k) (flow-some m x xs _ some))

by-target : (m : Media) (leaves : ℕ → ℕ → ℕ) (k : ℕ) (x : Record) (xs : List Record) (d : Datagram) (b : Bool) → datagram_of x.bytes ≡ Some d
    → is_same_target d.target (target_of m) ≡ b → ((j : ℕ) → flow (sent leaves j (flow_records m xs)) m ≡ moved leaves j (flow xs m))
    → flow (sent leaves k (flow_records m (x ∷ xs))) m ≡ moved leaves k (flow (x ∷ xs) m)
by-target m leaves k x xs d false is target rest =
    passed-over m leaves k x xs
    (ap (datagram_packet m x.number x.stamp) is
    ∙ ap (λ (b : Bool). if b then Some (record { rec = x.number; at = x.stamp; rtp = reading d.payload }) else None) target)
    (rest k)
by-target m leaves k x xs d true is target rest =
    passed-on m leaves k x xs (reading d.payload)
    (ap (datagram_packet m x.number x.stamp) is
    ∙ ap (λ (b : Bool). if b then Some (record { rec = x.number; at = x.stamp; rtp = reading d.payload }) else None) target)
    (ap (datagram_packet m (k + 1) (leaves k x.stamp)) is
    ∙ ap (λ (b : Bool). if b then Some (record { rec = k + 1; at = leaves k x.stamp; rtp = reading d.payload }) else None) target)
    (rest (k + 1))

by-datagram : (m : Media) (leaves : ℕ → ℕ → ℕ) (k : ℕ) (x : Record) (xs : List Record) (o : Option Datagram) → datagram_of x.bytes ≡ o
    → ((j : ℕ) → flow (sent leaves j (flow_records m xs)) m ≡ moved leaves j (flow xs m))
    → flow (sent leaves k (flow_records m (x ∷ xs))) m ≡ moved leaves k (flow (x ∷ xs) m)
by-datagram m leaves k x xs None is rest = passed-over m leaves k x xs (ap (datagram_packet m x.number x.stamp) is) (rest k)
by-datagram m leaves k x xs (Some d) is rest = by-target m leaves k x xs d (is_same_target d.target (target_of m)) is refl rest

-- the flow of what is sent is that of what came, each packet as it leaves
pub flow-sent : (m : Media) (leaves : ℕ → ℕ → ℕ) (k : ℕ) (items : List Record) → flow (sent leaves k (flow_records m items)) m ≡ moved leaves k (flow items m)
flow-sent m leaves k [] = refl
flow-sent m leaves k (x ∷ xs) = by-datagram m leaves k x xs (datagram_of x.bytes) refl (λ j. flow-sent m leaves j xs)

-- so many packets, each with its reading
pub length-moved : (leaves : ℕ → ℕ → ℕ) (k : ℕ) (ps : List FlowPacket) → length (moved leaves k ps) ≡ length ps
length-moved leaves k [] = refl
length-moved leaves k (p ∷ ps) = ap suc (length-moved leaves (k + 1) ps)

pub reads-moved : (leaves : ℕ → ℕ → ℕ) (k : ℕ) (ps : List FlowPacket) (i : ℕ) → (packet (moved leaves k ps) i).rtp ≡ (packet ps i).rtp
reads-moved leaves k [] i = refl
reads-moved leaves k (p ∷ ps) zero = refl
reads-moved leaves k (p ∷ ps) (suc i) = reads-moved leaves (k + 1) ps i

stamp-moved : (leaves : ℕ → ℕ → ℕ) (k : ℕ) (ps : List FlowPacket) (i : ℕ) → i < length ps
    → (packet (moved leaves k ps) i).at ≡ leaves (k + i) (packet ps i).at
stamp-moved leaves k [] i h = absurd (omega (arith, h))
stamp-moved leaves k (p ∷ ps) zero h = ap (λ j. leaves j p.at) (omega arith)
stamp-moved leaves k (p ∷ ps) (suc i) h =
    stamp-moved leaves (k + 1) ps i (omega (arith, h)) ∙ ap (λ j. leaves j (packet ps i).at) (omega arith)

pub stamp-sent : (leaves : ℕ → ℕ → ℕ) (ps : List FlowPacket) (i : ℕ) → i < length ps → (packet (moved leaves 0 ps) i).at ≡ leaves i (packet ps i).at
stamp-sent leaves ps i h = stamp-moved leaves 0 ps i h ∙ ap (λ j. leaves j (packet ps i).at) (omega arith)

-- records that can be held can leave
pub can-leave : (leaves : ℕ → ℕ → ℕ) (k : ℕ) (rs : List Record) → ((j stamp : ℕ) → IsStamp stamp → IsStamp (leaves j stamp)) → All CanBeHeld rs
    → CanLeave leaves k rs
can-leave leaves k [] early held = tt
can-leave leaves k (r ∷ rs) early held =
    let first = All-head CanBeHeld r rs held in
    (early k r.stamp first.stamp, first.short, can-leave leaves (k + 1) rs early (All-tail CanBeHeld r rs held))

-- the records of a flow are among those of its capture
kept-held : (b : Bool) (r : Record) (rs : List Record) → CanBeHeld r → All CanBeHeld rs → All CanBeHeld (cond b (r ∷ rs) rs)
kept-held true r rs h all = All-cons CanBeHeld r rs h all
kept-held false r rs h all = all

pub flow-held : (m : Media) (items : List Record) → All CanBeHeld items → All CanBeHeld (flow_records m items)
flow-held m [] held = All-nil CanBeHeld
flow-held m (x ∷ xs) held =
    kept-held (is_some (flow_packet m x)) x (flow_records m xs) (All-head CanBeHeld x xs held) (flow-held m xs (All-tail CanBeHeld x xs held))
