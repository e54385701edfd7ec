-- What captures of bytes say of their records: how many they are, their numbers and their stamps.
use Rattle.std.proofs.Common.{◌≡◌, ◌≤◌, ◌<◌, ◌+◌, ◌-◌, ◌*◌, ◌^◌, ℕ, zero, suc, Bool, true, false, List, [], ◌∷◌, length, length-append, drop, Option, Some}
use Rattle.std.proofs.Common.{None, refl, arith, sym, subst}
use Rattle.std.proofs.lemmas.Bool.{ltb-false, ltb-true}
use Rattle.std.proofs.lemmas.List.{length-map}
use Rattle.std.proofs.lemmas.List.Elements.{All-append, All-cons, All-drop, All-head, All-map, All-nil, All-tail, All-take, All-weaker}
use Rattle.std.specs.List.{cons_option}
use Rattle.std.specs.Prelude.{All, Result, Ok, Err, if◌then◌else◌, map, nat_lt, slice_index, ◌==◌}
use Rattle.timing_base.specs.Shifts.{AreFlowOptions, FlowOptions}
use Rattle.timing_base.specs.Captures.{IsStamp, Record, joined_after, raised}
use Rattle.timing_base.specs.Flows.{AreStamped}
use Rattle.timing_base.specs.Grouped.{IsGroupedVerdict}
use Rattle.timing_base.specs.Judged.{judged}
use Rattle.timing_base.specs.Media.{Media}
use Rattle.timing_base.specs.declared.capture.FileNote.{FileNote}
use Rattle.timing_base.specs.declared.capture.FileNote.TheVariants as note
use Rattle.timing_base.specs.declared.capture.PcapFault.{PcapFault}
use Rattle.timing_base.specs.declared.packet.FlowPacket.{FlowPacket}
use Rattle.timing_base.proofs.Grouped.{judged-grouped}
use Rattle.pcap_reader.specs.Header.{header, nanos, number, per_second}
use Rattle.pcap_reader.specs.Records.{AreRecords, Records, RecordsBy, RecordsFrom, captured, fraction, note_at, note_by, record_of, seconds, stamp}
use Rattle.pcap_reader.specs.declared.layout.Fraction.{Fraction}
use Rattle.pcap_reader.specs.declared.layout.Fraction.TheVariants.{Micros, Nanos}
use Rattle.pcap_reader.specs.declared.layout.Layout.{Layout}
use Rattle.pcap_reader.specs.declared.layout.Order.{Order}
use Rattle.pcap_reader.specs.declared.layout.Order.TheVariants.{Big, Little}
use Rattle.udp_rtp.specs.Flow.{datagram_packet, flow, flow_packet}
use Rattle.udp_rtp.specs.Frames.{Datagram, datagram_of}
use Rattle.pcapng_reader.specs.Bytes.{AreBytes}

-- a place of a text has a byte, or reads 0 past the end
pub byte-at : (text : List ℕ) (i : ℕ) → AreBytes text → slice_index text i < 256
byte-at [] i h = omega arith
byte-at (x ∷ xs) zero h = All-head (λ byte. byte < 256) x xs h
byte-at (x ∷ xs) (suc i) h = byte-at xs i (All-tail (λ byte. byte < 256) x xs h)

-- four bytes are a number of 32 bits
number-small : (o : Order) (text : List ℕ) → AreBytes text → number o 4 text < 2 ^ 32
number-small Big text h = omega (arith, byte-at text 0 h, byte-at text 1 h, byte-at text 2 h, byte-at text 3 h)
number-small Little text h = omega (arith, byte-at text 0 h, byte-at text 1 h, byte-at text 2 h, byte-at text 3 h)

-- a record within the limits
pub record IsSmall (most : ℕ) (r : Record) : Type 0 where
  pub number : r.number ≤ most
  pub stamp : IsStamp r.stamp
  pub bytes : AreBytes r.bytes

more-small : (most more : ℕ) (items : List Record) → most ≤ more → All (IsSmall most) items → All (IsSmall more) items
more-small most more items order h =
    All-weaker (IsSmall most) (IsSmall more) (λ r s. record { number = omega (arith, s.number, order); stamp = s.stamp; bytes = s.bytes }) items h

by-tests : (a b c d : Bool) (x y z w : FileNote) → (if a then (if b then Some x else if c then Some y else if d then Some z else None) else Some w) ≡ None
    → (a ≡ true) × (c ≡ false)
by-tests true true c d x y z w e = cc
by-tests true false true d x y z w e = cc
by-tests true false false d x y z w e = (refl, refl)
by-tests false b c d x y z w e = cc

at-tests : (a b : Bool) (x y : FileNote) (o : Option FileNote) → (if a then Some x else if b then Some y else o) ≡ None → o ≡ None
at-tests true b x y o e = cc
at-tests false true x y o e = cc
at-tests false false x y o e = e

-- where a record stands its fraction is below a second, and it ends within the capture
record Stands (l : Layout) (most place : ℕ) (rest : List ℕ) : Type 0 where
  fraction : fraction l rest < per_second l.fraction
  within : place + 16 + captured l rest ≤ most

stands : (l : Layout) (most n place : ℕ) (rest : List ℕ) → note_at l most n place rest ≡ None → Stands l most place rest
stands l most n place rest e =
    let by : note_by l.fraction most n place (length rest) (fraction l rest) (captured l rest) ≡ None =
    at-tests (length rest == 0) (nat_lt (length rest) 16) note.End (note.Cut place) _ e in
    let both = by-tests (nat_lt (fraction l rest) (per_second l.fraction)) _ (nat_lt most (place + 16 + captured l rest)) _ _ _ _ _ by in
    record { fraction = ltb-true _ _ both.0; within = ltb-false _ _ both.1 }

stamp-by : (unit : Fraction) (s f : ℕ) → s < 2 ^ 32 → f < per_second unit → s * 10 ^ 9 + f * nanos unit < 2 ^ 32 * 10 ^ 9
stamp-by Micros s f h k = omega (arith, h, k)
stamp-by Nanos s f h k = omega (arith, h, k)

-- the records of a rest
record AreFrom (n most place : ℕ) (items : List Record) : Type 0 where
  few : 16 * length items ≤ most - place
  each : All (IsSmall (n + length items)) items

from-small : (l : Layout) (most n place : ℕ) (rest : List ℕ) (items : List Record) (end : FileNote) → AreBytes rest → RecordsFrom l most n place rest items end
    → AreFrom n most place items
from-small l most n place rest [] end bytes h = record { few = omega arith; each = All-nil (IsSmall (n + 0)) }
from-small l most n place rest (item ∷ items) end bytes h =
    let later = from-small l most (n + 1) (place + 16 + captured l rest) (drop (16 + captured l rest) rest) items end
    (All-drop (λ byte. byte < 256) (16 + captured l rest) rest bytes) h.2 in
    let here = stands l most n place rest h.0 in
    let at : stamp l rest < 2 ^ 32 * 10 ^ 9 =
    stamp-by l.fraction (seconds l rest) (fraction l rest) (number-small l.order (drop 0 rest) (All-drop (λ byte. byte < 256) 0 rest bytes)) here.fraction in
    let first : IsSmall (n + length (item ∷ items)) (record_of l n rest) = record {
      number = omega arith;
      stamp = at;
      bytes = All-take (λ byte. byte < 256) (captured l rest) (drop 16 rest) (All-drop (λ byte. byte < 256) 16 rest bytes);
    } in
    record {
      few = omega (arith, later.few, here.within);
      each = All-cons (IsSmall (n + length (item ∷ items))) item items (subst (IsSmall (n + length (item ∷ items))) (sym h.1) first)
          (more-small (n + 1 + length items) (n + length (item ∷ items)) items (omega arith) later.each);
    }

-- the records of captures
pub record AreSmall (before most : ℕ) (items : List Record) : Type 0 where
  pub few : length items ≤ most
  pub each : All (IsSmall (before + most)) items

by-small : (h : Result Layout PcapFault) (text : List ℕ) (items : List Record) (end : FileNote) → AreBytes text → RecordsBy h (2 ^ 40) text items end
    → AreSmall 0 (2 ^ 36) items
by-small (Ok l) text items end bytes h =
    let all = from-small l (2 ^ 40) 1 24 (drop 24 text) items end (All-drop (λ byte. byte < 256) 24 text bytes) h in
    record { few = omega (arith, all.few); each = more-small (1 + length items) (0 + 2 ^ 36) items (omega (arith, all.few)) all.each }
by-small (Err fault) text items end bytes h =
    subst (AreSmall 0 (2 ^ 36)) (sym h.0) record { few = omega arith; each = All-nil (IsSmall (0 + 2 ^ 36)) }

-- those of one capture
pub one-small : (text : List ℕ) (items : List Record) (end : FileNote) → AreBytes text → Records text (2 ^ 40) items end → AreSmall 0 (2 ^ 36) items
one-small text items end bytes h = by-small (header text) text items end bytes h

-- those of captures that are joined
pub joined-small : (before : ℕ) (texts : List (List ℕ)) (files : List (List Record)) (notes : List FileNote) → All AreBytes texts → AreRecords texts files notes
    → AreSmall before (2 ^ 36 * length texts) (joined_after before files)
joined-small before [] [] [] bytes h = record { few = omega arith; each = All-nil (IsSmall (before + 2 ^ 36 * 0)) }
joined-small before (t ∷ ts) (f ∷ fs) (n ∷ ns) bytes h =
    let first = one-small t f n (All-head AreBytes t ts bytes) h.0 in
    let others = joined-small (before + length f) ts fs ns (All-tail AreBytes t ts bytes) h.1 in
    let most = before + 2 ^ 36 * length (t ∷ ts) in
    let few : length (map (raised before) f) ≡ length f = length-map f (raised before) in
    record {
      few = omega (arith, length-append (map (raised before) f) (joined_after (before + length f) fs), few, first.few, others.few);
      each = All-append (IsSmall most) (map (raised before) f) (joined_after (before + length f) fs)
          (All-map (IsSmall most) (raised before) f
          (All-weaker (IsSmall (0 + 2 ^ 36)) (λ r. IsSmall most (raised before r))
          (λ r s. record { number = omega (arith, s.number); stamp = s.stamp; bytes = s.bytes }) f first.each))
          (more-small (before + length f + 2 ^ 36 * length ts) most (joined_after (before + length f) fs) (omega (arith, first.few)) others.each);
    }
joined-small before [] [] (n ∷ ns) bytes h = absurd h
joined-small before [] (f ∷ fs) notes bytes h = absurd h
joined-small before (t ∷ ts) [] notes bytes h = absurd h
joined-small before (t ∷ ts) (f ∷ fs) [] bytes h = absurd h

pub cons-all : (P : FlowPacket → Type 0) (o : Option FlowPacket) (ps : List FlowPacket) → ((p : FlowPacket) → o ≡ Some p → P p) → All P ps
    → All P (cons_option o ps)
cons-all P None ps here h = h
cons-all P (Some p) ps here h = All-cons P p ps (here p refl) h

cons-few : (o : Option FlowPacket) (ps : List FlowPacket) → length (cons_option o ps) ≤ length ps + 1
cons-few None ps = omega arith
cons-few (Some p) ps = omega arith

pub if-some : (b : Bool) (p q : FlowPacket) → (if b then Some p else None) ≡ Some q → p ≡ q
if-some true p q e = cc
if-some false p q e = cc

-- a packet has its record's stamp
stamp-of : (m : Media) (number at : ℕ) (o : Option Datagram) (p : FlowPacket) → datagram_packet m number at o ≡ Some p → IsStamp at → IsStamp p.at
stamp-of m number at None p e h = cc
stamp-of m number at (Some d) p e h = subst (λ (q : FlowPacket). IsStamp q.at) (if-some _ _ p e) h

pub flow-stamped : (m : Media) (most : ℕ) (items : List Record) → All (IsSmall most) items → AreStamped (flow items m)
flow-stamped m most [] h = All-nil (λ (p : FlowPacket). IsStamp p.at)
flow-stamped m most (r ∷ rs) h =
    cons-all (λ (p : FlowPacket). IsStamp p.at) (flow_packet m r) (flow rs m)
    (λ p e. stamp-of m r.number r.stamp (datagram_of r.bytes) p e (All-head (IsSmall most) r rs h).stamp)
    (flow-stamped m most rs (All-tail (IsSmall most) r rs h))

pub flow-few : (m : Media) (items : List Record) → length (flow items m) ≤ length items
flow-few m [] = omega arith
flow-few m (r ∷ rs) = omega (arith, cons-few (flow_packet m r) (flow rs m), flow-few m rs)

-- so each flow is judged in whole groups
pub flow-grouped : (m : Media) (options : FlowOptions) (before most : ℕ) (items : List Record) → AreFlowOptions options → most ≤ 2 ^ 40
    → AreSmall before most items
    → IsGroupedVerdict (judged (flow items m) m.pt options)
flow-grouped m options before most items shifts few h =
    judged-grouped (flow items m) m.pt options (omega (arith, flow-few m items, h.few, few)) shifts (flow-stamped m (before + most) items h.each)
