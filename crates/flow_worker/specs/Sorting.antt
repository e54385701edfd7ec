-- The work of an intake on the packet records of its file, one after the other. Packet records count from 1, lanes from
-- 0.
use Rattle.std.specs.Prelude.{◌≡◌, ◌≤◌, ◌<◌, ◌+◌, ◌^◌, ℕ, List, [], ◌++◌, length}
use Rattle.std.proofs.Common.{refl, sym, ap, ◌∙◌, subst, append-nil, append_assoc, arith}
use Rattle.std.proofs.lemmas.List.Elements.{filter_map-append}
use Rattle.timing_base.specs.Captures.{Record}
use Rattle.timing_base.specs.Media.{Media}
use Rattle.ruled_intake.specs.Packets.{Packet}
use Rattle.flow_worker.specs.Expecting.{AreExpected}
use Rattle.flow_worker.specs.Opening.{for_lane, full_batches, packet_from, session_packets}
use Rattle.flow_worker.specs.Sending.{AreCut, AreOutboxes, AreSame, Cuts, HaveAllFew, IsRouting, route_of, sent_to}
use Rattle.flow_worker.specs.declared.intakes.Sorter.{Sorter}
use Rattle.flow_worker.specs.declared.routing.Routing.{Routing}

-- the routing is within its limits, the expected packets are of its media, and there are outboxes for its lanes
pub record IsSorter {R : Type 0} (s : Sorter R) : Type 0 where
  pub routing : IsRouting s.routing
  pub expected : AreExpected s.routing.media.now s.upcoming
  pub lanes : s.routing.lanes ≡ length s.outboxes.lanes.now
  pub are : AreOutboxes s.outboxes

-- the intake has room for `count` more records, the first of which has this number
pub record HasRoom {R : Type 0} (number count : ℕ) (s : Sorter R) : Type 0 where
  pub is : IsSorter s
  pub before : ℕ
  pub number_is : number ≡ before + 1
  pub limit : before + count ≤ 2 ^ 36
  pub few : HaveAllFew before s.outboxes

-- room for many records is room for fewer
pub room_less : {R : Type 0} (number few many : ℕ) (s : Sorter R) → few ≤ many → HasRoom number many s
    → HasRoom number few s
room_less number few many s less room = record {
  is = room.is;
  before = room.before;
  number_is = room.number_is;
  limit = omega (arith, less, room.limit);
  few = room.few;
}

-- the packets of these records were put into their batches, and full ones were sent
pub record Sorts {R : Type 0} (old new : Sorter R) (items : List Record) : Type 0 where
  pub routing : new.routing ≡ old.routing
  pub same : AreOutboxes old.outboxes → AreSame old.outboxes new.outboxes
  pub cuts : Cuts (route_of old.routing) old.outboxes new.outboxes (session_packets old.routing.media.now items)

-- memory ran out at one of these records: the full batches of those before it were sent
pub record LeavesOff {R : Type 0} (old new : Sorter R) (items : List Record) : Type 0 where
  pub same : AreOutboxes old.outboxes → AreSame old.outboxes new.outboxes
  pub before : List Record
  pub later : List Record
  pub whole : items ≡ before ++ later
  pub full : (ps : List Packet) → AreCut (route_of old.routing) ps old.outboxes → (w : ℕ) → w
      < length new.outboxes.lanes.now
      → sent_to new.outboxes w ≡ for_lane w
      (full_batches 256 new.outboxes.file (route_of old.routing) []
      (ps ++ session_packets old.routing.media.now before))

-- packets, then those of some records, and then those of others
packets-append : (media : List Media) (ps : List Packet) (xs ys : List Record)
    → (ps ++ session_packets media xs) ++ session_packets media ys ≡ ps ++ session_packets media (xs ++ ys)
packets-append media ps xs ys =
    append_assoc ps (session_packets media xs) (session_packets media ys)
    ∙ ap (λ (l : List Packet). ps ++ l) (sym (filter_map-append (packet_from 0 media) xs ys))

-- an empty list of records changes nothing
pub sorts_none : {R : Type 0} (s : Sorter R) → Sorts s s []
sorts_none s = record {
  routing = refl;
  same = λ are. record { are = are; file = refl; lanes = refl };
  cuts = λ ps cut. subst (λ (l : List Packet). AreCut (route_of s.routing) l s.outboxes) (sym (append-nil ps)) cut;
}

-- records that are taken in two parts are taken as all of them are
pub sorts_more : {R : Type 0} (old mid new : Sorter R) (xs ys : List Record) → Sorts old mid xs → Sorts mid new ys
    → Sorts old new (xs ++ ys)
sorts_more old mid new xs ys first second =
    let cuts : Cuts (route_of old.routing) mid.outboxes new.outboxes (session_packets old.routing.media.now ys) =
    subst (λ (r : Routing). Cuts (route_of r) mid.outboxes new.outboxes (session_packets r.media.now ys)) first.routing
    second.cuts in
    record {
      routing = second.routing ∙ first.routing;
      same = λ are.
          let a = first.same are in
          let b = second.same a.are in
          record { are = b.are; file = b.file ∙ a.file; lanes = b.lanes ∙ a.lanes };
      cuts = λ ps cut.
          subst (λ (l : List Packet). AreCut (route_of old.routing) l new.outboxes)
          (packets-append old.routing.media.now ps xs ys)
          (cuts (ps ++ session_packets old.routing.media.now xs) (first.cuts ps cut));
    }

-- some records are taken, and memory runs out at one of the others
pub leaves_later : {R : Type 0} (old mid new : Sorter R) (xs ys : List Record) → Sorts old mid xs → LeavesOff mid new ys
    → LeavesOff old new (xs ++ ys)
leaves_later old mid new xs ys first second =
    let left : Routing → Type 0 = λ r. (ps : List Packet) → AreCut (route_of r) ps mid.outboxes → (w : ℕ) → w
    < length new.outboxes.lanes.now
    → sent_to new.outboxes w
    ≡ for_lane w (full_batches 256 new.outboxes.file (route_of r) []
    (ps ++ session_packets r.media.now second.before)) in
    let full = subst left first.routing second.full in
    record {
      same = λ are.
          let a = first.same are in
          let b = second.same a.are in
          record { are = b.are; file = b.file ∙ a.file; lanes = b.lanes ∙ a.lanes };
      before = xs ++ second.before;
      later = second.later;
      whole = ap (λ (l : List Record). xs ++ l) second.whole ∙ sym (append_assoc xs second.before second.later);
      full = λ ps cut w below.
          full (ps ++ session_packets old.routing.media.now xs) (first.cuts ps cut) w below
          ∙ ap (λ (l : List Packet). for_lane w (full_batches 256 new.outboxes.file (route_of old.routing) [] l))
          (packets-append old.routing.media.now ps xs second.before);
    }

-- records after the one at which memory ran out don't matter
pub leaves_before : {R : Type 0} (old new : Sorter R) (xs ys : List Record) → LeavesOff old new xs
    → LeavesOff old new (xs ++ ys)
leaves_before old new xs ys h = record {
  same = h.same;
  before = h.before;
  later = h.later ++ ys;
  whole = ap (λ (l : List Record). l ++ ys) h.whole ∙ append_assoc h.before h.later ys;
  full = h.full;
}
