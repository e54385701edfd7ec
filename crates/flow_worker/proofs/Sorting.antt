-- One record, as an intake takes it.
use Rattle.std.proofs.Common.{◌≡◌, ◌<◌, ◌≤◌, ◌+◌, ℕ, List, [], ◌∷◌, ◌++◌, length, refl, sym, ap, ◌∙◌, subst, append-nil, arith}
use Rattle.std.specs.Prelude.{Option, Some, None}
use Rattle.std.specs.List.{cons_option}
use Rattle.timing_base.specs.Captures.{Record}
use Rattle.ruled_intake.specs.Packets.{Packet}
use Rattle.flow_worker.specs.Expecting.{AreExpected}
use Rattle.flow_worker.specs.Opening.{for_lane, full_batches, packet_from}
use Rattle.flow_worker.specs.Sending.{AreCut, AreOutboxes, AreSame, Cuts, HaveAllFew, HaveFew, IsRouting, Puts, Stays, route_of}
use Rattle.flow_worker.specs.Sorting.{HasRoom, LeavesOff, Sorts}
use Rattle.flow_worker.specs.declared.intakes.Sorter.{Sorter}
use Rattle.flow_worker.specs.declared.outboxes.Outboxes.{Outboxes}
use Rattle.flow_worker.specs.declared.routing.Routing.{Routing}
use Rattle.flow_worker.proofs.Outgoing.{puts-cut, puts-few}

-- few are fewer than many
pub few-within : (few many : ℕ) (o : Outboxes) (w : ℕ) → few ≤ many → HaveFew few o w → HaveFew many o w
few-within few many o w less h = record { messages = omega (arith, less, h.messages); all_packets = omega (arith, less, h.all_packets) }

-- a record without a packet of a media of the session
pub sorts-nothing : {R : Type 0} (old new : Sorter R) (item : Record) → new.routing ≡ old.routing → new.outboxes ≡ old.outboxes
    → packet_from 0 old.routing.media.now item ≡ None → Sorts old new (item ∷ [])
sorts-nothing old new item routing outboxes is = record {
  routing = routing;
  same = λ are. subst (AreSame old.outboxes) (sym outboxes) record { are = are; file = refl; lanes = refl };
  cuts =
      subst (λ (o : Option Packet). Cuts (route_of old.routing) old.outboxes new.outboxes (cons_option o [])) (sym is)
      (λ ps cut.
      subst (AreCut (route_of old.routing) (ps ++ [])) (sym outboxes)
      (subst (λ (l : List Packet). AreCut (route_of old.routing) l old.outboxes) (sym (append-nil ps)) cut));
}

-- a record with a packet of one
pub sorts-one : {R : Type 0} (old new : Sorter R) (lane : ℕ) (packet : Packet) (item : Record) → new.routing ≡ old.routing
    → packet_from 0 old.routing.media.now item ≡ Some packet → route_of old.routing packet ≡ lane
    → Puts old.outboxes new.outboxes lane packet → Sorts old new (item ∷ [])
sorts-one old new lane packet item routing is dealt puts = record {
  routing = routing;
  same = λ are. puts.same;
  cuts =
      subst (λ (o : Option Packet). Cuts (route_of old.routing) old.outboxes new.outboxes (cons_option o [])) (sym is)
      (puts-cut old.outboxes new.outboxes (route_of old.routing) lane packet dealt puts);
}

-- memory ran out at it
pub leaves-now : {R : Type 0} (old new : Sorter R) (item : Record) → Stays old.outboxes new.outboxes → LeavesOff old new (item ∷ [])
leaves-now old new item stays = record {
  same = λ are. stays.same;
  before = [];
  later = item ∷ [];
  whole = refl;
  full = λ ps cut w below.
      let within : w < length old.outboxes.lanes.now = omega (arith, below, ap length stays.same.lanes) in
      let lane = route_of old.routing in
      let was = cut w within in
      stays.sent w ∙ was.full
      ∙ ap (λ (f : ℕ). for_lane w (full_batches 256 f lane [] ps)) (sym stays.same.file)
      ∙ ap (λ (l : List Packet). for_lane w (full_batches 256 new.outboxes.file lane [] l)) (sym (append-nil ps));
}

-- room, whatever is expected of the media
pub room-expecting : {R : Type 0} (old new : Sorter R) (number count : ℕ) → new.routing ≡ old.routing → new.outboxes ≡ old.outboxes
    → AreExpected old.routing.media.now new.upcoming → HasRoom number count old → HasRoom number count new
room-expecting old new number count routing outboxes expected h = record {
  is = record {
    routing = subst IsRouting (sym routing) h.is.routing;
    expected = subst (λ (r : Routing). AreExpected r.media.now new.upcoming) (sym routing) expected;
    lanes = ap (λ (r : Routing). r.lanes) routing ∙ h.is.lanes ∙ ap (λ (o : Outboxes). length o.lanes.now) (sym outboxes);
    are = subst AreOutboxes (sym outboxes) h.is.are;
  };
  before = h.before;
  number_is = h.number_is;
  limit = h.limit;
  few = subst (HaveAllFew h.before) (sym outboxes) h.few;
}

-- room for the records behind it
pub room-nothing : {R : Type 0} (old new : Sorter R) (number count : ℕ) → new.routing ≡ old.routing → new.outboxes ≡ old.outboxes
    → AreExpected old.routing.media.now new.upcoming → HasRoom number (count + 1) old → HasRoom (number + 1) count new
room-nothing old new number count routing outboxes expected h =
    let room = room-expecting old new number (count + 1) routing outboxes expected h in
    record {
      is = room.is;
      before = room.before + 1;
      number_is = omega (arith, room.number_is);
      limit = omega (arith, room.limit);
      few = λ w below. few-within room.before (room.before + 1) new.outboxes w (omega arith) (room.few w below);
    }

pub room-one : {R : Type 0} (old new : Sorter R) (lane : ℕ) (packet : Packet) (number count : ℕ) → new.routing ≡ old.routing
    → AreExpected old.routing.media.now new.upcoming
    → Puts old.outboxes new.outboxes lane packet → HasRoom number (count + 1) old → HasRoom (number + 1) count new
room-one old new lane packet number count routing expected puts h = record {
  is = record {
    routing = subst IsRouting (sym routing) h.is.routing;
    expected = subst (λ (r : Routing). AreExpected r.media.now new.upcoming) (sym routing) expected;
    lanes = ap (λ (r : Routing). r.lanes) routing ∙ h.is.lanes ∙ ap length (sym puts.same.lanes);
    are = puts.same.are;
  };
  before = h.before + 1;
  number_is = omega (arith, h.number_is);
  limit = omega (arith, h.limit);
  few = puts-few old.outboxes new.outboxes lane packet h.before puts h.few;
}
