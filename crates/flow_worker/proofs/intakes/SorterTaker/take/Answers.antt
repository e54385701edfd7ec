use Rattle.std.proofs.Common.{◌+◌, refl, sym}
use Rattle.std.proofs.lemmas.Result.{IfOk-weaker}
use Rattle.flow_worker.proofs.Outgoing.{if_err, if_ok}
use Rattle.flow_worker.proofs.Sorting.{leaves-now, room-expecting, room-one, sorts-one}
use Rattle.flow_worker.proofs.intakes.SorterTaker.take.Goals as goal

pub returns-in-Some-clause-room : goal.returns-in-Some-clause-room
returns-in-Some-clause-room g c = λ count.
    let old = c.args.self.now in
    if_ok c.put.result _ _ _
    (λ _ puts room.
    room-one old _ c.lane-lane.result c.in-Some.packet c.args.number count refl (c.take.ensures.expected old.routing.media.now room.is.expected) puts room)
    c.put.ensures

pub returns-in-Some-clause-takes : goal.returns-in-Some-clause-takes
returns-in-Some-clause-takes g c =
    let old = c.args.self.now in
    if_ok c.put.result _ _ _
    (λ _ puts.
    sorts-one old _ c.lane-lane.result c.in-Some.packet _ refl (c.in-Some.ensures.packet old.routing.media.now c.requires.room.is.expected)
    (sym c.lane-lane.ensures.lane) puts)
    c.put.ensures

pub returns-in-Some-clause-stops : goal.returns-in-Some-clause-stops
returns-in-Some-clause-stops g c = if_err c.put.result _ _ _ (λ _ stays. leaves-now c.args.self.now _ _ stays) c.put.ensures

pub returns-clause-room : goal.returns-clause-room
returns-clause-room g c = λ count.
    let old = c.args.self.now in
    IfOk-weaker c.take_other.result _ _
    (λ _ goes room. goes (room-expecting old _ c.args.number (count + 1) refl refl (c.take.ensures.expected old.routing.media.now room.is.expected) room))
    (c.take_other.ensures.room count)
