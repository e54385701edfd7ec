use Rattle.std.proofs.Common.{refl, sym, ◌∙◌}
use Rattle.flow_worker.proofs.Outgoing.{if_err, if_ok}
use Rattle.flow_worker.proofs.Sorting.{leaves-now, room-nothing, room-one, sorts-one}
use Rattle.flow_worker.proofs.intakes.Sorter.take_other.Goals as goal

pub returns-clause-room : goal.returns-clause-room
returns-clause-room g c = λ count.
    if_ok c.put.result _ _ _
    (λ _ puts room.
    room-one c.args.self.now _ c.lane-lane.result c.in-Some.packet c.args.number count refl (c.packet.ensures.expected room.is.expected) puts room)
    c.put.ensures

pub returns-clause-takes : goal.returns-clause-takes
returns-clause-takes g c =
    if_ok c.put.result _ _ _
    (λ _ puts.
    sorts-one c.args.self.now _ c.lane-lane.result c.in-Some.packet _ refl (sym c.packet.ensures.packet ∙ c.in-Some.is) (sym c.lane-lane.ensures.lane) puts)
    c.put.ensures

pub returns-clause-stops : goal.returns-clause-stops
returns-clause-stops g c = if_err c.put.result _ _ _ (λ _ stays. leaves-now c.args.self.now _ _ stays) c.put.ensures

pub returns-in_default-clause-room : goal.returns-in_default-clause-room
returns-in_default-clause-room g c = λ count room.
    room-nothing c.args.self.now _ c.args.number count refl refl (c.packet.ensures.expected room.is.expected) room
