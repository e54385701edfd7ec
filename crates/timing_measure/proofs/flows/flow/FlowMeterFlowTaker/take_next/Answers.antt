use Rattle.std.proofs.Common.{◌≡◌, true, Ok, ap, rules}
use Rattle.timing_measure.proofs.Meters.{meter-took}
use Rattle.timing_measure.proofs.flows.flow.FlowMeterFlowTaker.take_next.Goals as goal

pub returns-clause-room : goal.returns-clause-room
returns-clause-room g c = λ count _ room.
    let took : c.in_ok-take_next.field-0 ≡ true = search rules in
    c.in_ok-take_next.ensures.room count (ap Ok took) room

pub returns-clause-takes : goal.returns-clause-takes
returns-clause-takes g c = λ _ m r is same.
    let took : c.in_ok-take_next.field-0 ≡ true = search rules in
    meter-took g.M.RunMeter.WANTS_LEVELS g.M.RunMeter.stands g.M.RunMeter.tells m c.args.self.now _ r c.args.packet.now is
    c.source_with-self.ensures (c.in_ok-take_next.ensures.takes (ap Ok took) m r is same)
