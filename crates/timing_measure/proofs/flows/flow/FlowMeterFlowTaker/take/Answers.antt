use Rattle.timing_measure.proofs.Meters.{meter-takes}
use Rattle.timing_measure.proofs.flows.flow.FlowMeterFlowTaker.take.Goals as goal

pub returns-clause-takes : goal.returns-clause-takes
returns-clause-takes g c =
    meter-takes g.M.RunMeter.WANTS_LEVELS g.M.RunMeter.stands g.M.RunMeter.tells c.take.result c.args.self.now _ c.args.packet.now _
    c.source_with-self.ensures c.take.ensures.takes
