use Rattle.fail_interval.proofs.Offers.{feeds-taken}
use Rattle.fail_interval.proofs.metered.MeteredFlowTaker.take.Goals as goal

pub returns-clause-takes : goal.returns-clause-takes
returns-clause-takes g c =
    feeds-taken g.M.RunMeter.WANTS_LEVELS g.M.RunMeter.stands g.M.RunMeter.tells c.feed.result c.args.self.now _ c.args.packet.now _
    c.feed.ensures.takes c.feed.ensures.tells
