use Rattle.std.proofs.Common.{arith, refl}
use Rattle.fail_interval.proofs.Offers.{feeds-expected}
use Rattle.fail_interval.proofs.metered.MeteredFlowTaker.take_next.Goals as goal

pub returns-clause-takes : goal.returns-clause-takes
returns-clause-takes g c = λ took m r is _.
    feeds-expected g.M.RunMeter.WANTS_LEVELS g.M.RunMeter.stands g.M.RunMeter.tells c.args.self.now _ c.args.packet.now m r
    (c.feed_judged.ensures.took took) (c.feed_judged.ensures.tells took) refl c.requires.expected is

pub returns-clause-room : goal.returns-clause-room
returns-clause-room g c = λ count took room. omega (arith, (c.feed_judged.ensures.took took).fed, room)
