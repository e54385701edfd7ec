use Rattle.std.proofs.Common.{refl}
use Rattle.timing_reach.proofs.Leavings.{one-leaves}
use Rattle.timing_reach.proofs.shape.leaver.Leaver.leave.Goals as goal

pub returns-clause-leaves : goal.returns-clause-leaves
returns-clause-leaves c = λ w stamps departures h.
    one-leaves w c.args.self.now _ stamps departures c.args.at c.stamp.result c.feed.result c.stamp.ensures.is refl refl c.feed.ensures.kind
    c.feed.ensures.origin c.feed.ensures.end c.feed.ensures.bound c.feed.ensures.stands c.feed.ensures.late h
