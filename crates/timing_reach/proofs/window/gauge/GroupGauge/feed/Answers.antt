use Rattle.std.proofs.Common.{refl}
use Rattle.timing_reach.proofs.WindowGauges.{metered-marked, metered-plain}
use Rattle.timing_reach.proofs.window.gauge.GroupGauge.feed.Goals as goal

pub returns-then-marker-clause-stands : goal.returns-then-marker-clause-stands
returns-then-marker-clause-stands c = λ m so_far h.
    metered-marked m c.args.self.now _ so_far c.args.at c.args.marker c.if-marker.true refl refl c.feed.ensures.stands h

pub returns-else-marker-clause-stands : goal.returns-else-marker-clause-stands
returns-else-marker-clause-stands c = λ m so_far h.
    metered-plain m c.args.self.now _ so_far c.args.at c.args.marker c.if-marker.false refl refl c.feed.ensures.stands h
