use Rattle.std.proofs.Common.{subst}
use Rattle.timing_reach.specs.window.Gauging.{HasPushed}
use Rattle.timing_reach.proofs.WindowGauges.{comes-whole}
use Rattle.timing_reach.proofs.window.gauge.Part.feed.Goals as goal

pub returns-then-last-clause-comes : goal.returns-then-last-clause-comes
returns-then-last-clause-comes c = λ so_far h.
    comes-whole c.args.media.now c.args.self.now c.in-First.group c.push.new.self c.first.result so_far c.args.at c.args.last c.in-First.is c.if-last.true
    (subst (HasPushed c.args.at c.in-First.group.stamps.items c.push.new.self.stamps.items) c.if-not-branch.false c.in_ok-push-in-First.ensures)
    c.first.ensures.stands h
