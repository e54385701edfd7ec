use Rattle.std.proofs.Common.{refl}
use Rattle.timing_reach.proofs.Takings.{if-ok}
use Rattle.timing_reach.proofs.WindowGauges.{passes-on}
use Rattle.timing_reach.proofs.window.gauge.Gauge.pass.Goals as goal

pub returns-clause-passes : goal.returns-clause-passes
returns-clause-passes c =
    if-ok c.feed.result
    (λ x comes. passes-on c.args.self.now _ c.args.packet.now _ c.is_last_of_group.result c.stamp-at.ensures.is c.is_last_of_group.ensures refl refl comes)
    c.feed.ensures.comes
