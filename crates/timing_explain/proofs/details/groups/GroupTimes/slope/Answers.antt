use Rattle.std.proofs.Common.{subst}
use Rattle.flow_measure.specs.Groups.{firsts_of, since_at}
use Rattle.flow_measure.specs.Slope.{IsSlope}
use Rattle.timing_explain.proofs.details.groups.GroupTimes.slope.Goals as goal

pub returns : goal.returns
returns c = λ m n stamp h.
    let s = c.args.self.now in
    let numbers = since_at m s.n0 (firsts_of n stamp) in
    subst (λ most. IsSlope most numbers s.firsts.seen c.slope.result) s.firsts_most (c.slope.ensures numbers h.firsts_draw)
