use Rattle.std.proofs.Common.{◌≡◌, ◌+◌, ◌*◌, min, arith}
use Rattle.flow_measure.proofs.Eyed.{group-more, group-whole}
use Rattle.flow_measure.proofs.columns.eye.Eye.turn.Goals as goal

pub invariant_of-self-clause-whole : goal.invariant_of-self-clause-whole
invariant_of-self-clause-whole g c =
    let s = c.args.self.now in
    let all = group-whole s.group s.width s.opened s.width_some (omega (arith, c.if-self-len.true, c.len.ensures, s.columns_are)) in
    group-more s.before s.group s.seen s.group_some s.whole (omega (arith, s.filled, c.requires, all))
