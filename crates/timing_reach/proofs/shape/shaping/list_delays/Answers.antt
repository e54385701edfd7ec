use Rattle.std.proofs.Common.{rules, arith, refl, subst, ◌<◌, ◌≡◌, length, nat_lt, slice_index_or}
use Rattle.timing_reach.specs.shape.Shaping.{HasListed, in_tai}
use Rattle.timing_reach.proofs.Shapings.{at-most-one, listed-next, lists-all, lists-late}
use Rattle.timing_reach.proofs.Takings.{if-ok}
use Rattle.timing_reach.proofs.shape.shaping.list_delays.Goals as goal

pub returns-in-Err-clause-lists : goal.returns-in-Err-clause-lists
returns-in-Err-clause-lists c =
    let i = c.loop-packet.packet in
    let stamps = c.args.stamps.now in
    let within : i < length stamps = search rules in
    if-ok c.not_shaped.result
    (λ answer is w given fit. lists-late w c.loop-packet.leaver c.leave.new.self c.loop-packet.delays stamps i (slice_index_or stamps i 0) c.in-Err.late answer
    within refl is c.in-Err.ensures.leaves fit (c.loop-packet.invariant.listed w given fit))
    c.not_shaped.ensures

pub loop-packet-preserved : goal.loop-packet-preserved
loop-packet-preserved c =
    let i = c.loop-packet.packet in
    let stamps = c.args.stamps.now in
    let within : i < length stamps = search rules in
    record {
      left = omega (arith, c.leave.ensures.count, c.loop-packet.invariant.left);
      delayed = omega (arith, c.add.ensures.delayed, c.loop-packet.invariant.delayed, at-most-one (nat_lt 0 c.delay-delay.result));
      listed = λ w given fit.
          listed-next w c.loop-packet.leaver c.leave.new.self c.loop-packet.delays c.add.new.self stamps i (slice_index_or stamps i 0)
          c.delay-delay.result c.in-Ok.departure within refl c.leave.ensures.shift c.delay-delay.ensures c.in-Ok.ensures.leaves
          c.in_ok-add-in-Ok.ensures.lines c.add.ensures.delayed c.add.ensures.greatest fit (c.loop-packet.invariant.listed w given fit);
    }

pub returns-clause-lists : goal.returns-clause-lists
returns-clause-lists c =
    let stamps = c.args.stamps.now in
    let end : c.loop-packet.packet ≡ length stamps = search rules in
    if-ok c.finish.result
    (λ answer is w given fit. lists-all w c.loop-packet.leaver c.loop-packet.delays stamps answer is
    (subst (λ k. HasListed w c.loop-packet.leaver c.loop-packet.delays (in_tai w.shift stamps) k) end (c.loop-packet.invariant.listed w given fit)))
    c.finish.ensures
