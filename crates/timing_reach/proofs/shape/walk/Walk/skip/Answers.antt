use Rattle.std.proofs.Common.{arith}
use Rattle.timing_reach.proofs.Walkings.{can-pass, passes-more, passes-none}
use Rattle.timing_reach.proofs.shape.walk.Walk.skip.Goals as goal

pub loop-init : goal.loop-init
loop-init c = passes-none c.args.self.now

pub pass-requires : goal.pass-requires
pass-requires c = can-pass c.args.self.now c.loop.self c.loop.counter c.args.count c.requires (omega arith) c.loop.invariant

pub loop-preserved : goal.loop-preserved
loop-preserved c = passes-more c.args.self.now c.loop.self c.pass.new.self c.loop.counter c.loop.invariant c.pass.ensures.passes
