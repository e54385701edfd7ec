use Rattle.std.proofs.Common.{◌<◌, length, arith}
use Rattle.flow_worker.proofs.Expecting.{expected-before}
use Rattle.flow_worker.proofs.upcoming.Upcoming.follow.Goals as goal

pub returns : goal.returns
returns c = record {
  expected = λ all h.
      let old = c.args.self.now in
      let within : old.last < length old.each = omega (arith, old.here, old.all) in
      expected-before all old.each old.last c.args.media _ within h;
}
