use Rattle.std.proofs.Common.{refl, ap, ◌+◌}
use Rattle.timing_reach.proofs.Walkings.{passes}
use Rattle.timing_reach.proofs.shape.walk.Walk.pass.Goals as goal

pub returns-clause-passes : goal.returns-clause-passes
returns-clause-passes c = λ done r rest h.
    passes c.args.self.now _ done r rest refl (ap (λ n. c.args.self.now.place + (16 + n)) (c.captured.ensures done r rest h)) h
