use Rattle.std.proofs.Common.{arith}
use Rattle.interval_checker.proofs.Intervals.{confirms-by}
use Rattle.interval_checker.proofs.interval.is_confirmed.Goals as goal

pub returns-in-Bucket : goal.returns-in-Bucket
returns-in-Bucket c = λ stamps size sampled.
    confirms-by _ _ _ _ stamps _ _ _ c.breaks_bucket.result c.of-params.ensures.media c.of-params.ensures.n c.in-Bucket.is (omega arith) (omega (arith, size))
    (c.breaks_bucket.ensures stamps (omega (arith, size)) sampled)

pub returns-in-Over : goal.returns-in-Over
returns-in-Over c = λ stamps size sampled.
    confirms-by _ _ _ _ stamps _ _ _ c.breaks_over.result c.of-params.ensures.media c.of-params.ensures.n c.in-Over.is (omega arith) (omega (arith, size))
    (c.breaks_over.ensures stamps (omega (arith, size)) sampled)

pub returns-in-Empty : goal.returns-in-Empty
returns-in-Empty c = λ stamps size sampled.
    confirms-by _ _ _ _ stamps _ _ _ c.breaks_empty.result c.of-params.ensures.media c.of-params.ensures.n c.in-Empty.is (omega arith) (omega (arith, size))
    (c.breaks_empty.ensures stamps (omega (arith, size)) sampled)
