use Rattle.std.proofs.Common.{arith, rules}
use Rattle.drain_bucket.proofs.Fed.{before, ticks_more}
use Rattle.drain_bucket.proofs.bucket.Bucket.feed_by_ticks.Goals as goal

pub returns-clause-stands : goal.returns-clause-stands
returns-clause-stands c = λ stamps s f.
    let params = c.args.params.now in
    let b = c.args.self.now in
    let was = before params b stamps c.args.at c.requires.in_time s f in
    let middle = c.advance in
    let end = c.advance-drained in
    ticks_more params b _ middle.new.self stamps c.args.at middle.result end.result s f was middle.ensures.passed end.ensures.passed record {
      origin = search rules;
      count = grind arith;
      fresh = grind arith;
      kept = grind arith;
      seen = grind arith;
      peak = grind arith;
    } (search rules)
