use Rattle.std.proofs.Common.{arith, rules}
use Rattle.drain_bucket.proofs.Fed.{crowded_more}
use Rattle.drain_bucket.proofs.bucket.Bucket.feed_before_tick.Goals as goal

pub returns-clause-stands : goal.returns-clause-stands
returns-clause-stands c = λ params stamps s f.
    crowded_more params c.args.self.now _ stamps c.args.at c.requires.in_time s f c.requires.early record {
      origin = search rules;
      count = search rules;
      begin = search rules;
      seen = search rules;
      peak = grind arith;
      last = search rules;
      next = search rules;
    }
