use Rattle.std.proofs.Common.{rules}
use Rattle.drain_bucket.proofs.Fed.{spaced_more}
use Rattle.drain_bucket.proofs.bucket.Bucket.feed.Goals as goal

pub returns-then-at-self-clause-stands : goal.returns-then-at-self-clause-stands
returns-then-at-self-clause-stands c = λ stamps s f.
    spaced_more c.args.params.now c.args.self.now _ stamps c.args.at c.requires.in_time s f c.if-self-eq1.true c.if-at-self.true record {
      origin = search rules;
      count = search rules;
      begin = search rules;
      seen = search rules;
      peak = search rules;
      last = search rules;
      next = search rules;
    }

pub returns-then-at-self-2-clause-stands : goal.returns-then-at-self-2-clause-stands
returns-then-at-self-2-clause-stands c =
    let stands = c.feed_before_tick.ensures.stands c.args.params.now in
    search (rules, stands)
