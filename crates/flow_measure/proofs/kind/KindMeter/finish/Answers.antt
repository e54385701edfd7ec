use Rattle.std.proofs.Common.{refl}
use Rattle.flow_measure.specs.Kinds.{breaks}
use Rattle.flow_measure.proofs.Named.{named-is}
use Rattle.flow_measure.proofs.kind.KindMeter.finish.Goals as goal

pub returns-clause-numbers : goal.returns-clause-numbers
returns-clause-numbers c = λ n c_max full named packets h is.
    let s = c.args.self.now in
    record {
      groups_broken = c.count.ensures n (breaks packets) s.bucket.seen h.broken_are;
      bucket = record { limit_is = h.c_max_is; seen = refl; counts = h.bucket_is };
      buffer = record { limit_is = h.full_is; seen = s.buffer_is; counts = h.buffer_is };
      first_bucket = h.overfull;
      first_over = h.over;
      first_empty = h.empty;
      named_is = named-is packets s.bucket.seen s.named named h.named_is is;
    }
