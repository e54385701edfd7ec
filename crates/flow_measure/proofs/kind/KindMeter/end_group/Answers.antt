use Rattle.flow_measure.specs.Kinds.{breaks}
use Rattle.flow_measure.proofs.kind.KindMeter.end_group.Goals as goal

pub returns-clause-stands : goal.returns-clause-stands
returns-clause-stands c = λ n c_max full packets h all. record {
  c_max_is = h.c_max_is;
  full_is = h.full_is;
  bucket_is = h.bucket_is;
  buffer_is = h.buffer_is;
  broken_are = c.end_group.ensures.stands n (breaks packets) c.args.self.now.bucket.seen h.broken_are all;
  overfull = h.overfull;
  over = h.over;
  empty = h.empty;
  named_is = h.named_is;
}
