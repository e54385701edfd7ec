use Rattle.std.proofs.Common.{refl, arith}
use Rattle.timing_explain.proofs.details.packets.PacketDetails.new.Goals as goal

pub returns-clause-details : goal.returns-clause-details
returns-clause-details c = record {
  n_is = c.new.ensures.n;
  seen_is = c.new.ensures.seen;
  same = refl;
  overfull_counts = λ bucket rec stamp buckets recs stamps. c.new-2.ensures.stands bucket rec stamp;
  first_is = λ some. absurd (omega (arith, some));
  anchor_is = λ some. absurd (omega (arith, some));
  begun = λ some. absurd (omega (arith, some, c.new.ensures.place));
  ended = λ some. absurd (omega (arith, some));
  times_are = λ stamp are. c.in_ok-new.ensures.times _ _ stamp;
}
