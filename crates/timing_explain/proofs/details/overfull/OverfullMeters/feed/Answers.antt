use Rattle.timing_base.specs.declared.media.Kind.TheVariants.{N, NL, W}
use Rattle.sender_params.specs.Limits.{c_max_of}
use Rattle.timing_explain.proofs.details.overfull.OverfullMeters.feed.Goals as goal

pub returns-clause-stands : goal.returns-clause-stands
returns-clause-stands c = λ m n bucket rec stamp seen h held rec_is stamp_is. record {
  narrow_counts = c.feed.ensures.stands n (c_max_of m n N) bucket rec stamp seen h.narrow_counts held rec_is stamp_is;
  linear_counts = c.feed-2.ensures.stands n (c_max_of m n NL) bucket rec stamp seen h.linear_counts held rec_is stamp_is;
  wide_counts = c.feed-3.ensures.stands n (c_max_of m n W) bucket rec stamp seen h.wide_counts held rec_is stamp_is;
}
