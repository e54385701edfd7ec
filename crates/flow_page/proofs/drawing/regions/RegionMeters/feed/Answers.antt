use Rattle.timing_base.specs.declared.media.Kind.TheVariants.{N, NL, W}
use Rattle.flow_page.proofs.drawing.regions.RegionMeters.feed.Goals as goal

pub returns : goal.returns
returns c = λ m n stamps at few h is. record {
  narrow_draws = c.feed.ensures m n N stamps at few h.narrow_draws is;
  narrow_linear_draws = c.feed-2.ensures m n NL stamps at few h.narrow_linear_draws is;
  wide_draws = c.feed-3.ensures m n W stamps at few h.wide_draws is;
}
