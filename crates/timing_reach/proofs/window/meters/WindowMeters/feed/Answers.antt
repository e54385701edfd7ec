use Rattle.timing_reach.proofs.window.meters.WindowMeters.feed.Goals as goal

pub returns-clause-stands : goal.returns-clause-stands
returns-clause-stands c = λ n0 stamps h. record {
  narrow = c.feed.ensures.stands _ n0 stamps h.narrow;
  narrow_linear = c.feed-2.ensures.stands _ n0 stamps h.narrow_linear;
  wide = c.feed-3.ensures.stands _ n0 stamps h.wide;
}
