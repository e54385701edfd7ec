use Rattle.timing_reach.proofs.window.meters.WindowMeters.finish.Goals as goal

pub returns : goal.returns
returns c = λ params stamps h. record {
  narrow = c.finish.ensures params _ stamps h.narrow;
  narrow_linear = c.finish-2.ensures params _ stamps h.narrow_linear;
  wide = c.finish-3.ensures params _ stamps h.wide;
}
