use Rattle.std.proofs.Common.{refl}
use Rattle.flow_watch.proofs.meter.WatchMeter.end_group.Goals as goal

pub returns : goal.returns
returns c = record {
  run_is = refl;
  walk_is = refl;
  narrow_is = record {
    limits = record { c_max_is = c.end_group.ensures.c_max; vrx_full_is = c.end_group.ensures.vrx_full };
    whole = c.end_group.ensures.whole;
    stands = c.end_group.ensures.stands;
  };
  narrow_linear_is = record {
    limits = record { c_max_is = c.end_group-2.ensures.c_max; vrx_full_is = c.end_group-2.ensures.vrx_full };
    whole = c.end_group-2.ensures.whole;
    stands = c.end_group-2.ensures.stands;
  };
  wide_is = record {
    limits = record { c_max_is = c.end_group-3.ensures.c_max; vrx_full_is = c.end_group-3.ensures.vrx_full };
    whole = c.end_group-3.ensures.whole;
    stands = c.end_group-3.ensures.stands;
  };
  peaks_is = refl;
  group = _;
  group_is = record {
    run_is = refl;
    from_is = refl;
    to_is = refl;
    stamp_is = refl;
    c_max_is = refl;
    peaks_is = refl;
    narrow_is = c.count.ensures;
    narrow_linear_is = c.count-2.ensures;
    wide_is = c.count-3.ensures;
  };
  kept_is = c.in_ok-push.ensures.items;
}
