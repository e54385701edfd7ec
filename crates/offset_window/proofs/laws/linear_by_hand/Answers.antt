use Rattle.std.proofs.Common.{refl}
use Rattle.timing_base.specs.declared.media.Kind.TheVariants.{N, NL, W}
use Rattle.sender_params.specs.Worked.{hd_50}
use Rattle.offset_window.specs.Worked.{each_after}
use Rattle.offset_window.proofs.ByHand.{lower-at, upper-at, upper-last}
use Rattle.offset_window.proofs.laws.linear_by_hand.Goals as goal

pub returns-clause-narrow : goal.returns-clause-narrow
returns-clause-narrow c = record {
  lower = lower-at hd_50 20 (each_after 1000000 20) N 1524 19 refl refl refl refl refl refl;
  upper = upper-at 20 (each_after 1000000 20) N 8764 8 refl refl refl refl refl refl;
}

pub returns-clause-linear : goal.returns-clause-linear
returns-clause-linear c = record {
  lower = lower-at hd_50 20 (each_after 1000000 20) NL 764 0 refl refl refl refl refl refl;
  upper = upper-at 20 (each_after 1000000 20) NL 8764 8 refl refl refl refl refl refl;
}

pub returns-clause-wide : goal.returns-clause-wide
returns-clause-wide c = record {
  lower = lower-at hd_50 20 (each_after 1000000 20) W 764 0 refl refl refl refl refl refl;
  upper = upper-last hd_50 20 (each_after 1000000 20) W refl;
}
