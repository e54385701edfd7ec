use Rattle.std.proofs.Common.{◌∷◌, ◌++◌, [], replicate, refl}
use Rattle.timing_base.specs.declared.media.Kind.TheVariants.{N, W}
use Rattle.sender_params.specs.Worked.{hd_50}
use Rattle.offset_window.specs.Worked.{so_late}
use Rattle.offset_window.proofs.ByHand.{lower-at, lower-first, upper-at, upper-gone, upper-last}
use Rattle.offset_window.proofs.laws.upper_ends_by_hand.Goals as goal

pub returns-clause-absent : goal.returns-clause-absent
returns-clause-absent c = record {
  lower = lower-first hd_50 20 (replicate 9 1599999999999999999) N refl;
  upper = upper-gone 20 (replicate 9 1599999999999999999) N 8 refl refl refl;
}

pub returns-clause-least : goal.returns-clause-least
returns-clause-least c = record {
  lower = lower-first hd_50 20 (replicate 9 (so_late 0)) N refl;
  upper = upper-at 20 (replicate 9 (so_late 0)) N 0 8 refl refl refl refl refl refl;
}

pub returns-clause-under : goal.returns-clause-under
returns-clause-under c = record {
  lower = lower-at hd_50 20 (replicate 9 (so_late 999)) N 1 0 refl refl refl refl refl refl;
  upper = upper-at 20 (replicate 9 (so_late 999)) N 0 8 refl refl refl refl refl refl;
}

pub returns-clause-whole : goal.returns-clause-whole
returns-clause-whole c = record {
  lower = lower-at hd_50 20 (replicate 9 (so_late 1000)) N 1 0 refl refl refl refl refl refl;
  upper = upper-at 20 (replicate 9 (so_late 1000)) N 1 8 refl refl refl refl refl refl;
}

pub returns-clause-wide : goal.returns-clause-wide
returns-clause-wide c = record {
  lower = lower-first hd_50 20 (replicate 9 (so_late 0)) W refl;
  upper = upper-last hd_50 20 (replicate 9 (so_late 0)) W refl;
}

pub returns-clause-last : goal.returns-clause-last
returns-clause-last c = record {
  lower = lower-at hd_50 20 (replicate 8 (so_late 0) ++ so_late 999999999 ∷ []) N 992320 8 refl refl refl refl refl refl;
  upper = upper-at 20 (replicate 8 (so_late 0) ++ so_late 999999999 ∷ []) N 999999 8 refl refl refl refl refl refl;
}

pub returns-clause-every : goal.returns-clause-every
returns-clause-every c = record {
  lower = lower-at hd_50 20 (replicate 8 (so_late 0) ++ so_late 1000000000 ∷ []) N 992320 8 refl refl refl refl refl refl;
  upper = upper-last hd_50 20 (replicate 8 (so_late 0) ++ so_late 1000000000 ∷ []) N refl;
}
