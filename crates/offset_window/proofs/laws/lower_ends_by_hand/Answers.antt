use Rattle.std.proofs.Common.{◌∷◌, [], refl}
use Rattle.timing_base.specs.declared.media.Kind.TheVariants.{N}
use Rattle.sender_params.specs.Worked.{hd_50}
use Rattle.offset_window.specs.Worked.{so_late}
use Rattle.offset_window.proofs.ByHand.{lower-at, lower-first, lower-gone, upper-last}
use Rattle.offset_window.proofs.laws.lower_ends_by_hand.Goals as goal

pub returns-clause-none : goal.returns-clause-none
returns-clause-none c = record {
  lower = lower-first hd_50 20 [] N refl;
  upper = upper-last hd_50 20 [] N refl;
}

pub returns-clause-early : goal.returns-clause-early
returns-clause-early c = record {
  lower = lower-first hd_50 20 (so_late 0 ∷ []) N refl;
  upper = upper-last hd_50 20 (so_late 0 ∷ []) N refl;
}

pub returns-clause-later : goal.returns-clause-later
returns-clause-later c = record {
  lower = lower-at hd_50 20 (so_late 1 ∷ []) N 1 0 refl refl refl refl refl refl;
  upper = upper-last hd_50 20 (so_late 1 ∷ []) N refl;
}

pub returns-clause-whole : goal.returns-clause-whole
returns-clause-whole c = record {
  lower = lower-at hd_50 20 (so_late 1000 ∷ []) N 1 0 refl refl refl refl refl refl;
  upper = upper-last hd_50 20 (so_late 1000 ∷ []) N refl;
}

pub returns-clause-more : goal.returns-clause-more
returns-clause-more c = record {
  lower = lower-at hd_50 20 (so_late 1001 ∷ []) N 2 0 refl refl refl refl refl refl;
  upper = upper-last hd_50 20 (so_late 1001 ∷ []) N refl;
}

pub returns-clause-last : goal.returns-clause-last
returns-clause-last c = record {
  lower = lower-at hd_50 20 (so_late 764000 ∷ so_late 1000960000 ∷ []) N 1000000 1 refl refl refl refl refl refl;
  upper = upper-last hd_50 20 (so_late 764000 ∷ so_late 1000960000 ∷ []) N refl;
}

pub returns-clause-absent : goal.returns-clause-absent
returns-clause-absent c = record {
  lower = lower-gone hd_50 20 (so_late 764000 ∷ so_late 1000960001 ∷ []) N 1 refl refl;
  upper = upper-last hd_50 20 (so_late 764000 ∷ so_late 1000960001 ∷ []) N refl;
}
