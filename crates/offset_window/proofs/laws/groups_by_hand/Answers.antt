use Rattle.std.proofs.Common.{◌∷◌, [], refl}
use Rattle.timing_base.specs.declared.media.Kind.TheVariants.{N}
use Rattle.sender_params.specs.Worked.{hd_50}
use Rattle.offset_window.specs.Worked.{late_group, so_late}
use Rattle.offset_window.proofs.ByHand.{lower-at, upper-last}
use Rattle.offset_window.proofs.laws.groups_by_hand.Goals as goal

pub returns-clause-own_group : goal.returns-clause-own_group
returns-clause-own_group c = record {
  lower = lower-at late_group 20 (so_late 30764000 ∷ []) N 30764 0 refl refl refl refl refl refl;
  upper = upper-last late_group 20 (so_late 30764000 ∷ []) N refl;
}

pub returns-clause-next_group : goal.returns-clause-next_group
returns-clause-next_group c = record {
  lower = lower-at hd_50 1 (so_late 764000 ∷ so_late 20765000 ∷ []) N 765 1 refl refl refl refl refl refl;
  upper = upper-last hd_50 1 (so_late 764000 ∷ so_late 20765000 ∷ []) N refl;
}
