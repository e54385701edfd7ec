-- The state `WholeGroups` of a run with at least one complete frame or field.
use Rattle.std.specs.Prelude.{◌≡◌, ◌≤◌, ℕ, Bool, length}
use Rattle.timing_base.specs.Media.{Media}
use Rattle.fail_interval.specs.Meters.{StandsFor as MetersStandFor}
use Rattle.fail_interval.specs.Row.{judged_values}
use Rattle.fail_interval.specs.SoFar.{Groups, IsFit, groups_next}
use Rattle.fail_interval.specs.declared.run.WholeGroups.{WholeGroups}

-- the state is that of this run
pub record IsWhole {M : Type 0} (m : Media) (judge : WholeGroups M) (so_far : Groups) : Type 0 where
  pub media : judge.params.media ≡ m
  pub n : judge.params.n ≡ so_far.n
  pub head : judge.head ≡ so_far.head
  pub groups : judge.groups ≡ so_far.groups
  pub meters : MetersStandFor judge.params judge.meters so_far.stamps
  pub judged : judge.judged ≡ judged_values m (record {
    n = so_far.n;
    groups = so_far.groups;
    head = so_far.head;
    tail = 0;
    stamps = so_far.whole;
  })
  pub some : 1 ≤ length so_far.stamps
  pub within : length so_far.whole ≤ length so_far.stamps

-- the state is that of this run, and a packet at this instant may be the next one
pub record CanGoOn {M : Type 0} (m : Media) (judge : WholeGroups M) (so_far : Groups) (at : ℕ)
    (marker : Bool) : Type 0 where
  pub is : IsWhole m judge so_far
  pub fits : IsFit (groups_next so_far at marker)
