-- The properties of the extremes of a list of skews.
use Rattle.std.specs.Prelude.{◌≡◌, ◌≤◌, ◌≤ℤ◌, List}
use Rattle.std.specs.List.{Contains, All}
use Rattle.path_skew.specs.declared.row.Extreme.{Extreme}

-- one of the skews: none is below it, and none equal has a lower packet record in the first flow
pub record IsLeast (es : List Extreme) (e : Extreme) : Type 0 where
  pub member : Contains es e
  pub least : All (λ x. e.skew ≤ℤ x.skew) es
  pub earliest : All (λ x. x.skew ≡ e.skew → e.first_rec ≤ x.first_rec) es

-- one of the skews: none is above it, and none equal has a lower packet record in the first flow
pub record IsGreatest (es : List Extreme) (e : Extreme) : Type 0 where
  pub member : Contains es e
  pub greatest : All (λ x. x.skew ≤ℤ e.skew) es
  pub earliest : All (λ x. x.skew ≡ e.skew → e.first_rec ≤ x.first_rec) es
