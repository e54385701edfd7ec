-- The state of a `Matches` after the skews that it was given.
use Rattle.std.specs.Prelude.{◌≡◌, List, length}
use Rattle.path_skew.specs.Pair.{earliest, rising, falling}
use Rattle.path_skew.specs.declared.row.Extreme.{Extreme}
use Rattle.path_skew.specs.declared.matches.Matches.{Matches}

-- exactly these skews were given
pub record HoldsSkews (m : Matches) (es : List Extreme) : Type 0 where
  pub matched : m.matched ≡ length es
  pub least : m.least ≡ earliest rising es
  pub greatest : m.greatest ≡ earliest falling es
