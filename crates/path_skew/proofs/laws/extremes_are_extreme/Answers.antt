use Rattle.path_skew.specs.Pair.{rising, falling, skews}
use Rattle.path_skew.proofs.Extremes.{least-is, greatest-is, no-earliest}
use Rattle.path_skew.proofs.Orders.{rising_total, falling_total}
use Rattle.path_skew.proofs.laws.extremes_are_extreme.Goals as goal

pub returns-clause-least : goal.returns-clause-least
returns-clause-least c = λ f g e is. least-is (skews f g) e is

pub returns-clause-greatest : goal.returns-clause-greatest
returns-clause-greatest c = λ f g e is. greatest-is (skews f g) e is

pub returns-clause-no_least : goal.returns-clause-no_least
returns-clause-no_least c = λ f g is. no-earliest rising rising_total (skews f g) is

pub returns-clause-no_greatest : goal.returns-clause-no_greatest
returns-clause-no_greatest c = λ f g is. no-earliest falling falling_total (skews f g) is
