use Rattle.flow_shaper.proofs.SomeBound.{bound-some}
use Rattle.flow_shaper.proofs.laws.some_bound.Goals as goal

pub returns : goal.returns
returns c = bound-some
