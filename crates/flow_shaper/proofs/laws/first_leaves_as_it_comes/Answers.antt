use Rattle.flow_shaper.proofs.Exists.{first-leaves}
use Rattle.flow_shaper.proofs.laws.first_leaves_as_it_comes.Goals as goal

pub returns : goal.returns
returns c = first-leaves
