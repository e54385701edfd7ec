use Rattle.timing_reach.proofs.SomeShape.{shape-of_one}
use Rattle.timing_reach.proofs.laws.shapes.shapes_are_of_one.Goals as goal

pub returns : goal.returns
returns c = λ job media texts files notes one end a b are whole h k. shape-of_one job media texts files notes one end a b are whole h k
