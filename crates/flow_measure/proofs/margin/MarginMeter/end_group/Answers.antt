use Rattle.std.proofs.Common.{refl}
use Rattle.flow_measure.proofs.Slacks.{times-turn}
use Rattle.flow_measure.proofs.margin.MarginMeter.end_group.Goals as goal

pub returns-clause-stands : goal.returns-clause-stands
returns-clause-stands c = λ m n gapped stamps passed. times-turn m n gapped c.args.self.now _ stamps passed refl refl refl refl
