use Rattle.run_meter.proofs.Levels.{level-once}
use Rattle.run_meter.proofs.laws.one_level.Goals as goal

pub returns : goal.returns
returns c = level-once
