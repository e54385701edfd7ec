use Rattle.ruled_intake.proofs.Rules.{begins}
use Rattle.ruled_intake.proofs.lane.Lane.new.Goals as goal

pub with_rule-requires : goal.with_rule-requires
with_rule-requires c = begins
