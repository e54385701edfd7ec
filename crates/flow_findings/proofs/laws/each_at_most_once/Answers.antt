use Rattle.flow_findings.proofs.Once.{findings-once}
use Rattle.flow_findings.proofs.laws.each_at_most_once.Goals as goal

pub returns : goal.returns
returns c = findings-once
