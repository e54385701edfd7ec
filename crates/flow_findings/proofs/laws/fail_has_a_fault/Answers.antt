use Rattle.flow_findings.proofs.Listed.{fail-has_one}
use Rattle.flow_findings.proofs.laws.fail_has_a_fault.Goals as goal

pub returns : goal.returns
returns c = fail-has_one
