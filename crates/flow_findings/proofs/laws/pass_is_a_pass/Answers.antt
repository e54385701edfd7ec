use Rattle.flow_findings.proofs.Listed.{numbers-pass}
use Rattle.flow_findings.proofs.ListedFlows.{flow-pass}
use Rattle.flow_findings.proofs.laws.pass_is_a_pass.Goals as goal

pub returns-clause-numbers : goal.returns-clause-numbers
returns-clause-numbers c = numbers-pass

pub returns-clause-flow : goal.returns-clause-flow
returns-clause-flow c = flow-pass
