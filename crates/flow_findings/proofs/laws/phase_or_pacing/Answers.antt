use Rattle.flow_findings.proofs.Listed.{phase-no_pacing}
use Rattle.flow_findings.proofs.laws.phase_or_pacing.Goals as goal

pub returns : goal.returns
returns c = phase-no_pacing
