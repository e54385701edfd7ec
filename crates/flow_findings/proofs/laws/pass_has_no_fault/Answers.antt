use Rattle.flow_findings.proofs.Listed.{numbers-rare, pass-no_burst, pass-no_pacing, pass-no_phase}
use Rattle.flow_findings.proofs.laws.pass_has_no_fault.Goals as goal

pub returns-clause-burst : goal.returns-clause-burst
returns-clause-burst c = pass-no_burst

pub returns-clause-phase : goal.returns-clause-phase
returns-clause-phase c = pass-no_phase

pub returns-clause-pacing : goal.returns-clause-pacing
returns-clause-pacing c = pass-no_pacing

pub returns-clause-rare : goal.returns-clause-rare
returns-clause-rare c = numbers-rare
