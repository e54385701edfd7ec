use Rattle.flow_measure.proofs.Agrees.{bins-agree, broken-agrees, classes-agree, curve-agrees, eye-agrees, summary-agrees}
use Rattle.flow_measure.proofs.laws.what_was_fed_decides.Goals as goal

pub returns-clause-summary : goal.returns-clause-summary
returns-clause-summary c = summary-agrees

pub returns-clause-bins : goal.returns-clause-bins
returns-clause-bins c = bins-agree

pub returns-clause-classes : goal.returns-clause-classes
returns-clause-classes c = classes-agree

pub returns-clause-curve : goal.returns-clause-curve
returns-clause-curve c = curve-agrees (λ x. x)

pub returns-clause-eye : goal.returns-clause-eye
returns-clause-eye c = eye-agrees (λ x. x)

pub returns-clause-broken : goal.returns-clause-broken
returns-clause-broken c = broken-agrees
