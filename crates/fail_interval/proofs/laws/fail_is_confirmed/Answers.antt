use Rattle.fail_interval.proofs.Confirmed.{confirmed-refutes, fail-confirms, keeps-pass, pass-keeps}
use Rattle.fail_interval.proofs.laws.fail_is_confirmed.Goals as goal

pub returns : goal.returns
returns c = record { pass = pass-keeps; keeps = keeps-pass; fail = fail-confirms; refutes = confirmed-refutes }
