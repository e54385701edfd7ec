use Rattle.fail_interval.proofs.SenderTypes.{next-pass}
use Rattle.fail_interval.proofs.kind.KindMeter.overfill.Goals as goal

pub returns-in-Pass-clause-verdict : goal.returns-in-Pass-clause-verdict
returns-in-Pass-clause-verdict c = λ stamps after none.
    next-pass _ _ _ c.in-Pass.is (c.verdict_at-self.ensures stamps after (none c.in-Pass.is))
