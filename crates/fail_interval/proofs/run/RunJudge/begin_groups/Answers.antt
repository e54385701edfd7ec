use Rattle.std.proofs.Common.{subst, ◌≡◌}
use Rattle.fail_interval.specs.Metered.{Keeps}
use Rattle.fail_interval.proofs.run.RunJudge.begin_groups.Goals as goal

pub returns-in_ok-first-clause-tells : goal.returns-in_ok-first-clause-tells
returns-in_ok-first-clause-tells g c = λ past shift first over packets head group e heads kept telling.
    let same : group ≡ c.in-First.group = cc in
    let now = c.in_ok-first.ensures.told past shift first over packets heads (subst (λ x. Keeps shift x packets) same kept) telling in
    record { told = now.0; out_tells = now.1 }
