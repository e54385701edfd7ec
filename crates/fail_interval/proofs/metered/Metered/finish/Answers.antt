use Rattle.fail_interval.proofs.metered.Metered.finish.Goals as goal

pub returns-clause-tells : goal.returns-clause-tells
returns-clause-tells g c wants past media key options packets h = c.in_ok-row.ensures.tells past media key options packets h.judge_is (h.told wants)
