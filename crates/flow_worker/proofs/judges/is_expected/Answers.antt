use Rattle.std.proofs.Common.{sym, ◌∙◌}
use Rattle.flow_worker.proofs.Fed.{expects-same}
use Rattle.flow_worker.proofs.judges.is_expected.Goals as goal

pub returns-in-Ok : goal.returns-in-Ok
returns-in-Ok c = λ same.
    expects-same c.args.judge.now c.in-Some.expected c.in-Ok.rtp c.args.rtp c.in-Ok.is (sym c.eq.ensures ∙ same)
    (λ m key options packets h. sym c.in-Some.is ∙ c.expected.ensures.follows m key options packets h)
