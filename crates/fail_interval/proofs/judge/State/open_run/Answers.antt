use Rattle.std.proofs.Common.{subst, ◌∙◌}
use Rattle.fail_interval.specs.States.{IsAt}
use Rattle.fail_interval.proofs.Currents.{default-open, open-going}
use Rattle.fail_interval.proofs.judge.State.open_run.Goals as goal

pub returns-in-Going : goal.returns-in-Going
returns-in-Going g c = λ media shift packets at.
    let h = subst (IsAt media shift packets) c.in-Going.is at in
    c.open_run.ensures packets h.2 ∙ open-going c.in-Going.flow packets media h.0 h.2

pub returns-in_default : goal.returns-in_default
returns-in_default g c = λ media shift packets at. default-open media shift packets c.args.self.now c.in_default.not-Going at
