use Rattle.std.proofs.Common.{ap, subst, ◌∙◌}
use Rattle.std.specs.Prelude.{Some}
use Rattle.fail_interval.specs.States.{IsAt}
use Rattle.fail_interval.proofs.Currents.{default-reason, one-reason}
use Rattle.fail_interval.proofs.judge.State.refusal.Goals as goal

pub returns-in-Refused : goal.returns-in-Refused
returns-in-Refused g c = λ media shift packets at.
    let h = subst (IsAt media shift packets) c.in-Refused.is at in
    ap Some c.unjudged_by.ensures ∙ one-reason media packets c.in-Refused.rec c.in-Refused.fault h

pub returns-in_default : goal.returns-in_default
returns-in_default g c = λ media shift packets at. default-reason media shift packets c.args.self.now c.in_default.not-Refused at
