use Rattle.std.proofs.Common.{◌≡◌, refl, subst}
use Rattle.sender_params.specs.Limits.{vrx_full_of}
use Rattle.flow_shaper.specs.Choice.{HavePassed}
use Rattle.flow_shaper.specs.declared.meters.Meters.{Meters}
use Rattle.flow_shaper.proofs.shaper.Shaper.pass.Goals as goal

pub returns-in-Some-clause-later : goal.returns-in-Some-clause-later
returns-in-Some-clause-later c = λ before is.
    let p = c.args.params.now in
    let here = c.in-Some.is in
    let same : c.in-Some.meters ≡ before = cc in (
      c.pass.new.self,
      refl,
      subst (λ (m : Meters). HavePassed p (vrx_full_of p.media p.n c.args.self.now.kind) m c.pass.new.self c.args.self.now.seen c.args.at) same
          c.pass.ensures.passed,
    )
