use Rattle.std.proofs.Common.{◌≡◌, ◌*◌, refl, arith}
use Rattle.flow_measure.proofs.Slacks.{times-more}
use Rattle.flow_measure.proofs.margin.MarginMeter.feed.Goals as goal

pub returns-clause-stands : goal.returns-clause-stands
returns-clause-stands c = λ m n gapped stamps passed h is.
    let parts : c.from.result * c.from-2.result ≡ c.args.at * c.args.self.now.den = cc (c.from.ensures, c.from-2.ensures) in
    times-more m n gapped c.args.self.now _ stamps c.args.at passed (record {
      den_is = refl;
      step_is = refl;
      turn_is = refl;
      latest_is = omega (arith, parts, c.max.ensures, c.from-3.ensures);
    }) h is
