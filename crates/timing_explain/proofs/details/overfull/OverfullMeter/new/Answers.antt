use Rattle.std.proofs.Common.{None, refl, arith}
use Rattle.timing_explain.proofs.details.overfull.OverfullMeter.new.Goals as goal

pub returns-clause-stands : goal.returns-clause-stands
returns-clause-stands c = λ bucket rec stamp. record {
  c_max_is = c.c_max.ensures;
  groups_are = c.new.ensures.stands _ _;
  first = None;
  first_is = λ i few. absurd (omega (arith, few));
  place_is = refl;
}
