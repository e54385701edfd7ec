use Rattle.std.proofs.Common.{refl}
use Rattle.flow_measure.proofs.Counted.{replicate-at}
use Rattle.flow_measure.proofs.Widths.{width-next}
use Rattle.flow_measure.proofs.bins.Bins.new.Goals as goal

pub invariant_of-result-clause-width_is : goal.invariant_of-result-clause-width_is
invariant_of-result-clause-width_is c = width-next c.args.limit

pub returns-clause-stands : goal.returns-clause-stands
returns-clause-stands c = λ numbers. record {
  each = λ bin few. replicate-at 0 64 bin;
  above = refl;
  below = refl;
}
