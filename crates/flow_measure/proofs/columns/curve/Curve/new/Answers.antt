use Rattle.std.proofs.Common.{sym}
use Rattle.flow_measure.proofs.Widths.{width-none}
use Rattle.flow_measure.proofs.columns.curve.Curve.new.Goals as goal

pub invariant_of-result-clause-width_is : goal.invariant_of-result-clause-width_is
invariant_of-result-clause-width_is g c = sym (width-none c.args.most)
