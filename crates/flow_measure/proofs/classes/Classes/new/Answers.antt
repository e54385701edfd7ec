use Rattle.std.proofs.Common.{refl, arith}
use Rattle.flow_measure.proofs.Counted.{replicate-at}
use Rattle.flow_measure.proofs.classes.Classes.new.Goals as goal

pub returns-clause-stands : goal.returns-clause-stands
returns-clause-stands c = λ numbers. record {
  each = λ class few. replicate-at 0 64 class;
  rest = λ class past. refl;
  ends = λ last e. absurd (omega (arith, e));
}
