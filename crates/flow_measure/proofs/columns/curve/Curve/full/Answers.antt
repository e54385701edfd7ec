use Rattle.std.proofs.Common.{sym, arith}
use Rattle.flow_measure.proofs.Curved.{last-column, next-column}
use Rattle.flow_measure.proofs.columns.curve.Curve.full.Goals as goal
