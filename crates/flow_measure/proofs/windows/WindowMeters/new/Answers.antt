use Rattle.std.proofs.Common.{arith}
use Rattle.flow_measure.proofs.windows.WindowMeters.new.Goals as goal

pub returns-clause-stands : goal.returns-clause-stands
returns-clause-stands c = record { seen = c.starting_with.ensures.seen; fed = λ some. absurd (omega (arith, some)) }
