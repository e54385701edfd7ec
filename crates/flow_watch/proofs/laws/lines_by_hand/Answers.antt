use Rattle.std.proofs.Common.{refl}
use Rattle.timing_report.proofs.Numerals.{numerals}
use Rattle.flow_watch.proofs.laws.lines_by_hand.Goals as goal

pub returns-clause-plain : goal.returns-clause-plain
unfolding numerals
returns-clause-plain c = refl

pub returns-clause-burst : goal.returns-clause-burst
unfolding numerals
returns-clause-burst c = refl

pub returns-clause-fields : goal.returns-clause-fields
unfolding numerals
returns-clause-fields c = refl
