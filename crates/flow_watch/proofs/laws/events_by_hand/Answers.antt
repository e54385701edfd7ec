use Rattle.std.proofs.Common.{refl}
use Rattle.timing_report.proofs.Numerals.{numerals}
use Rattle.flow_watch.proofs.laws.events_by_hand.Goals as goal

pub returns-clause-gap : goal.returns-clause-gap
unfolding numerals
returns-clause-gap c = refl

pub returns-clause-waiting : goal.returns-clause-waiting
unfolding numerals
returns-clause-waiting c = refl

pub returns-clause-refused : goal.returns-clause-refused
unfolding numerals
returns-clause-refused c = refl

pub returns-clause-gaps : goal.returns-clause-gaps
unfolding numerals
returns-clause-gaps c = refl
