use Rattle.std.proofs.Common.{refl}
use Rattle.serde_json.proofs.OnLiterals.{serde_json_on_literals}
use Rattle.timing_report.proofs.Numerals.{numerals}
use Rattle.flow_watch.proofs.laws.objects_by_hand.Goals as goal

pub returns-clause-plain : goal.returns-clause-plain
unfolding numerals
returns-clause-plain c = refl

pub returns-clause-gap : goal.returns-clause-gap
unfolding numerals
returns-clause-gap c = refl

pub returns-clause-waiting : goal.returns-clause-waiting
unfolding numerals
returns-clause-waiting c = refl

pub returns-clause-refused : goal.returns-clause-refused
unfolding numerals serde_json_on_literals
returns-clause-refused c = refl
