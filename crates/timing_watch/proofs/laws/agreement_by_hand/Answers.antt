use Rattle.std.proofs.Common.{refl}
use Rattle.timing_watch.proofs.laws.agreement_by_hand.Goals as goal

pub returns-clause-burst : goal.returns-clause-burst
returns-clause-burst c = record { ends = refl; narrow = refl; narrow_linear = refl; wide = refl }

pub returns-clause-earlier : goal.returns-clause-earlier
returns-clause-earlier c = λ h. let e = h.ends in cc

pub returns-clause-peaks : goal.returns-clause-peaks
returns-clause-peaks c = record { bucket = refl; gapped = refl; linear = refl }

pub returns-clause-one : goal.returns-clause-one
returns-clause-one c = refl

pub returns-clause-gap : goal.returns-clause-gap
returns-clause-gap c = refl
