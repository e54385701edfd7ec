use Rattle.flow_measure.proofs.Unique.{greatest-shown, least-shown}
use Rattle.flow_measure.proofs.laws.no_peak_is_hidden.Goals as goal

pub returns-clause-least : goal.returns-clause-least
returns-clause-least c = least-shown

pub returns-clause-greatest : goal.returns-clause-greatest
returns-clause-greatest c = greatest-shown
