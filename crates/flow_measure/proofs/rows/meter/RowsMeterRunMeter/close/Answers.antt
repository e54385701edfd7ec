use Rattle.flow_measure.proofs.lemmas.rows.Rowing.{told-over}
use Rattle.flow_measure.proofs.rows.meter.RowsMeterRunMeter.close.Goals as goal

pub returns : goal.returns
returns c = λ past shift r over fed committed size judged h tells.
    told-over past c.args._out.now c.args._params.now.media shift r c.args._judged.now over committed judged.n_is tells
