use Rattle.std.proofs.lemmas.Result.{IfOk-weaker}
use Rattle.flow_watch.proofs.Telling.{run-ended}
use Rattle.flow_watch.proofs.meter.WatchMeterRunMeter.close.Goals as goal

pub returns : goal.returns
returns c =
    IfOk-weaker c.end.result _ _
    (λ x ends past shift r over fed committed size judged h tells.
    run-ended past c.args.out.now c.end.new.self c.args._params.now.media shift over r c.args._judged.now committed judged.n_is ends tells)
    c.end.ensures
