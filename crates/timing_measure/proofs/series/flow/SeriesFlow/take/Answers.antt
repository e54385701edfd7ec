use Rattle.std.proofs.Common.{◌∷◌, [], refl}
use Rattle.timing_base.specs.Captures.{Record}
use Rattle.timing_measure.specs.declared.series.flow.SeriesFlow.{SeriesFlow}
use Rattle.timing_measure.proofs.lemmas.series.Pouring.{if-ok, series-took}
use Rattle.timing_measure.proofs.series.flow.SeriesFlow.take.Goals as goal

pub returns-clause-room : goal.returns-clause-room
returns-clause-room c = λ count.
    if-ok c.take_record.result (λ _ leaves has. record { few = leaves has.few; awaits = c.take_record.ensures.awaits }) (c.take_record.ensures.room count)

pub returns-clause-takes : goal.returns-clause-takes
returns-clause-takes c =
    let new : SeriesFlow = record { flow = c.take_record.new.self; waiting = c.args.self.now.waiting } in
    let r : Record = record { number = c.args.number; stamp = c.args.at; bytes = c.args.frame.now } in
    if-ok c.take_record.result (λ _ takes. series-took c.args.self.now new (r ∷ []) refl takes) c.take_record.ensures.takes
