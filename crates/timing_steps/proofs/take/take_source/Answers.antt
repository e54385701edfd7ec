use Rattle.std.proofs.Common.{refl}
use Rattle.timing_steps.proofs.Takings.{takes-text}
use Rattle.timing_steps.proofs.take.take_source.Goals as goal

pub returns-else-read_failed-clause-told : goal.returns-else-read_failed-clause-told
returns-else-read_failed-clause-told g c = λ text whole.
    takes-text g.T.Taker.takes text c.args.before c.args.taker.now c.take_records-taken.new.taker c.in-Ok-taken.taken
    (c.if-read_failed.ensures.whole refl)
    (λ items end holds. c.in-Ok-taken.ensures.told items end (c.in-Ok.ensures.gives text items end whole holds))
