use Rattle.timing_steps.proofs.Takings.{if-ok}
use Rattle.timing_measure.proofs.both.BothTaker.take.Goals as goal

pub returns-clause-room : goal.returns-clause-room
returns-clause-room g c = λ count.
    if-ok c.take-2.result (λ _ second room. (c.in_ok-take.ensures.room count room.0, second room.1)) (c.take-2.ensures.room count)
