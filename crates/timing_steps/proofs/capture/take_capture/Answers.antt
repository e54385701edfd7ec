use Rattle.std.proofs.Common.{arith, subst, ◌≡◌, ◌+◌}
use Rattle.timing_steps.proofs.Takings.{if-ok}
use Rattle.timing_steps.proofs.capture.take_capture.Goals as goal

pub returns-in-Ok-clause-room : goal.returns-in-Ok-clause-room
returns-in-Ok-clause-room g c = λ count.
    if-ok c.take_source.result
    (λ taken next room.
    let number : 0 + taken.records + 1 ≡ taken.records + 1 = omega arith in
    subst (λ n. g.T.Taker.room n count c.take_source.new.taker) number (next room))
    (c.take_source.ensures.room count)
