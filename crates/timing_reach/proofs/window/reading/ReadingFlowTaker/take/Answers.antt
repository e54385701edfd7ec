use Rattle.timing_reach.proofs.Takings.{if-ok}
use Rattle.timing_reach.proofs.WindowReadings.{reads-packet, room-on}
use Rattle.timing_reach.proofs.window.reading.ReadingFlowTaker.take.Goals as goal

pub returns-clause-room : goal.returns-clause-room
returns-clause-room c = λ count.
    if-ok c.pass.result (λ _ kept. room-on count c.args.self.now _ (c.in_ok-take.ensures.room count) kept) c.pass.ensures.kept

pub returns-clause-takes : goal.returns-clause-takes
returns-clause-takes c =
    if-ok c.pass.result
    (λ _ passes. reads-packet c.args.self.now _ c.args.packet.now c.args.frame.now c.in_ok-take.ensures.takes passes) c.pass.ensures.passes
