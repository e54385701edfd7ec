use Rattle.timing_reach.proofs.Keepings.{reads-packet}
use Rattle.timing_reach.proofs.Takings.{if-ok}
use Rattle.timing_reach.proofs.shape.reading.ReadingFlowTaker.take.Goals as goal

pub returns-clause-room : goal.returns-clause-room
returns-clause-room c = λ count. if-ok c.keep.result (λ _ _. c.in_ok-take.ensures.room count) c.keep.ensures

pub returns-clause-takes : goal.returns-clause-takes
returns-clause-takes c =
    if-ok c.keep.result
    (λ _ keeps. reads-packet c.args.self.now _ c.args.packet.now c.args.frame.now c.requires.stamp c.requires.short c.in_ok-take.ensures.takes keeps)
    c.keep.ensures
