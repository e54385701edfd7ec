use Rattle.flow_demux.proofs.Taking.{if-ok}
use Rattle.flow_demux.proofs.media_flow.MediaFlowTaker.take.Goals as goal

pub returns-clause-room : goal.returns-clause-room
returns-clause-room g c = λ count.
    if-ok c.take_record.result (λ _ leaves room. (c.take_record.ensures.awaits, leaves room.1)) (c.take_record.ensures.room count)
