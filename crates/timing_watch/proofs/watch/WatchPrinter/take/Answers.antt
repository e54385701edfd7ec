use Rattle.flow_demux.specs.Rooms.{flows_of}
use Rattle.timing_watch.proofs.Taking.{both-ok, ok-always, took-record}
use Rattle.timing_watch.proofs.watch.WatchPrinter.take.Goals as goal

pub returns-clause-room : goal.returns-clause-room
returns-clause-room c = λ count. ok-always c.move_texts.result (λ x has. c.move_texts.ensures.room count (c.in_ok-take.ensures.room count has))

pub returns-clause-goes_on : goal.returns-clause-goes_on
returns-clause-goes_on c =
    both-ok c.move_texts.result (λ x text moves. took-record c.args.self.now _ (flows_of c.take.new.self) _ c.in_ok-take.ensures.takes moves text)
    c.move_texts.ensures.text c.move_texts.ensures.moves
