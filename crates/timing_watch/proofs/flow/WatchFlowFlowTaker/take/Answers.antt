use Rattle.std.proofs.Common.{refl}
use Rattle.timing_watch.proofs.Steps.{takes-record}
use Rattle.timing_watch.proofs.Taking.{if-ok}
use Rattle.timing_watch.proofs.flow.WatchFlowFlowTaker.take.Goals as goal

pub returns-clause-room : goal.returns-clause-room
returns-clause-room c = λ count.
    if-ok c.add_lines.result (λ _ leaves has. leaves (c.in_ok-take.ensures.room count has)) (c.add_lines.ensures.room count)

pub returns-clause-takes : goal.returns-clause-takes
returns-clause-takes c =
    if-ok c.add_lines.result
    (λ _ adds m r is same.
    takes-record m c.args.self.now _ c.add_lines.new.self r c.args.packet.now is
    (record { media_is = refl; run_is = refl; before_is = refl; since_is = refl; refused_is = refl }) refl
    (c.in_ok-take.ensures.takes m r is same) (λ w m options packets h. adds w m options packets c.args.packet.now refl h)) c.add_lines.ensures.adds
