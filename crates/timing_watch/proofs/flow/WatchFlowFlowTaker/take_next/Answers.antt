use Rattle.std.proofs.Common.{◌≡◌, true, Ok, ap, refl, rules}
use Rattle.timing_watch.proofs.Steps.{takes-record}
use Rattle.timing_watch.proofs.flow.WatchFlowFlowTaker.take_next.Goals as goal

pub returns-clause-room : goal.returns-clause-room
returns-clause-room c = λ count _ room.
    let took : c.in_ok-take_next.field-0 ≡ true = search rules in
    c.in_ok-add_lines.ensures.room count (c.in_ok-take_next.ensures.room count (ap Ok took) room)

pub returns-clause-takes : goal.returns-clause-takes
returns-clause-takes c = λ _ m r is same.
    let took : c.in_ok-take_next.field-0 ≡ true = search rules in
    takes-record m c.args.self.now _ c.add_lines.new.self r c.args.packet.now is
    (record { media_is = refl; run_is = refl; before_is = refl; since_is = refl; refused_is = refl }) refl
    (c.in_ok-take_next.ensures.takes (ap Ok took) m r is same)
    (λ w m options packets h. c.in_ok-add_lines.ensures.adds w m options packets c.args.packet.now refl h)
