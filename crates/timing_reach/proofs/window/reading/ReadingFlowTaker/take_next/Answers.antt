use Rattle.std.proofs.Common.{◌≡◌, Ok, rules, true}
use Rattle.timing_reach.proofs.WindowReadings.{reads-packet, room-on}
use Rattle.timing_reach.proofs.window.reading.ReadingFlowTaker.take_next.Goals as goal

pub returns-clause-room : goal.returns-clause-room
returns-clause-room c = λ count _.
    let took : c.take_next.result ≡ Ok true = search rules in
    room-on count c.args.self.now _ (c.take_next.ensures.room count took) c.in_ok-pass.ensures.kept

pub returns-clause-takes : goal.returns-clause-takes
returns-clause-takes c = λ _.
    let took : c.take_next.result ≡ Ok true = search rules in
    reads-packet c.args.self.now _ c.args.packet.now c.args.frame.now (c.take_next.ensures.takes took) c.in_ok-pass.ensures.passes
