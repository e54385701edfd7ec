use Rattle.std.proofs.Common.{subst}
use Rattle.timing_base.specs.Captures.{IsStamp, Record}
use Rattle.flow_demux.proofs.Taking.{packet-goes, packet-stamp}
use Rattle.flow_demux.proofs.media_flow.MediaFlow.take_next.Goals as goal

pub take_next-requires-clause-stamp : goal.take_next-requires-clause-stamp
take_next-requires-clause-stamp g c =
    let r : Record = record { number = c.args.number; stamp = c.args.at; bytes = c.args.frame.now } in
    subst IsStamp (packet-stamp c.args.self.now.media r c.in-Some.packet c.in-Some.ensures.packet) c.requires.stamp

pub returns-in-Ok-true-clause-goes : goal.returns-in-Ok-true-clause-goes
returns-in-Ok-true-clause-goes g c = λ _.
    let r : Record = record { number = c.args.number; stamp = c.args.at; bytes = c.args.frame.now } in
    packet-goes c.args.self.now.media r c.in-Some.packet c.in-Some.ensures.packet
