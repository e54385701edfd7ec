use Rattle.std.proofs.Common.{◌≡◌, ◌<◌, ◌+◌, length, ap, sym, ◌∙◌, Some, rules, arith}
use Rattle.timing_base.specs.Captures.{Record}
use Rattle.udp_rtp.specs.Frames.{Datagram, datagram_of}
use Rattle.ruled_intake.specs.Packets.{Packet}
use Rattle.flow_worker.proofs.Targeting.{media_to-below, packet_from-media, packet_from-none, packet_from-other}
use Rattle.flow_worker.proofs.routing.Routing.packet.Goals as goal

pub returns-in_err-datagram-clause-packet : goal.returns-in_err-datagram-clause-packet
returns-in_err-datagram-clause-packet c =
    let r : Record = record { number = c.args.number; stamp = c.args.at; bytes = c.args.frame.now } in
    c.from_residual.ensures ∙ sym (packet_from-none 0 c.args.self.now.media.now r (sym c.in_err-datagram.ensures))

pub returns-in_err-media-clause-packet : goal.returns-in_err-media-clause-packet
returns-in_err-media-clause-packet c =
    let r : Record = record { number = c.args.number; stamp = c.args.at; bytes = c.args.frame.now } in
    let held = c.datagram-2.inside in
    let d : Datagram = record { target = held.target; source = held.source; length = held.length; stated = held.stated; payload = held.payload.now } in
    let is : datagram_of c.args.frame.now ≡ Some d = search rules in
    c.from_residual-in_err-media.ensures ∙ sym (packet_from-other 0 c.args.self.now.media.now r d is (sym c.in_err-media.ensures))

pub returns-clause-packet : goal.returns-clause-packet
returns-clause-packet c =
    let r : Record = record { number = c.args.number; stamp = c.args.at; bytes = c.args.frame.now } in
    let held = c.datagram-2.inside in
    let d : Datagram = record { target = held.target; source = held.source; length = held.length; stated = held.stated; payload = held.payload.now } in
    let is : datagram_of c.args.frame.now ≡ Some d = search rules in
    let from = packet_from-media 0 c.args.self.now.media.now r d c.in_ok-media.media is (sym c.in_ok-media.ensures) in
    ap (λ (p : Packet). Some p) c.new.ensures.value ∙ cc

pub returns-clause-media : goal.returns-clause-media
returns-clause-media c =
    let held = c.datagram-2.inside in
    let d : Datagram = record { target = held.target; source = held.source; length = held.length; stated = held.stated; payload = held.payload.now } in
    let below : c.in_ok-media.media < 0 + length c.args.self.now.media.now = media_to-below d.target 0 c.in_ok-media.media c.args.self.now.media.now
    (sym c.in_ok-media.ensures) in
    let same : c.new.result.media ≡ c.in_ok-media.media = ap (λ (p : Packet). p.media) c.new.ensures.value in
    omega (arith, below, same)

pub learn-requires : goal.learn-requires
learn-requires c =
    let held = c.datagram-2.inside in
    let d : Datagram = record { target = held.target; source = held.source; length = held.length; stated = held.stated; payload = held.payload.now } in
    let below : c.in_ok-media.media < 0 + length c.args.self.now.media.now = media_to-below d.target 0 c.in_ok-media.media c.args.self.now.media.now
    (sym c.in_ok-media.ensures) in
    omega (arith, below, c.requires.media)

pub returns-clause-expected : goal.returns-clause-expected
returns-clause-expected c = λ h. c.learn.ensures.expected c.args.self.now.media.now (sym c.in_ok-media.ensures) h
