use Rattle.std.proofs.Common.{◌≡◌, ◌<◌, ◌+◌, length, ap, subst, sym, ◌∙◌, arith, rules}
use Rattle.std.specs.Prelude.{Some, Ok}
use Rattle.timing_base.specs.Captures.{Record}
use Rattle.ruled_intake.specs.Packets.{Packet, packet_of}
use Rattle.udp_rtp.proofs.Awaiting.{goes-on-to, packet-awaited}
use Rattle.flow_worker.specs.Targeted.{media_to}
use Rattle.flow_worker.proofs.Expecting.{ahead, carried-ahead, expected_ahead, expected-put, packet-expected}
use Rattle.flow_worker.proofs.Targeting.{media_to-below}
use Rattle.flow_worker.proofs.upcoming.Upcoming.take.Goals as goal

pub returns-clause-expected : goal.returns-clause-expected
returns-clause-expected c = λ all h.
    let old = c.args.self.now in
    let d = c.index-self-self.result in
    let e = expected_ahead old d c.index-self-place.result in
    let (target, p, is, _, goes) = carried-ahead all old d c.index-self-place.result c.args.frame.now (search rules) h (search rules) in
    expected-put all old.each (ahead old d) record { awaited = c.go_on.new.self; media = e.media; after = e.after }
    (λ t q next. subst (λ s. media_to s 0 all ≡ Some e.media) (sym (goes-on-to e.awaited c.go_on.new.self target t p q is c.go_on.ensures next)) goes) h

pub returns-clause-packet : goal.returns-clause-packet
returns-clause-packet c = λ all h.
    let e = expected_ahead c.args.self.now c.index-self-self.result c.index-self-place.result in
    let r : Record = record { number = c.args.number; stamp = c.args.at; bytes = c.args.frame.now } in
    let (target, p, is, it, goes) = carried-ahead all c.args.self.now c.index-self-self.result c.index-self-place.result r.bytes
    (search rules) h (search rules) in
    let same : c.packet.result ≡ p = c.packet.ensures ∙ packet-awaited e.awaited target p is in
    packet-expected all target p e.media r it goes
    ∙ ap (λ x. Some (packet_of e.media record { rec = r.number; at = r.stamp; rtp = Ok x })) (sym same)
    ∙ ap (λ (p : Packet). Some p) (sym c.new.ensures.value)

pub returns-clause-media : goal.returns-clause-media
returns-clause-media c = λ all h.
    let e = expected_ahead c.args.self.now c.index-self-self.result c.index-self-place.result in
    let (target, _, _, _, goes) = carried-ahead all c.args.self.now c.index-self-self.result c.index-self-place.result c.args.frame.now
    (search rules) h (search rules) in
    let below : e.media < 0 + length all = media_to-below target 0 e.media all goes in
    let same : c.new.result.media ≡ e.media = ap (λ (p : Packet). p.media) c.new.ensures.value in
    omega (arith, below, same)
