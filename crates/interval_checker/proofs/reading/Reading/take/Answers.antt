use Rattle.std.proofs.Common.{◌≡◌, true, false, rules, sym, ap, ◌∙◌}
use Rattle.std.specs.Prelude.{Some}
use Rattle.timing_base.specs.Captures.{Record}
use Rattle.timing_base.specs.Targets.{target_of}
use Rattle.timing_base.specs.declared.packet.FlowPacket.{FlowPacket}
use Rattle.udp_rtp.specs.Flow.{is_same_target}
use Rattle.udp_rtp.specs.Reading.{reading}
use Rattle.interval_checker.proofs.Takings.{packet_by, reads-nothing}
use Rattle.interval_checker.proofs.reading.Reading.take.Goals as goal

pub returns-then-eq-clause-reads : goal.returns-then-eq-clause-reads
returns-then-eq-clause-reads c = λ bytes is.
    let r : Record = record { number = c.args.rec; stamp = c.args.at; bytes = bytes } in
    let same : is_same_target c.args.datagram.now.target (target_of c.args.self.now.media) ≡ true = search rules in
    let read : c.read_rtp.result ≡ reading c.args.datagram.now.payload = search rules in
    c.feed.ensures.reads r (packet_by c.args.self.now.media r c.args.datagram.now true is same
    ∙ ap (λ x. let p : FlowPacket = record { rec = c.args.rec; at = c.args.at; rtp = x } in Some p) (sym read))

pub returns-else-eq-clause-reads : goal.returns-else-eq-clause-reads
returns-else-eq-clause-reads c = λ bytes is.
    let r : Record = record { number = c.args.rec; stamp = c.args.at; bytes = bytes } in
    let other : is_same_target c.args.datagram.now.target (target_of c.args.self.now.media) ≡ false = search rules in
    reads-nothing c.args.self.now r (packet_by c.args.self.now.media r c.args.datagram.now false is other)
