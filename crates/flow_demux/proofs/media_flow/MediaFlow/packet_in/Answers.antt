use Rattle.std.proofs.Common.{◌≡◌, true, Ok, ◌∙◌, rules, sym, subst}
use Rattle.std.specs.Prelude.{Some}
use Rattle.timing_base.specs.Captures.{Record}
use Rattle.udp_rtp.specs.Awaited.{awaited, carries_awaited}
use Rattle.udp_rtp.specs.Flow.{flow_packet}
use Rattle.udp_rtp.proofs.PlainFrames.{packet-carried}
use Rattle.flow_demux.proofs.Awaiting.{found}
use Rattle.flow_demux.proofs.media_flow.MediaFlow.packet_in.Goals as goal

pub returns-clause-packet : goal.returns-clause-packet
returns-clause-packet g c =
    let r : Record = record { number = c.args.number; stamp = c.args.at; bytes = c.args.frame.now } in
    let is : carries_awaited (awaited c.args.self.now.awaited) r.bytes ≡ true = search rules in
    let f = found g.F.FlowTaker.expects c.args.self.now r.bytes c.requires.awaits is in
    subst (λ p. flow_packet c.args.self.now.media r ≡ Some (record { rec = r.number; at = r.stamp; rtp = Ok p })) (sym (c.packet.ensures ∙ f.is))
    (packet-carried c.args.self.now.media f.packet r f.carried)

pub returns-clause-expected : goal.returns-clause-expected
returns-clause-expected g c =
    let is : carries_awaited (awaited c.args.self.now.awaited) c.args.frame.now ≡ true = search rules in
    let f = found g.F.FlowTaker.expects c.args.self.now c.args.frame.now c.requires.awaits is in
    subst (λ p. g.F.FlowTaker.expects c.args.self.now.taker ≡ Some p) (sym (c.packet.ensures ∙ f.is)) f.expected
