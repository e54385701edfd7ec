use Rattle.std.proofs.Common.{◌≡◌, true, subst, sym, ◌∙◌, rules, []}
use Rattle.std.specs.Prelude.{◌∷◌, Ok}
use Rattle.timing_base.specs.Captures.{Record}
use Rattle.timing_base.specs.Targets.{target_of}
use Rattle.udp_rtp.specs.Awaited.{awaited, carries_awaited}
use Rattle.udp_rtp.specs.Carried.{carries}
use Rattle.udp_rtp.proofs.Awaiting.{awaited-carried, goes-on-to, packet-awaited}
use Rattle.udp_rtp.proofs.PlainFrames.{carried, packet-carried}
use Rattle.timing_reach.specs.skew.Paired.{packets_in}
use Rattle.timing_reach.proofs.Pairings.{packet-here}
use Rattle.timing_reach.proofs.skew.paired.PairedFlow.next_packet.Goals as goal

-- what goes on after a packet of the flow goes to its target
pub invariant_of-self : goal.invariant_of-self
invariant_of-self c =
    let flow = c.args.self.now in
    let is : carries_awaited (awaited flow.awaited) c.args.frame.now ≡ true = search rules in
    let (target, p, was, _) = awaited-carried (awaited flow.awaited) c.args.frame.now is in
    record { awaits = λ t q next. goes-on-to flow.awaited c.go_on.new.self target t p q was c.go_on.ensures next ∙ flow.awaits target p was }

-- what is expected is what would be read
pub returns-clause-packets : goal.returns-clause-packets
returns-clause-packets c =
    let flow = c.args.self.now in
    let r : Record = record { number = c.args.number; stamp = c.args.at; bytes = c.args.frame.now } in
    let here : flow.is_here ≡ true = search rules in
    let is : carries_awaited (awaited flow.awaited) r.bytes ≡ true = search rules in
    let (target, p, was, goes) = awaited-carried (awaited flow.awaited) r.bytes is in
    let to : carries (target_of flow.media) p r.bytes ≡ true = subst (λ t. carries t p r.bytes ≡ true) (flow.awaits target p was) goes in
    subst (λ q. record { rec = r.number; at = r.stamp; rtp = Ok q } ∷ [] ≡ packets_in flow (r ∷ []))
    (sym (c.packet.ensures ∙ packet-awaited flow.awaited target p was))
    (packet-here flow.is_here flow.media r _ here (packet-carried flow.media p r (carried (target_of flow.media) p r.bytes to)))
