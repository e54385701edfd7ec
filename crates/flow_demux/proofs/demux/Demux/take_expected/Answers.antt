use Rattle.std.proofs.Common.{◌≡◌, ◌<◌, ◌+◌, arith, length, refl, set, subst, sym}
use Rattle.std.specs.Prelude.{IfOk, Some}
use Rattle.timing_base.specs.Captures.{Record}
use Rattle.udp_rtp.specs.Flow.{flow_packet}
use Rattle.flow_demux.specs.Rooms.{HasRoom}
use Rattle.flow_demux.specs.declared.media_flow.MediaFlow.{MediaFlow}
use Rattle.flow_demux.proofs.Readying.{one-at, order-learned, ready-set, room-of}
use Rattle.flow_demux.proofs.Taking.{all-take, if-ok, packet-steps}
use Rattle.flow_demux.proofs.demux.Demux.take_expected.Goals as goal
use Rattle.flow_demux.proofs.demux.Demux.take_expected.Goals.{in-Some+in_default-packet_in, in_default}

pub returns-in-Some-packet_in-clause-ready : goal.returns-in-Some-packet_in-clause-ready
returns-in-Some-packet_in-clause-ready g c =
    ready-set g.F.FlowTaker.expects c.args.self.now _ c.ahead-ahead.result c.index_mut.result.now c.take_packet.new.self refl (sym c.index_mut.ensures.value)
    c.take_packet.ensures.media c.take_packet.ensures.awaits c.requires.room.ready
    (λ fs same. order-learned c.args.self.now.order c.learn_in.new.order c.args.self.now.flows.items fs c.learn_in.ensures.same c.learn_in.ensures.count same
    c.requires.room.ready.ordered)

pub returns-in-Some-packet_in-clause-room : goal.returns-in-Some-packet_in-clause-room
returns-in-Some-packet_in-clause-room g c = λ count.
    let r : Record = record { number = c.args.number; stamp = c.args.at; bytes = c.args.frame.now } in
    let flows = c.args.self.now.flows.items in
    let flow = c.index_mut.result.now in
    let order = c.requires.room.ready.ordered c.in-Some.order c.in-Some.is in
    let within : c.ahead-ahead.result < length flows = omega (arith, c.ahead-ahead.ensures.within, order.0) in
    let same : c.index.result.now ≡ flow =
    one-at flows c.ahead-ahead.result c.index.result.now flow within (sym c.index.ensures) (sym c.index_mut.ensures.value) in
    let here : flow_packet flow.media r ≡ Some c.in-Some-packet_in.packet =
    subst (λ (f : MediaFlow g.row.F.Denot). flow_packet f.media r ≡ Some c.in-Some-packet_in.packet) same c.in-Some-packet_in.ensures.packet in
    if-ok c.take_packet.result
    (λ _ steps has. room-of g.F.FlowTaker.takes g.F.FlowTaker.room g.F.FlowTaker.expects r count c.args.self.now _
    (set flows c.ahead-ahead.result c.take_packet.new.self) refl steps (returns-in-Some-packet_in-clause-ready g c) has)
    (packet-steps g.F.FlowTaker.takes g.F.FlowTaker.room g.F.FlowTaker.expects g.met.F.FlowTaker.other g.met.F.FlowTaker.less c.take_packet.result r
    c.in-Some-packet_in.packet flows c.ahead-ahead.result flow c.take_packet.new.self order.1 within (sym c.index_mut.ensures.value) here
    c.take_packet.ensures.takes c.take_packet.ensures.room c.take_packet.ensures.awaits c.requires.room.ready.awaits)

pub returns-in-Some-packet_in-clause-takes : goal.returns-in-Some-packet_in-clause-takes
returns-in-Some-packet_in-clause-takes g c =
    let r : Record = record { number = c.args.number; stamp = c.args.at; bytes = c.args.frame.now } in
    let flows = c.args.self.now.flows.items in
    let flow = c.index_mut.result.now in
    let order = c.requires.room.ready.ordered c.in-Some.order c.in-Some.is in
    let within : c.ahead-ahead.result < length flows = omega (arith, c.ahead-ahead.ensures.within, order.0) in
    let same : c.index.result.now ≡ flow =
    one-at flows c.ahead-ahead.result c.index.result.now flow within (sym c.index.ensures) (sym c.index_mut.ensures.value) in
    let here : flow_packet flow.media r ≡ Some c.in-Some-packet_in.packet =
    subst (λ (f : MediaFlow g.row.F.Denot). flow_packet f.media r ≡ Some c.in-Some-packet_in.packet) same c.in-Some-packet_in.ensures.packet in
    if-ok c.take_packet.result
    (λ _ steps. all-take g.F.FlowTaker.takes g.F.FlowTaker.room g.F.FlowTaker.expects r flows (set flows c.ahead-ahead.result c.take_packet.new.self) steps)
    (packet-steps g.F.FlowTaker.takes g.F.FlowTaker.room g.F.FlowTaker.expects g.met.F.FlowTaker.other g.met.F.FlowTaker.less c.take_packet.result r
    c.in-Some-packet_in.packet flows c.ahead-ahead.result flow c.take_packet.new.self order.1 within (sym c.index_mut.ensures.value) here
    c.take_packet.ensures.takes c.take_packet.ensures.room c.take_packet.ensures.awaits c.requires.room.ready.awaits)

pub returns-clause-room : goal.returns-clause-room
returns-clause-room g c = λ count.
    let same : c.match-self.self ≡ c.args.self.now = elim c.match-self.branch as (λ _. c.match-self.self ≡ c.args.self.now) [
      | in-Some+in_default-packet_in w ↦ w.self-is
      | in_default w ↦ w.self-is
    ] in
    subst (λ d. IfOk c.take_other.result (λ _. HasRoom g.F.FlowTaker.room g.F.FlowTaker.expects (count + 1) d
    → HasRoom g.F.FlowTaker.room g.F.FlowTaker.expects count c.take_other.new.self)) same (c.take_other.ensures.room count)
