use Rattle.std.proofs.Common.{◌≡◌, ◌≤◌, ◌<◌, ◌+◌, ℕ, List, add-one, ap, arith, drop, length, length-set, refl, rules, set, subst, sym, ◌∙◌}
use Rattle.std.specs.Prelude.{Option, Some, ◌∷◌, []}
use Rattle.std.proofs.lemmas.List.Elements.{All-get_or, All-set}
use Rattle.timing_base.specs.Captures.{Record}
use Rattle.flow_demux.specs.Awaits.{AwaitsExpected}
use Rattle.flow_demux.specs.Takings.{TakesAll}
use Rattle.flow_demux.specs.declared.media_flow.MediaFlow.{MediaFlow}
use Rattle.flow_demux.proofs.Readying.{media-set, media-stepped, order-learned, ready-of, room-of, whole}
use Rattle.flow_demux.proofs.Stepping.{step-all, step-each, step-more, untouched}
use Rattle.flow_demux.proofs.Taking.{all-take, nothing-steps}
use Rattle.flow_demux.proofs.demux.Demux.take_other.Goals as goal
use Rattle.flow_demux.proofs.demux.Demux.take_other.Goals.{then-branch, else-branch}

-- a frame without a datagram
pub returns-in_default-clause-takes : goal.returns-in_default-clause-takes
returns-in_default-clause-takes g c =
    let r : Record = record { number = c.args.number; stamp = c.args.at; bytes = c.args.frame.now } in
    let flows = c.args.self.now.flows.items in
    all-take g.F.FlowTaker.takes g.F.FlowTaker.room g.F.FlowTaker.expects r flows flows
    (nothing-steps g.F.FlowTaker.takes g.F.FlowTaker.room g.F.FlowTaker.expects g.met.F.FlowTaker.other g.met.F.FlowTaker.less r flows
    (sym c.datagram.ensures ∙ c.in_default.is) c.requires.room.ready.awaits)

-- a flow that hasn't come yet is as it was
pub take_datagram-requires-clause-room : goal.take_datagram-requires-clause-room
take_datagram-requires-clause-room g c =
    let flows = c.args.self.now.flows.items in
    let within : c.loop-flow.flow-index < length flows = search rules in
    subst (λ (f : MediaFlow g.row.F.Denot). g.F.FlowTaker.room 1 f.taker)
    (sym (untouched _ c.loop-flow.flow-index flows c.loop-flow.flow-items c.flow-item.result within c.loop-flow.invariant.steps))
    (All-get_or (λ (f : MediaFlow g.row.F.Denot). g.F.FlowTaker.room 1 f.taker) flows c.loop-flow.flow-index c.flow-item.result within c.requires.room.each)

pub take_datagram-requires-clause-awaits : goal.take_datagram-requires-clause-awaits
take_datagram-requires-clause-awaits g c =
    let flows = c.args.self.now.flows.items in
    let within : c.loop-flow.flow-index < length flows = search rules in
    subst (AwaitsExpected g.F.FlowTaker.expects)
    (sym (untouched _ c.loop-flow.flow-index flows c.loop-flow.flow-items c.flow-item.result within c.loop-flow.invariant.steps))
    (All-get_or (AwaitsExpected g.F.FlowTaker.expects) flows c.loop-flow.flow-index c.flow-item.result within c.requires.room.ready.awaits)

-- memory was refused
pub returns-in_err-take_datagram-clause-ready : goal.returns-in_err-take_datagram-clause-ready
returns-in_err-take_datagram-clause-ready g c =
    let flows = c.args.self.now.flows.items in
    let items = c.loop-flow.flow-items in
    let new = c.take_datagram.new.self in
    let news : List (MediaFlow g.row.F.Denot) = set items c.loop-flow.flow-index new in
    let long : length items ≡ c.args.self.now.flows.len = search rules in
    let size : length news ≡ c.args.self.now.flows.len = length-set items c.loop-flow.flow-index new ∙ long in
    let media = c.take_datagram.ensures.media ∙ sym (ap (λ (f : MediaFlow g.row.F.Denot). f.media) c.flow-item.is) in
    ready-of g.F.FlowTaker.expects _ news (whole c.args.self.now.flows.len news (drop (length news) flows) size)
    (All-set (AwaitsExpected g.F.FlowTaker.expects) items c.loop-flow.flow-index new c.take_datagram.ensures.awaits
    (step-each _ (AwaitsExpected g.F.FlowTaker.expects) c.loop-flow.flow-index flows items (λ o n step _. step.awaited) c.loop-flow.invariant.steps
    c.requires.room.ready.awaits))
    (order-learned c.args.self.now.order c.args.self.now.order flows news refl (λ n h. h)
    (media-set items c.loop-flow.flow-index c.flow-item.result new (sym c.flow-item.is) media
    ∙ media-stepped g.F.FlowTaker.takes g.F.FlowTaker.room g.F.FlowTaker.expects _ c.loop-flow.flow-index flows items c.loop-flow.invariant.steps)
    c.requires.room.ready.ordered)

-- the place of the flow that took it
same-place : (media place : ℕ) (came : Option ℕ) → came ≡ Some media → came ≡ Some place → media ≡ place
same-place media place came e f = cc

pub loop-flow-preserved : goal.loop-flow-preserved
loop-flow-preserved g c =
    let flows = c.args.self.now.flows.items in
    let within : c.loop-flow.flow-index < length flows = search rules in
    record {
      steps = rw add-one (step-more _ c.loop-flow.flow-index flows c.loop-flow.flow-items _ c.take_datagram.new.self within c.loop-flow.invariant.steps
          record {
            taken = c.in_ok-take_datagram.ensures.takes;
            leaves = c.in_ok-take_datagram.ensures.room;
            awaited = c.take_datagram.ensures.awaits;
          });
      place = ap (λ (n : ℕ). n + 1) c.loop-flow.invariant.place;
      came = λ media e. elim c.if-branch.branch as (λ _. media < length flows) [
        | then-branch w ↦
            let here : media ≡ c.loop-flow.place = same-place media c.loop-flow.place _ e w.came-is in
            omega (arith, here, c.loop-flow.invariant.place, within)
        | else-branch w ↦ c.loop-flow.invariant.came media (sym w.came-is ∙ e)
      ];
    }

pub returns-clause-ready : goal.returns-clause-ready
returns-clause-ready g c =
    let flows = c.args.self.now.flows.items in
    let news = c.loop-flow.flow-items in
    let long : length news ≡ c.args.self.now.flows.len = search rules in
    ready-of g.F.FlowTaker.expects _ news (whole c.args.self.now.flows.len news (drop (length news) flows) long)
    (step-each _ (AwaitsExpected g.F.FlowTaker.expects) c.loop-flow.flow-index flows news (λ o n step _. step.awaited) c.loop-flow.invariant.steps
    c.requires.room.ready.awaits)
    (order-learned c.args.self.now.order c.learn_in.new.order flows news c.learn_in.ensures.same c.learn_in.ensures.count
    (media-stepped g.F.FlowTaker.takes g.F.FlowTaker.room g.F.FlowTaker.expects _ c.loop-flow.flow-index flows news c.loop-flow.invariant.steps)
    c.requires.room.ready.ordered)

pub returns-clause-room : goal.returns-clause-room
returns-clause-room g c = λ count has.
    let flows = c.args.self.now.flows.items in
    let news = c.loop-flow.flow-items in
    let long : length news ≡ c.args.self.now.flows.len = search rules in
    let all : length flows ≤ c.loop-flow.flow-index = search rules in
    room-of g.F.FlowTaker.takes g.F.FlowTaker.room g.F.FlowTaker.expects _ count c.args.self.now _ news
    (whole c.args.self.now.flows.len news (drop (length news) flows) long)
    (step-all _ c.loop-flow.flow-index flows news all c.loop-flow.invariant.steps) (returns-clause-ready g c) has

pub returns-clause-takes : goal.returns-clause-takes
returns-clause-takes g c =
    let r : Record = record { number = c.args.number; stamp = c.args.at; bytes = c.args.frame.now } in
    let flows = c.args.self.now.flows.items in
    let news = c.loop-flow.flow-items in
    let long : length news ≡ c.args.self.now.flows.len = search rules in
    let all : length flows ≤ c.loop-flow.flow-index = search rules in
    subst (λ (l : List (MediaFlow g.row.F.Denot)). TakesAll g.F.FlowTaker.takes flows l (r ∷ []))
    (sym (whole c.args.self.now.flows.len news (drop (length news) flows) long))
    (all-take g.F.FlowTaker.takes g.F.FlowTaker.room g.F.FlowTaker.expects r flows news
    (step-all _ c.loop-flow.flow-index flows news all c.loop-flow.invariant.steps))
