use Rattle.std.proofs.Common.{◌≡◌, ◌≤◌, ◌<◌, List, add-one, ap, drop, length, length-set, refl, rules, set, subst, sym, ◌∙◌}
use Rattle.std.specs.Prelude.{string_bytes}
use Rattle.std.proofs.lemmas.List.Elements.{All-get_or, All-same, All-set}
use Rattle.flow_demux.specs.Awaits.{AwaitsExpected}
use Rattle.flow_demux.specs.Texts.{MovesAll}
use Rattle.flow_demux.specs.declared.media_flow.MediaFlow.{MediaFlow}
use Rattle.flow_demux.proofs.Moving.{all-moved, all-room, media-moved, texts-more}
use Rattle.flow_demux.proofs.Readying.{media-set, order-learned, ready-of, whole}
use Rattle.flow_demux.proofs.Stepping.{step-all, step-each, step-more, untouched}
use Rattle.flow_demux.proofs.demux.Demux.move_texts.Goals as goal

pub loop-flow-preserved : goal.loop-flow-preserved
loop-flow-preserved g c =
    let flows = c.args.self.now.flows.items in
    let items = c.loop-flow.flow-items in
    let i = c.loop-flow.flow-index in
    let within : i < length flows = search rules in
    let same = untouched _ i flows items c.flow-item.result within c.loop-flow.invariant.steps in
    record {
      steps = rw add-one (step-more _ i flows items _ c.move_text.new.self within c.loop-flow.invariant.steps
          record {
            moved = c.in_ok-move_text.ensures.moves;
            leaves = c.move_text.ensures.room;
            awaited = c.move_text.ensures.awaits;
          });
      text = texts-more g.F.FlowWriter.text flows i c.flow-item.result _ (string_bytes c.args.to.now) (string_bytes c.loop-flow.to) _ within
          (sym same) c.loop-flow.invariant.text c.in_ok-move_text.ensures.text;
    }

pub returns-clause-ready : goal.returns-clause-ready
returns-clause-ready g c =
    let flows = c.args.self.now.flows.items in
    let news = c.loop-flow.flow-items in
    let long : length news ≡ c.args.self.now.flows.len = search rules in
    ready-of g.F.FlowTaker.expects _ news (whole c.args.self.now.flows.len news (drop (length news) flows) long)
    (step-each _ (AwaitsExpected g.F.FlowTaker.expects) c.loop-flow.flow-index flows news (λ o n step has. step.awaited has) c.loop-flow.invariant.steps
    c.requires.ready.awaits)
    (order-learned c.args.self.now.order c.args.self.now.order flows news refl (λ n h. h)
    (media-moved g.F.FlowWriter.moves g.F.FlowTaker.room g.F.FlowTaker.expects c.loop-flow.flow-index flows news c.loop-flow.invariant.steps)
    c.requires.ready.ordered)

pub returns-clause-moves : goal.returns-clause-moves
returns-clause-moves g c =
    let flows = c.args.self.now.flows.items in
    let news = c.loop-flow.flow-items in
    let long : length news ≡ c.args.self.now.flows.len = search rules in
    let all : length flows ≤ c.loop-flow.flow-index = search rules in
    subst (λ (l : List (MediaFlow g.row.F.Denot)). MovesAll g.F.FlowWriter.moves flows l)
    (sym (whole c.args.self.now.flows.len news (drop (length news) flows) long))
    (all-moved g.F.FlowWriter.moves g.F.FlowTaker.room g.F.FlowTaker.expects flows news (step-all _ c.loop-flow.flow-index flows news all c.loop-flow.invariant.steps))

pub returns-clause-room : goal.returns-clause-room
returns-clause-room g c = λ count has.
    let flows = c.args.self.now.flows.items in
    let news = c.loop-flow.flow-items in
    let long : length news ≡ c.args.self.now.flows.len = search rules in
    let all : length flows ≤ c.loop-flow.flow-index = search rules in
    record {
      ready = returns-clause-ready g c;
      each = All-same (λ (f : MediaFlow g.row.F.Denot). g.F.FlowTaker.room count f.taker) _ news
          (whole c.args.self.now.flows.len news (drop (length news) flows) long)
          (all-room g.F.FlowWriter.moves g.F.FlowTaker.room g.F.FlowTaker.expects flows news count
          (step-all _ c.loop-flow.flow-index flows news all c.loop-flow.invariant.steps) has.each);
    }

-- memory was refused
pub returns-in_err-move_text-clause-ready : goal.returns-in_err-move_text-clause-ready
returns-in_err-move_text-clause-ready g c =
    let flows = c.args.self.now.flows.items in
    let items = c.loop-flow.flow-items in
    let i = c.loop-flow.flow-index in
    let new = c.move_text.new.self in
    let news : List (MediaFlow g.row.F.Denot) = set items i new in
    let within : i < length items = search rules in
    let long : length items ≡ c.args.self.now.flows.len = search rules in
    let size : length news ≡ c.args.self.now.flows.len = length-set items i new ∙ long in
    let media = c.move_text.ensures.media ∙ sym (ap (λ (f : MediaFlow g.row.F.Denot). f.media) c.flow-item.is) in
    let each =
    step-each _ (AwaitsExpected g.F.FlowTaker.expects) i flows items (λ o n step has. step.awaited has) c.loop-flow.invariant.steps c.requires.ready.awaits in
    ready-of g.F.FlowTaker.expects _ news (whole c.args.self.now.flows.len news (drop (length news) flows) size)
    (All-set (AwaitsExpected g.F.FlowTaker.expects) items i new
    (c.move_text.ensures.awaits (All-get_or (AwaitsExpected g.F.FlowTaker.expects) items i c.flow-item.result within each)) each)
    (order-learned c.args.self.now.order c.args.self.now.order flows news refl (λ n h. h)
    (media-set items i c.flow-item.result new (sym c.flow-item.is) media
    ∙ media-moved g.F.FlowWriter.moves g.F.FlowTaker.room g.F.FlowTaker.expects i flows items c.loop-flow.invariant.steps)
    c.requires.ready.ordered)

pub returns-in_err-move_text-clause-room : goal.returns-in_err-move_text-clause-room
returns-in_err-move_text-clause-room g c = λ count has.
    let flows = c.args.self.now.flows.items in
    let items = c.loop-flow.flow-items in
    let i = c.loop-flow.flow-index in
    let new = c.move_text.new.self in
    let news : List (MediaFlow g.row.F.Denot) = set items i new in
    let within : i < length items = search rules in
    let long : length items ≡ c.args.self.now.flows.len = search rules in
    let size : length news ≡ c.args.self.now.flows.len = length-set items i new ∙ long in
    let has_room = λ (f : MediaFlow g.row.F.Denot). g.F.FlowTaker.room count f.taker in
    let each = step-each _ has_room i flows items (λ o n step h. step.leaves count h) c.loop-flow.invariant.steps has.each in
    record {
      ready = returns-in_err-move_text-clause-ready g c;
      each = All-same has_room _ news (whole c.args.self.now.flows.len news (drop (length news) flows) size)
          (All-set has_room items i new (c.move_text.ensures.room count (All-get_or has_room items i c.flow-item.result within each)) each);
    }
