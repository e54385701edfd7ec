use Rattle.std.proofs.Common.{◌+◌, ◌^◌, [], List, rules, subst, sym, take_all}
use Rattle.std.proofs.lemmas.List.Elements.{All-nil, All-push, All-same}
use Rattle.timing_base.specs.Media.{Media}
use Rattle.flow_demux.specs.Awaits.{AwaitsExpected}
use Rattle.flow_demux.specs.declared.media_flow.MediaFlow.{MediaFlow}
use Rattle.timing_measure.specs.flows.Meters.{HasRoom, expected_next}
use Rattle.timing_measure.specs.flows.Taken.{AreMetered, IsFlowOf}
use Rattle.timing_measure.specs.declared.flows.flow.FlowMeter.{FlowMeter}
use Rattle.timing_measure.proofs.Eaches.{each-more}
use Rattle.timing_measure.proofs.Taken.{new-flow}
use Rattle.timing_measure.proofs.flows.take.begin_flows.Goals as goal

pub loop-number-init : goal.loop-number-init
loop-number-init g c = record {
  stands = subst (λ (l : List (MediaFlow (FlowMeter _ _))). AreMetered g.M.RunMeter.WANTS_LEVELS g.M.RunMeter.stands g.M.RunMeter.tells c.args.options
      c.args.first [] [] l)
      (sym c.new-flows.ensures.items) tt;
  room = All-same (λ f. HasRoom (2 ^ 41) f.taker) c.new-flows.result.items [] c.new-flows.ensures.items (All-nil (λ f. HasRoom (2 ^ 41) f.taker));
  awaits = All-same (AwaitsExpected expected_next) c.new-flows.result.items [] c.new-flows.ensures.items (All-nil (AwaitsExpected expected_next));
}

pub loop-number-preserved : goal.loop-number-preserved
loop-number-preserved g c = record {
  stands = each-more (IsFlowOf g.M.RunMeter.WANTS_LEVELS g.M.RunMeter.stands g.M.RunMeter.tells c.args.options []) c.args.first c.loop-number.number
      c.args.media.now
      c.loop-number.flows.items c.push.new.self.items c.index-media-number.result c.new.result (search rules)
      (sym c.index-media-number.is) c.loop-number.invariant.stands
      (new-flow g.M.RunMeter.WANTS_LEVELS g.M.RunMeter.stands g.M.RunMeter.tells c.args.options (c.args.first + c.loop-number.number)
      c.index-media-number.result c.new-meter.result c.new.result c.new.ensures.media c.new.ensures.taker
      (λ past. c.new-meter.ensures.stands past (c.requires.begins past c.in_ok-out.out c.index-media-number.result c.args.options.shift c.in_ok-out.ensures)))
      c.in_ok-push.ensures.items;
  room = All-same (λ f. HasRoom (2 ^ 41) f.taker) c.push.new.self.items _ c.in_ok-push.ensures.items
      (All-push (λ f. HasRoom (2 ^ 41) f.taker) c.loop-number.flows.items c.new.result c.loop-number.invariant.room
      (subst (HasRoom (2 ^ 41)) (sym c.new.ensures.taker) c.new-meter.ensures.room));
  awaits = All-same (AwaitsExpected expected_next) c.push.new.self.items _ c.in_ok-push.ensures.items
      (All-push (AwaitsExpected expected_next) c.loop-number.flows.items c.new.result c.loop-number.invariant.awaits c.new.ensures.awaits);
}

pub returns-clause-stands : goal.returns-clause-stands
returns-clause-stands g c =
    subst (λ (l : List Media). AreMetered g.M.RunMeter.WANTS_LEVELS g.M.RunMeter.stands g.M.RunMeter.tells c.args.options c.args.first l []
    c.loop-number.flows.items)
    (take_all c.loop-number.number c.args.media.now c.loop-number-test.false) c.loop-number.invariant.stands
