use Rattle.std.proofs.Common.{◌^◌, ◌∷◌, ◌++◌, [], sym, rules}
use Rattle.std.proofs.lemmas.List.Elements.{All-push, All-same}
use Rattle.flow_demux.specs.Awaits.{AwaitsExpected}
use Rattle.flow_demux.specs.declared.media_flow.MediaFlow.{MediaFlow}
use Rattle.timing_watch.specs.making.Flows.{HasRoom, expected_next}
use Rattle.timing_watch.specs.declared.flow.WatchFlow.{WatchFlow}
use Rattle.timing_watch.proofs.Beginning.{flows-more}
use Rattle.timing_watch.proofs.watch.Watch.new.Goals as goal

pub loop-number-preserved : goal.loop-number-preserved
loop-number-preserved c =
    let job = c.args.job.now in
    let n = c.loop-number.number in
    let m = c.index-media-number.result in
    let flow = c.begin_flow.result in
    let flows = c.loop-number.flows.items in
    let more = c.push.new.self.items in
    record {
      are = flows-more job c.args.first n c.args.media.now flows more m flow (search rules) (sym c.index-media-number.is)
          c.loop-number.invariant.are c.begin_flow.ensures.stands c.in_ok-push.ensures.items;
      awaits = All-same (AwaitsExpected expected_next) more (flows ++ flow ∷ []) c.in_ok-push.ensures.items
          (All-push (AwaitsExpected expected_next) flows flow c.loop-number.invariant.awaits c.begin_flow.ensures.awaits);
      room = All-same (λ (f : MediaFlow WatchFlow). HasRoom (2 ^ 41) f.taker) more (flows ++ flow ∷ []) c.in_ok-push.ensures.items
          (All-push (λ (f : MediaFlow WatchFlow). HasRoom (2 ^ 41) f.taker) flows flow c.loop-number.invariant.room c.begin_flow.ensures.room);
    }
