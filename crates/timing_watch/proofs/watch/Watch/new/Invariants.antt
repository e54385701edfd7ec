use Rattle.std.proofs.Common.{◌^◌, [], take}
use Rattle.std.specs.Prelude.{All}
use Rattle.flow_demux.specs.Awaits.{AwaitsExpected}
use Rattle.flow_demux.specs.declared.media_flow.MediaFlow.{MediaFlow}
use Rattle.timing_watch.specs.making.Flows.{HasRoom, expected_next}
use Rattle.timing_watch.specs.making.Watches.{AreFlows}
use Rattle.timing_watch.specs.declared.flow.WatchFlow.{WatchFlow}
use Rattle.timing_watch.proofs.watch.Watch.new.Given as goal

abbrev pub invariant-loop-number : goal.invariant-loop-number
invariant-loop-number l = record {
  are : AreFlows l.job [] l.first (take l.number l.media) l.flows.items;
  awaits : All (AwaitsExpected expected_next) l.flows.items;
  room : All (λ (f : MediaFlow WatchFlow). HasRoom (2 ^ 41) f.taker) l.flows.items;
}
