use Rattle.std.proofs.Common.{[], take, ◌^◌}
use Rattle.std.specs.Prelude.{All}
use Rattle.flow_demux.specs.Awaits.{AwaitsExpected}
use Rattle.timing_measure.specs.flows.Meters.{HasRoom, expected_next}
use Rattle.timing_measure.specs.flows.Taken.{AreMetered}
use Rattle.timing_measure.proofs.flows.take.begin_flows.Given as goal

abbrev pub invariant-loop-number : goal.invariant-loop-number
invariant-loop-number g l = record {
  stands : AreMetered g.M.RunMeter.WANTS_LEVELS g.M.RunMeter.stands g.M.RunMeter.tells l.options l.first (take l.number l.media) [] l.flows.items;
  room : All (λ f. HasRoom (2 ^ 41) f.taker) l.flows.items;
  awaits : All (AwaitsExpected expected_next) l.flows.items;
}
