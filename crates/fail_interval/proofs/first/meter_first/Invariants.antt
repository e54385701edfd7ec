use Rattle.std.proofs.Common.{◌≡◌, [], List, slice_index, take}
use Rattle.timing_base.specs.Shifts.{Shift}
use Rattle.timing_base.specs.declared.packet.FlowPacket.{FlowPacket}
use Rattle.run_meter.specs.Runs.{RunOf}
use Rattle.fail_interval.specs.Metered.{Keeps}
use Rattle.fail_interval.specs.Meters.{StandsFor}
use Rattle.fail_interval.proofs.first.meter_first.Given as goal

abbrev pub invariant-loop-number : goal.invariant-loop-number
invariant-loop-number g l = record {
  origin : l.meters.bucket.origin ≡ slice_index l.stamps 0;
  stands : StandsFor l.params l.meters (take l.number l.stamps);
  told : (shift : Shift) (r : RunOf) (packets : List FlowPacket) → r.n ≡ l.params.n → Keeps shift l.first packets
      → g.M.RunMeter.stands l.fn.meter l.params.media shift r [] []
      → g.M.RunMeter.stands l.meter l.params.media shift r (take l.number packets) [];
}
