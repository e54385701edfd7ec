-- The state of a `DetailsMeter` after the packets of a run that it was fed, and after those that were committed.
use Rattle.std.specs.Prelude.{◌≡◌, List, ◌++◌}
use Rattle.timing_base.specs.Shifts.{Shift}
use Rattle.timing_base.specs.Media.{Media}
use Rattle.timing_base.specs.declared.packet.FlowPacket.{FlowPacket}
use Rattle.run_meter.specs.Runs.{RunOf, stamps_of}
use Rattle.flow_measure.specs.Packets.{records_of}
use Rattle.timing_explain.specs.details.Packets.{Details}
use Rattle.timing_explain.specs.declared.details.meter.DetailsMeter.{DetailsMeter}

-- for this run of the video, the meter was fed exactly the packets `fed`, of which `committed` were committed
pub record StandsFor (x : DetailsMeter) (m : Media) (shift : Shift) (r : RunOf) (fed committed : List FlowPacket)
    : Type 0 where
  pub run_is : x.run ≡ r.number
  pub rest : List FlowPacket
  pub whole : fed ≡ committed ++ rest
  pub all_are : Details m r.n x.all (stamps_of shift fed) (records_of fed)
  pub committed_are : Details m r.n x.committed (stamps_of shift committed) (records_of committed)
