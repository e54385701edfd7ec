-- The state of a `DrawingMeter` after the packets of a run that it was fed, and after those that were committed.
use Rattle.std.specs.Prelude.{◌≡◌, List, ◌++◌}
use Rattle.timing_base.specs.Shifts.{Shift}
use Rattle.timing_base.specs.Media.{Media}
use Rattle.timing_base.specs.declared.packet.FlowPacket.{FlowPacket}
use Rattle.run_meter.specs.Runs.{RunOf, stamps_of}
use Rattle.flow_measure.specs.Packets.{timestamps_of}
use Rattle.flow_page.specs.drawing.drawing.Columns.{Draws}
use Rattle.flow_page.specs.drawing.drawing.Regions.{DrawsRegions}
use Rattle.flow_page.specs.declared.drawing.meter.DrawingMeter.{DrawingMeter}

-- for this run of the video, the meter was fed exactly the packets `fed`, of which `committed` were committed
pub record StandsFor (x : DrawingMeter) (m : Media) (shift : Shift) (r : RunOf) (fed committed : List FlowPacket)
    : Type 0 where
  pub run_is : x.run ≡ r.number
  pub rest : List FlowPacket
  pub whole : fed ≡ committed ++ rest
  pub all_are : Draws m r.n x.all (stamps_of shift fed) (timestamps_of fed)
  pub committed_are : Draws m r.n x.committed (stamps_of shift committed) (timestamps_of committed)
  pub regions_are : DrawsRegions m r.n x.regions (stamps_of shift fed)
