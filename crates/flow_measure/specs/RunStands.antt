-- The state of a `NumbersMeter` after the packets of a run that it was fed, and after those that were committed.
use Rattle.std.specs.Prelude.{List}
use Rattle.timing_base.specs.Shifts.{Shift}
use Rattle.timing_base.specs.Media.{Media}
use Rattle.timing_base.specs.declared.packet.FlowPacket.{FlowPacket}
use Rattle.run_meter.specs.Runs.{IsHeadOf, RunOf, stamps_of}
use Rattle.flow_measure.specs.Metered.{Measures}
use Rattle.flow_measure.specs.Packets.{records_of, timestamps_of}
use Rattle.flow_measure.specs.declared.numbers_meter.NumbersMeter.{NumbersMeter}

-- for this run of the video, the meter was fed exactly the packets `fed`, of which `committed` were committed
pub record StandsFor (x : NumbersMeter) (m : Media) (shift : Shift) (r : RunOf) (fed committed : List FlowPacket)
    : Type 0 where
  pub head_is : IsHeadOf r x.head
  pub all_are : Measures m r.n x.all (stamps_of shift fed) (records_of fed) (timestamps_of fed)
  pub committed_are : Measures m r.n x.committed (stamps_of shift committed) (records_of committed)
      (timestamps_of committed)
