-- The judged run of a flow that a page shows: the columns of its judged packets and of its frames or fields, and those
-- around its violations. Packets count from 0; capture timestamps are nanoseconds of TAI, after the
-- shift. Which run is shown is this project's own choice.
use Rattle.std.specs.Prelude.{◌≡◌, ◌-◌, ℕ, List, [], length, slice_index, Option, Some, None}
use Rattle.timing_base.specs.Shifts.{FlowOptions, Shift}
use Rattle.timing_base.specs.Media.{Media}
use Rattle.timing_base.specs.Numbered.{numbered}
use Rattle.timing_base.specs.declared.packet.FlowPacket.{FlowPacket}
use Rattle.run_meter.specs.Runs.{JudgedPart, stamps_of}
use Rattle.fail_interval.specs.Parts.{judged_parts}
use Rattle.flow_measure.specs.Measured.{HasNumbers, IsMeasuredRun}
use Rattle.flow_measure.specs.Packets.{timestamps_of}
use Rattle.flow_page.specs.drawing.Drawn.{AreCurves, AreRegions}
use Rattle.flow_page.specs.drawing.Told.{IsLongest}
use Rattle.flow_page.specs.declared.shown.FlowPage.{FlowPage}
use Rattle.flow_page.specs.declared.shown.ShownRun.{ShownRun}
use Rattle.timing_measure.specs.Measured.{IsMeasuredFlow}

-- a judged run of a media, as it is shown
pub record IsShownRun (m : Media) (shift : Shift) (part : JudgedPart) (s : ShownRun) : Type 0 where
  pub run_is : IsMeasuredRun (HasNumbers m shift) part s.run
  pub first_is : s.first_at ≡ slice_index (stamps_of shift part.packets) 0
  pub last_is : s.last_at ≡ slice_index (stamps_of shift part.packets) (length part.packets - 1)
  pub curves : AreCurves m part.values.n part.values.frames (stamps_of shift part.packets) (timestamps_of part.packets)
      s.curves
  pub regions : AreRegions m part.values.n (stamps_of shift part.packets) 0 part.values.kinds s.regions

-- the longest of the judged runs of a flow is shown; without a judged run, none
abbrev pub Shows : Media → Shift → List JudgedPart → Option ShownRun → Type 0
Shows m shift parts None = parts ≡ []
Shows m shift parts (Some s) = (part : JudgedPart) × IsLongest parts part × IsShownRun m shift part s

-- the part of a page for the flow with these packets, of the media with this number
pub record IsFlowPage (m : Media) (number : ℕ) (options : FlowOptions) (packets : List FlowPacket) (page : FlowPage)
    : Type 0 where
  pub flow_is : IsMeasuredFlow m number options packets page.flow
  pub shows : Shows m options.shift (judged_parts m (numbered options.seq16 packets) options.shift) page.shown
