-- What is known of the flow of a media, by its packets: its verdict, and the longest of its judged runs, which is
-- shown. Media and packets count from 0. Capture timestamps are nanoseconds of TAI, after the shift (`--tai`,
-- `--delay`). This project's profile.
use Rattle.std.specs.Prelude.{◌≡◌, ℕ, List, [], length, Option, Some, None}
use Rattle.timing_base.specs.Shifts.{FlowOptions, Shift}
use Rattle.timing_base.specs.Judged.{judged}
use Rattle.timing_base.specs.Media.{Media}
use Rattle.timing_base.specs.Numbered.{numbered}
use Rattle.timing_base.specs.declared.packet.FlowPacket.{FlowPacket}
use Rattle.run_meter.specs.Runs.{JudgedPart}
use Rattle.fail_interval.specs.Parts.{judged_parts}
use Rattle.fail_interval.specs.Row.{verdict_of}
use Rattle.flow_measure.specs.Measured.{HasNumbers, IsMeasuredRun}
use Rattle.flow_page.specs.drawing.Told.{IsLongest}
use Rattle.flow_findings.specs.declared.inputs.KnownFlow.{KnownFlow}
use Rattle.flow_findings.specs.declared.inputs.ShownRun.{ShownRun}
use Rattle.timing_explain.specs.details.Told.{AreDetailsOf}

-- a judged run of a media, as it is shown
pub record IsShownRun (m : Media) (shift : Shift) (part : JudgedPart) (s : ShownRun) : Type 0 where
  pub run_is : IsMeasuredRun (HasNumbers m shift) part s.run
  pub details_are : AreDetailsOf m shift part s.details

-- the longest of the judged runs of a flow is shown; without a judged run, none
abbrev pub Shows : Media → Shift → List JudgedPart → Option ShownRun → Type 0
Shows m shift parts None = parts ≡ []
Shows m shift parts (Some s) = (part : JudgedPart) × IsLongest parts part × IsShownRun m shift part s

-- what is known of the flow with these packets, of the media with this number
pub record IsKnownFlow (m : Media) (number : ℕ) (options : FlowOptions) (packets : List FlowPacket) (flow : KnownFlow)
    : Type 0 where
  pub media_is : flow.media ≡ number
  pub count : flow.packets ≡ length packets
  pub verdict_is : flow.verdict ≡ verdict_of m (judged packets m.pt options)
  pub shows : Shows m options.shift (judged_parts m (numbered options.seq16 packets) options.shift) flow.shown
