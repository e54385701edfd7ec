-- The details of the longest of the judged runs of a flow that are complete. Runs count from 1. The choice of the run
-- is this project's own.
use Rattle.std.specs.Prelude.{◌≡◌, List, [], length, Option, Some, None}
use Rattle.timing_base.specs.Shifts.{Shift}
use Rattle.timing_base.specs.Media.{Media}
use Rattle.run_meter.specs.Runs.{JudgedPart, stamps_of}
use Rattle.flow_findings.specs.Details.{AreDetails}
use Rattle.flow_findings.specs.declared.inputs.RunDetails.{RunDetails}
use Rattle.flow_measure.specs.Packets.{records_of}
use Rattle.flow_page.specs.drawing.Told.{IsLongest}
use Rattle.timing_explain.specs.declared.details.longest.FoundRun.{FoundRun}

-- the details of a judged run of a media
abbrev pub AreDetailsOf : Media → (shift : Shift) → JudgedPart → RunDetails → Type 0
AreDetailsOf m shift part d =
    AreDetails m part.values.n part.values.frames (stamps_of shift part.packets) (records_of part.packets) d

-- the run with its details
pub record IsFoundRun (m : Media) (shift : Shift) (part : JudgedPart) (f : FoundRun) : Type 0 where
  pub run_is : f.run ≡ part.number
  pub packets_are : f.packets ≡ length part.packets
  pub details_are : AreDetailsOf m shift part f.details

-- the longest of these judged runs; none if there is no run
abbrev pub Finds : Media → (shift : Shift) → List JudgedPart → Option FoundRun → Type 0
Finds m shift parts None = parts ≡ []
Finds m shift parts (Some f) = (part : JudgedPart) × IsLongest parts part × IsFoundRun m shift part f
