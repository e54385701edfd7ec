-- The drawing of the longest of the judged runs of a flow that are complete. Runs count from 1, packets from 0. Capture
-- timestamps are nanoseconds of TAI, after the shift of the flow. The choice of the run is this project's own.
use Rattle.std.specs.Prelude.{◌≡◌, ◌-◌, ◌≤◌, ◌<◌, All, List, [], ◌∷◌, ◌++◌, length, slice_index, Option, Some, None}
use Rattle.timing_base.specs.Shifts.{Shift}
use Rattle.timing_base.specs.Media.{Media}
use Rattle.run_meter.specs.Runs.{JudgedPart, stamps_of}
use Rattle.flow_measure.specs.Packets.{timestamps_of}
use Rattle.flow_page.specs.drawing.Drawn.{AreCurves, AreRegions}
use Rattle.flow_page.specs.declared.drawing.longest.DrawnRun.{DrawnRun}
use Rattle.flow_page.specs.declared.drawing.longest.LongestRun.{LongestRun}

-- the run with the most judged packets; of equal ones the first
pub record IsLongest (parts : List JudgedPart) (part : JudgedPart) : Type 0 where
  pub before : List JudgedPart
  pub after : List JudgedPart
  pub whole : parts ≡ before ++ part ∷ after
  pub fewer : All (λ (other : JudgedPart). length other.packets < length part.packets) before
  pub no_more : All (λ (other : JudgedPart). length other.packets ≤ length part.packets) after

-- the drawing of a judged run of a media
pub record IsDrawn (m : Media) (shift : Shift) (part : JudgedPart) (d : DrawnRun) : Type 0 where
  pub run_is : d.run ≡ part.number
  pub packets_are : d.packets ≡ length part.packets
  pub first_is : d.first_at ≡ slice_index (stamps_of shift part.packets) 0
  pub last_is : d.last_at ≡ slice_index (stamps_of shift part.packets) (length part.packets - 1)
  pub curves : AreCurves m part.values.n part.values.frames (stamps_of shift part.packets) (timestamps_of part.packets)
      d.curves
  pub regions : AreRegions m part.values.n (stamps_of shift part.packets) 0 part.values.kinds d.regions

-- the drawing of the longest of these judged runs; none if there is no run
abbrev pub Draws : Media → (shift : Shift) → List JudgedPart → Option DrawnRun → Type 0
Draws m shift parts None = parts ≡ []
Draws m shift parts (Some d) = (part : JudgedPart) × IsLongest parts part × IsDrawn m shift part d

-- the drawing that is kept for these judged runs
abbrev pub Tells : Media → (shift : Shift) → List JudgedPart → LongestRun → Type 0
Tells m shift parts longest = Draws m shift parts longest.drawn
