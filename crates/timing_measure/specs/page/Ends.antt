-- The part of a page for a flow that has ended. Runs count from 1.
use Rattle.std.specs.Prelude.{◌≡◌, ℕ, ⊤, true, All, List, ◌∷◌, ◌++◌, Option, Some, None}
use Rattle.timing_base.specs.Shifts.{FlowOptions, Shift}
use Rattle.timing_base.specs.Media.{Media}
use Rattle.timing_base.specs.declared.packet.FlowPacket.{FlowPacket}
use Rattle.run_meter.specs.Runs.{JudgedPart, OpenPart, RunOf}
use Rattle.run_meter.specs.declared.pair.Pair.{Pair}
use Rattle.flow_demux.specs.declared.media_flow.MediaFlow.{MediaFlow}
use Rattle.flow_measure.specs.RunStands.{StandsFor as NumbersStandsFor}
use Rattle.flow_measure.specs.declared.numbers.MeasuredRun.{MeasuredRun}
use Rattle.flow_measure.specs.declared.numbers_meter.MeasuredRuns.{MeasuredRuns}
use Rattle.flow_measure.specs.declared.numbers_meter.NumbersMeter.{NumbersMeter}
use Rattle.flow_page.specs.drawing.Stands.{StandsFor as DrawingStandsFor}
use Rattle.flow_page.specs.drawing.Told.{Tells}
use Rattle.flow_page.specs.declared.drawing.longest.DrawnRun.{DrawnRun}
use Rattle.flow_page.specs.declared.drawing.longest.LongestRun.{LongestRun}
use Rattle.flow_page.specs.declared.drawing.meter.DrawingMeter.{DrawingMeter}
use Rattle.flow_page.specs.declared.shown.FlowPage.{FlowPage}
use Rattle.flow_page.specs.declared.shown.ShownRun.{ShownRun}
use Rattle.timing_measure.specs.flows.Ends.{IsEndOf, TellsNumbers}
use Rattle.timing_measure.specs.flows.Meters.{StandsFor}
use Rattle.timing_measure.specs.page.Shown.{IsFlowPage}
use Rattle.timing_measure.specs.declared.flows.flow.FlowEnd.{FlowEnd}
use Rattle.timing_measure.specs.declared.flows.flow.FlowMeter.{FlowMeter}

-- both meters of a run were fed these packets
abbrev pub PairStandsFor : Pair NumbersMeter DrawingMeter → Media → Shift → RunOf
    → (fed committed : List FlowPacket) → Type 0
PairStandsFor x m shift r fed committed =
    NumbersStandsFor x.first m shift r fed committed × DrawingStandsFor x.second m shift r fed committed

-- the outputs of both meters have the results of the runs
abbrev pub TellsPair : Unit {0} × Unit {0} → MeasuredRuns × LongestRun → Media → Shift → List JudgedPart
    → Option OpenPart → Type 0
TellsPair past out m shift over part = TellsNumbers past.0 out.0 m shift over part × Tells m shift over out.1

-- the result of a flow with meters that write numbers and drawings
abbrev pub IsPageEnd : Media → (number : ℕ) (options : FlowOptions) → List FlowPacket
    → FlowEnd (MeasuredRuns × LongestRun) → Type 0
IsPageEnd m number options packets end = IsEndOf TellsPair (tt, tt) m number options packets end

-- the part of a page for a flow, from its taker at the end of the capture
abbrev pub EndsPage : MediaFlow (FlowMeter (Pair NumbersMeter DrawingMeter) (MeasuredRuns × LongestRun)) → FlowPage
    → Type 0
EndsPage f page = (m : Media) (number : ℕ) (options : FlowOptions) (packets : List FlowPacket)
    → StandsFor true PairStandsFor TellsPair (tt, tt) m number options f.taker packets
    → IsFlowPage m number options packets page

-- this run is the first of these judged runs that has this number
pub record IsRunOf (runs : List MeasuredRun) (number : ℕ) (run : MeasuredRun) : Type 0 where
  pub before : List MeasuredRun
  pub after : List MeasuredRun
  pub whole : runs ≡ before ++ run ∷ after
  pub others : All (λ (other : MeasuredRun). other.run ≡ number → ⊥) before
  pub number_is : run.run ≡ number

-- the part of a page for the run that was drawn, which has these numbers
pub record IsShownOf (d : DrawnRun) (run : MeasuredRun) (s : ShownRun) : Type 0 where
  pub run_is : s.run ≡ run
  pub first_is : s.first_at ≡ d.first_at
  pub last_is : s.last_at ≡ d.last_at
  pub curves_are : s.curves ≡ d.curves
  pub regions_are : s.regions ≡ d.regions

-- the part of a page for the run that was drawn, if there is one and it is among these
abbrev pub HasRunOf : Option DrawnRun → List MeasuredRun → Option ShownRun → Type 0
HasRunOf None runs None = ⊤
HasRunOf None runs (Some s) = ⊥
HasRunOf (Some d) runs None = All (λ (run : MeasuredRun). run.run ≡ d.run → ⊥) runs
HasRunOf (Some d) runs (Some s) = (run : MeasuredRun) × IsRunOf runs d.run run × IsShownOf d run s
