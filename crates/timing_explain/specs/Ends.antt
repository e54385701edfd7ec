-- What is known of a flow that has ended. Runs count from 1.
use Rattle.std.specs.Prelude.{◌≡◌, ℕ, ⊤, true, All, List, Option, Some, None}
use Rattle.timing_base.specs.Shifts.{FlowOptions, Shift}
use Rattle.timing_base.specs.Media.{Media}
use Rattle.timing_base.specs.declared.packet.FlowPacket.{FlowPacket}
use Rattle.timing_base.specs.declared.row.Verdict.{Verdict}
use Rattle.timing_base.specs.declared.row.Verdict.TheVariants as verdict
use Rattle.run_meter.specs.Runs.{JudgedPart, OpenPart, RunOf}
use Rattle.run_meter.specs.declared.pair.Pair.{Pair}
use Rattle.flow_demux.specs.declared.media_flow.MediaFlow.{MediaFlow}
use Rattle.flow_findings.specs.declared.inputs.KnownFlow.{KnownFlow}
use Rattle.flow_findings.specs.declared.inputs.ShownRun.{ShownRun}
use Rattle.flow_measure.specs.RunStands.{StandsFor as NumbersStandsFor}
use Rattle.flow_measure.specs.declared.numbers.MeasuredRun.{MeasuredRun}
use Rattle.flow_measure.specs.declared.numbers_meter.MeasuredRuns.{MeasuredRuns}
use Rattle.flow_measure.specs.declared.numbers_meter.NumbersMeter.{NumbersMeter}
use Rattle.timing_measure.specs.flows.Ends.{IsEndOf, TellsNumbers}
use Rattle.timing_measure.specs.flows.Meters.{StandsFor}
use Rattle.timing_measure.specs.page.Ends.{IsRunOf}
use Rattle.timing_measure.specs.declared.flows.flow.FlowEnd.{FlowEnd}
use Rattle.timing_measure.specs.declared.flows.flow.FlowMeter.{FlowMeter}
use Rattle.timing_explain.specs.Known.{IsKnownFlow}
use Rattle.timing_explain.specs.details.Stands.{StandsFor as DetailsStandsFor}
use Rattle.timing_explain.specs.details.Told.{Finds}
use Rattle.timing_explain.specs.declared.details.longest.FoundRun.{FoundRun}
use Rattle.timing_explain.specs.declared.details.longest.LongestFound.{LongestFound}
use Rattle.timing_explain.specs.declared.details.meter.DetailsMeter.{DetailsMeter}

-- both meters of a run were fed these packets
abbrev pub PairStandsFor : Pair NumbersMeter DetailsMeter → Media → Shift → RunOf
    → (fed committed : List FlowPacket) → Type 0
PairStandsFor x m shift r fed committed =
    NumbersStandsFor x.first m shift r fed committed × DetailsStandsFor x.second m shift r fed committed

-- the outputs of both meters have the results of the runs
abbrev pub TellsPair : Unit {0} × Unit {0} → MeasuredRuns × LongestFound → Media → Shift → List JudgedPart
    → Option OpenPart → Type 0
TellsPair past out m shift over part =
    TellsNumbers past.0 out.0 m shift over part × Finds m shift over out.1.found

-- the result of a flow with meters that write numbers and details
abbrev pub IsExplainEnd : Media → (number : ℕ) (options : FlowOptions) → List FlowPacket
    → FlowEnd (MeasuredRuns × LongestFound) → Type 0
IsExplainEnd m number options packets end = IsEndOf TellsPair (tt, tt) m number options packets end

-- what is known of a flow, from its taker at the end of the capture
abbrev pub EndsKnown : MediaFlow (FlowMeter (Pair NumbersMeter DetailsMeter) (MeasuredRuns × LongestFound))
    → KnownFlow → Type 0
EndsKnown f known = (m : Media) (number : ℕ) (options : FlowOptions) (packets : List FlowPacket)
    → StandsFor true PairStandsFor TellsPair (tt, tt) m number options f.taker packets
    → IsKnownFlow m number options packets known

-- the run that has details, with these numbers
pub record IsShownOf (f : FoundRun) (run : MeasuredRun) (s : ShownRun) : Type 0 where
  pub run_is : s.run ≡ run
  pub details_are : s.details ≡ f.details

-- the run that has details is shown, if there is one and it is among these
abbrev pub HasRunOf : Option FoundRun → List MeasuredRun → Option ShownRun → Type 0
HasRunOf None runs None = ⊤
HasRunOf None runs (Some s) = ⊥
HasRunOf (Some f) runs None = All (λ (run : MeasuredRun). run.run ≡ f.run → ⊥) runs
HasRunOf (Some f) runs (Some s) = (run : MeasuredRun) × IsRunOf runs f.run run × IsShownOf f run s

-- the run that is shown; none if the flow isn't judged
abbrev pub shown_alone : Verdict → Option ShownRun → Option ShownRun
shown_alone (verdict.Unjudged why) shown = None
shown_alone (verdict.Judged judged) shown = shown
shown_alone (verdict.Runs runs) shown = shown
