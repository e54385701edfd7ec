-- The result of a flow that has ended. `tells` relates the output of the meters of its runs to the runs.
use Rattle.std.specs.Prelude.{◌≡◌, ℕ, true, List, [], length, Option}
use Rattle.timing_base.specs.Shifts.{FlowOptions, Shift}
use Rattle.timing_base.specs.Judged.{judged}
use Rattle.timing_base.specs.Media.{Media}
use Rattle.timing_base.specs.declared.packet.FlowPacket.{FlowPacket}
use Rattle.timing_base.specs.declared.row.Verdict.{Verdict}
use Rattle.timing_base.specs.declared.row.Verdict.TheVariants as verdict
use Rattle.run_meter.specs.Runs.{JudgedPart, OpenPart}
use Rattle.fail_interval.specs.Measured.{TellsOfAll}
use Rattle.fail_interval.specs.Metered.{Telling}
use Rattle.fail_interval.specs.Row.{verdict_of}
use Rattle.flow_demux.specs.declared.media_flow.MediaFlow.{MediaFlow}
use Rattle.flow_measure.specs.Measured.{AreMeasured, HasNumbers}
use Rattle.flow_measure.specs.RunStands.{StandsFor as NumbersStandsFor}
use Rattle.flow_measure.specs.declared.numbers.MeasuredFlow.{MeasuredFlow}
use Rattle.flow_measure.specs.declared.numbers.MeasuredRun.{MeasuredRun}
use Rattle.flow_measure.specs.declared.numbers_meter.MeasuredRuns.{MeasuredRuns}
use Rattle.flow_measure.specs.declared.numbers_meter.NumbersMeter.{NumbersMeter}
use Rattle.timing_measure.specs.Measured.{IsMeasuredFlow, first_source}
use Rattle.timing_measure.specs.flows.Meters.{StandsFor}
use Rattle.timing_measure.specs.declared.flows.flow.FlowEnd.{FlowEnd}
use Rattle.timing_measure.specs.declared.flows.flow.FlowMeter.{FlowMeter}

-- the result of the flow with these packets, of the media with this number
pub record IsEndOf {Past O : Type 0} (tells : Telling Past O) (past : Past) (m : Media) (number : ℕ)
    (options : FlowOptions) (packets : List FlowPacket) (end : FlowEnd O) : Type 0 where
  pub media : end.media ≡ number
  pub count : end.packets ≡ length packets
  pub source : end.ssrc ≡ first_source packets
  pub verdict_is : end.verdict ≡ verdict_of m (judged packets m.pt options)
  pub told : TellsOfAll tells past m options packets end.out

-- the output has the numbers of the judged runs
abbrev pub TellsNumbers : Unit {0} → MeasuredRuns → Media → Shift → List JudgedPart → Option OpenPart → Type 0
TellsNumbers past out m shift over part = AreMeasured (HasNumbers m shift) over out.runs.items

-- the result of a flow with meters that write these numbers
abbrev pub IsMeasuredEnd : Media → (number : ℕ) (options : FlowOptions) → List FlowPacket → FlowEnd MeasuredRuns
    → Type 0
IsMeasuredEnd m number options packets end = IsEndOf TellsNumbers tt m number options packets end

-- the measured runs; none if the flow isn't judged
abbrev pub judged_alone : Verdict → List MeasuredRun → List MeasuredRun
judged_alone (verdict.Unjudged why) runs = []
judged_alone (verdict.Judged judged) runs = runs
judged_alone (verdict.Runs found) runs = runs

-- the numbers of a flow, from its taker at the end of the capture
abbrev pub EndsMeasured : MediaFlow (FlowMeter NumbersMeter MeasuredRuns) → MeasuredFlow → Type 0
EndsMeasured f measured = (m : Media) (number : ℕ) (options : FlowOptions) (packets : List FlowPacket)
    → StandsFor true NumbersStandsFor TellsNumbers tt m number options f.taker packets
    → IsMeasuredFlow m number options packets measured
