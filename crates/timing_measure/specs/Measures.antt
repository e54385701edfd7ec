-- The output and status of `measure`, by the contents of its inputs: the numbers of every judged run of every media of
-- a session, or of one that is chosen (`--media`), as JSON (RFC 8259). They are of one capture, or of several that are
-- taken as one (`--joined`). The SDP is read first, then the captures. Capture timestamps are nanoseconds of TAI, after
-- the shift (`--tai`, `--delay`); media count from 0, and packet records from 1. This project's profile.
use Rattle.std.specs.Prelude.{◌≡◌, ◌&&◌, if◌then◌else◌, ℕ, Bool, not, nat_lt, List, length, map}
use Rattle.std.specs.List.{list_any}
use Rattle.timing_base.specs.Shifts.{FlowOptions}
use Rattle.timing_base.specs.Captures.{Record}
use Rattle.timing_base.specs.Choices.{chosen, first_chosen}
use Rattle.timing_base.specs.Jobs.{CaptureJob}
use Rattle.timing_base.specs.Media.{Media}
use Rattle.timing_base.specs.declared.capture.FileNote.{FileNote}
use Rattle.flow_measure.specs.declared.numbers.MeasuredFlow.{MeasuredFlow}
use Rattle.flow_measure.specs.report.Json.{measure_json}
use Rattle.flow_measure.specs.report.Told.{flow_told}
use Rattle.timing_report.specs.Outcomes.{is_refused}
use Rattle.timing_report.specs.declared.status.Status.{Status}
use Rattle.timing_report.specs.declared.status.Status.TheVariants as status
use Rattle.timing_steps.specs.Answers.{Answer}
use Rattle.timing_steps.specs.Flows.{capture_query}
use Rattle.timing_steps.specs.Queries.{Query}
use Rattle.udp_rtp.specs.Flow.{flow}
use Rattle.timing_measure.specs.Each.{EachOf}
use Rattle.timing_measure.specs.Measured.{IsMeasuredFlow}

-- the numbers of the flow of each of these media, which count from `first` on, in these packet records
abbrev pub AreFlows : FlowOptions → (first : ℕ) → List Media → List Record → List MeasuredFlow → Type 0
AreFlows options first media items flows =
    EachOf (λ number m f. IsMeasuredFlow m number options (flow items m) f) first media flows

-- the flow has a judged run
abbrev pub has_run : MeasuredFlow → Bool
has_run f = nat_lt 0 (length f.runs)

-- 0 if a run is judged, and no capture was refused as malformed; else 4
abbrev pub measure_status : List FileNote → List MeasuredFlow → Status
measure_status notes flows =
    if list_any has_run flows && not (list_any is_refused notes) then status.Pass else status.NotAllJudged

-- the answer for captures with these names that end in these ways, with these flows of a session
abbrev pub measured : (names : List (List ℕ)) → List FileNote → List Media → List MeasuredFlow → Answer
measured names notes media flows = record {
  text = measure_json names notes media (map flow_told flows);
  status = measure_status notes flows;
}

-- the answer of `measure` for a session, over the packet records of all captures as one, which end in these ways
pub record DefinesMeasure (job : CaptureJob) (media : List Media) (items : List Record) (notes : List FileNote)
    (answer : Answer) : Type 0 where
  pub flows : List MeasuredFlow
  pub are : AreFlows job.options (first_chosen job.media) (chosen job.media media) items flows
  pub answer_is : answer ≡ measured job.captures notes media flows

-- what `measure` asks: the answer is over all media of the SDP, or over the chosen one if the SDP has it
abbrev pub measure_query : CaptureJob → Query
measure_query job = capture_query job (DefinesMeasure job)
