-- The output and status of `page`, by the contents of its inputs: the report of one capture, or of several that are
-- taken as one (`--joined`), as one page (HTML Standard, with SVG 2 inside), over all media of a session or over one
-- that is chosen (`--media`). The SDP is read first, then the captures. Capture timestamps are nanoseconds of TAI,
-- after the shift (`--tai`, `--delay`); media count from 0, and packet records from 1. This project's profile.
use Rattle.std.specs.Prelude.{◌≡◌, ◌&&◌, if◌then◌else◌, not, ℕ, Bool, List}
use Rattle.std.specs.List.{list_any}
use Rattle.timing_base.specs.Shifts.{FlowOptions, Shift}
use Rattle.timing_base.specs.Captures.{Record}
use Rattle.timing_base.specs.Choices.{chosen, first_chosen}
use Rattle.timing_base.specs.Jobs.{CaptureJob}
use Rattle.timing_base.specs.Media.{Media}
use Rattle.timing_base.specs.declared.capture.FileNote.{FileNote}
use Rattle.flow_page.specs.Page.{page_of}
use Rattle.flow_page.specs.declared.shown.FlowPage.{FlowPage}
use Rattle.capture_scan.specs.report.Contents.{Contents, contents}
use Rattle.capture_scan.specs.report.Text.{contents_text}
use Rattle.timing_measure.specs.Each.{EachOf}
use Rattle.timing_measure.specs.Measures.{has_run}
use Rattle.timing_report.specs.Outcomes.{is_refused}
use Rattle.timing_report.specs.declared.status.Status.{Status}
use Rattle.timing_report.specs.declared.status.Status.TheVariants as status
use Rattle.timing_steps.specs.Answers.{Answer}
use Rattle.timing_steps.specs.Flows.{capture_query}
use Rattle.timing_steps.specs.Queries.{Query}
use Rattle.udp_rtp.specs.Flow.{flow}
use Rattle.timing_measure.specs.page.Shown.{IsFlowPage}

-- the part of a page for the flow of each of these media, which count from `first` on, in these packet records
abbrev pub ArePages : FlowOptions → (first : ℕ) → List Media → List Record → List FlowPage → Type 0
ArePages options first media items pages =
    EachOf (λ number m page. IsFlowPage m number options (flow items m) page) first media pages

-- the flow has a judged run
abbrev pub is_judged : FlowPage → Bool
is_judged page = has_run page.flow

-- 0 if a run is judged, and no capture was refused as malformed; else 4
abbrev pub page_status : List FileNote → List FlowPage → Status
page_status notes pages =
    if list_any is_judged pages && not (list_any is_refused notes) then status.Pass else status.NotAllJudged

-- the answer for captures with these names that end in these ways, with these flows of a session and this result of a
-- scan
abbrev pub paged : (names : List (List ℕ)) → List FileNote → Shift → List Media → List FlowPage → Contents → Answer
paged names notes shift media pages c = record {
  text = page_of names notes shift media pages (contents_text names notes c);
  status = page_status notes pages;
}

-- the answer of `page` for a session, over the packet records of all captures as one, which end in these ways
pub record DefinesPage (job : CaptureJob) (media : List Media) (items : List Record) (notes : List FileNote)
    (answer : Answer) : Type 0 where
  pub pages : List FlowPage
  pub are : ArePages job.options (first_chosen job.media) (chosen job.media media) items pages
  pub answer_is : answer ≡ paged job.captures notes job.options.shift media pages (contents items)

-- what `page` asks: the answer is over all media of the SDP, or over the chosen one if the SDP has it
abbrev pub page_query : CaptureJob → Query
page_query job = capture_query job (DefinesPage job)
