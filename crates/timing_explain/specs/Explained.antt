-- The output and status of `explain`, by the contents of its inputs: what is wrong with the flow of each media of a
-- session, or of one that is chosen (`--media`), and what to do, as lines of text or as JSON (RFC 8259). They are of
-- one capture, or of several that are taken as one (`--joined`). The SDP is read first, then the captures. Media count
-- from 0, and packet records from 1. This project's profile.
use Rattle.std.specs.Prelude.{◌≡◌, if◌then◌else◌, true, Bool, ℕ, List, map}
use Rattle.timing_base.specs.Shifts.{FlowOptions}
use Rattle.timing_base.specs.Captures.{Record, joined}
use Rattle.timing_base.specs.Choices.{chosen, first_chosen}
use Rattle.timing_base.specs.Jobs.{ExplainJob}
use Rattle.timing_base.specs.Media.{Media}
use Rattle.timing_base.specs.declared.capture.FileNote.{FileNote}
use Rattle.capture_scan.specs.report.Contents.{Contents, contents}
use Rattle.flow_findings.specs.Findings.{explained}
use Rattle.flow_findings.specs.Statuses.{explained_status}
use Rattle.flow_findings.specs.declared.explained.Explained.{Explained}
use Rattle.flow_findings.specs.declared.inputs.KnownCaptures.{KnownCaptures}
use Rattle.flow_findings.specs.declared.inputs.KnownFlow.{KnownFlow}
use Rattle.findings_report.specs.Json.{explained_json}
use Rattle.findings_report.specs.Text.{explained_text}
use Rattle.timing_steps.specs.Answers.{Answer}
use Rattle.timing_steps.specs.Flows.{no_choice}
use Rattle.timing_steps.specs.Queries.{Query}
use Rattle.udp_rtp.specs.Flow.{flow}
use Rattle.timing_measure.specs.Each.{EachOf}
use Rattle.timing_explain.specs.Known.{IsKnownFlow}
use Rattle.timing_explain.specs.Micros.{are_whole}

-- what is known of the flow of each of these media, which count from `first` on, in these packet records
abbrev pub AreKnown : FlowOptions → (first : ℕ) → List Media → List Record → List KnownFlow → Type 0
AreKnown options first media items flows =
    EachOf (λ number m f. IsKnownFlow m number options (flow items m) f) first media flows

-- what is known of captures with these contents as a whole
abbrev pub with_contents : Contents → (whole seq16 : Bool) → KnownCaptures
with_contents c whole seq16 = record {
  records = c.records;
  passed_over = c.passed_over;
  streams = c.streams;
  whole_microseconds = whole;
  seq16 = seq16;
}

-- what is known of captures with these packet records
abbrev pub known_captures : (seq16 : Bool) → List Record → KnownCaptures
known_captures seq16 items = with_contents (contents items) (are_whole items) seq16

-- the findings as lines of text, or as JSON if the job asks for it
abbrev pub printed : ExplainJob → List Media → List FileNote → List Explained → List ℕ
printed job media notes flows =
    if job.json then explained_json job.flows.captures notes media flows
    else explained_text job.flows.captures notes media flows

-- the answer over this session, for captures that end in these ways, and these flows
abbrev pub explained_answer : ExplainJob → List Media → List FileNote → KnownCaptures → List KnownFlow → Answer
explained_answer job media notes c flows = record {
  text = printed job media notes (map (explained media c) flows);
  status = explained_status media notes flows;
}

-- the answer of `explain` for a session, over the packet records of all captures as one, which end in these ways
pub record DefinesExplained (job : ExplainJob) (media : List Media) (items : List Record) (notes : List FileNote)
    (answer : Answer) : Type 0 where
  pub flows : List KnownFlow
  pub are : AreKnown job.flows.options (first_chosen job.flows.media) (chosen job.flows.media media) items flows
  pub answer_is : answer
      ≡ explained_answer job media notes (known_captures job.flows.options.seq16 items) flows

-- what `explain` asks: the answer is over all media of the SDP, or over the chosen one. If the SDP doesn't have it, the
-- answer is settled. The status may be 1
abbrev pub explain_query : ExplainJob → Query
explain_query job = record {
  sdp = job.flows.sdp;
  captures = job.flows.captures;
  early = no_choice job.flows.media;
  Defines = λ media files notes answer. DefinesExplained job media (joined files) notes answer;
  checks = true;
}
