-- The output and status of `watch`, by the contents of its inputs, which are the SDP and then the captures, as one: the
-- lines that each packet record adds, those that the end adds, and the report of `check`. Media count from 0. This
-- project's profile.
use Rattle.std.specs.Prelude.{◌≡◌, ◌+◌, ℕ, true, if◌then◌else◌, List, [], ◌∷◌, ◌++◌, codes, Option, Some, None}
use Rattle.std.specs.Option.{unwrap_or}
use Rattle.timing_base.specs.Captures.{Record, joined}
use Rattle.timing_base.specs.Choices.{chosen, first_chosen}
use Rattle.timing_base.specs.Jobs.{CheckJob, WatchJob}
use Rattle.timing_base.specs.Media.{Media}
use Rattle.timing_base.specs.declared.capture.FileNote.{FileNote}
use Rattle.timing_base.specs.declared.packet.FlowPacket.{FlowPacket}
use Rattle.timing_base.specs.declared.row.Row.{Row}
use Rattle.serde_json.specs.Written.{compact_text}
use Rattle.udp_rtp.specs.Flow.{flow, flow_packet}
use Rattle.fail_interval.specs.Rows.{rows_from}
use Rattle.flow_watch.specs.Watched.{per_second}
use Rattle.timing_report.specs.Outcomes.{status_of}
use Rattle.timing_report.specs.Text.{report_text}
use Rattle.timing_report.specs.json_report.Json.{report_data}
use Rattle.timing_steps.specs.Answers.{Answer}
use Rattle.timing_steps.specs.Flows.{no_choice}
use Rattle.timing_steps.specs.Queries.{Query}
use Rattle.timing_watch.specs.Watched.{AddsPacket, IsLeftEnd, Watching}

-- ---- the lines

-- the frames or fields of a complete stretch: as many as the job asks for, or those of one second
abbrev pub every_of : WatchJob → Media → ℕ
every_of job m = unwrap_or job.every (per_second m)

-- how the lines of the media with this number are made
abbrev pub watching_of : WatchJob → (number : ℕ) → Media → Watching
watching_of job number m = record {
  form = record { media = number; interlaced = m.interlaced; json = job.json };
  every = every_of job m;
}

-- what a packet record adds to the lines of a media, if it is a packet of its flow, after the records before
abbrev pub AddsIf : WatchJob → (number : ℕ) → Media → (before : List Record) → Option FlowPacket → List ℕ → Type 0
AddsIf job number m before None text = text ≡ []
AddsIf job number m before (Some p) text =
    AddsPacket (watching_of job number m) m job.flows.options (flow before m) p text

-- what a packet record adds to the lines of these media, the first of which has this number, in the order of the media
abbrev pub AddsRecord : WatchJob → (number : ℕ) → List Media → (before : List Record) → Record → List ℕ → Type 0
AddsRecord job number [] before r text = text ≡ []
AddsRecord job number (m ∷ media) before r text =
    (here : List ℕ) × (rest : List ℕ) × (text ≡ here ++ rest) × AddsIf job number m before (flow_packet m r) here
    × AddsRecord job (number + 1) media before r rest

-- the lines of packet records that follow those before
abbrev pub AreLinesAfter : WatchJob → (first : ℕ) → List Media → (before items : List Record) → List ℕ → Type 0
AreLinesAfter job first media before [] text = text ≡ []
AreLinesAfter job first media before (r ∷ items) text =
    (here : List ℕ) × (rest : List ℕ) × (text ≡ here ++ rest) × AddsRecord job first media before r here
    × AreLinesAfter job first media (before ++ r ∷ []) items rest

-- the lines of packet records
abbrev pub AreLines : WatchJob → (first : ℕ) → List Media → List Record → List ℕ → Type 0
AreLines job first media items text = AreLinesAfter job first media [] items text

-- what the end adds to the lines of these media, the first of which has this number, in the order of the media
abbrev pub AreLeft : WatchJob → (number : ℕ) → List Media → List Record → List ℕ → Type 0
AreLeft job number [] items text = text ≡ []
AreLeft job number (m ∷ media) items text =
    (here : List ℕ) × (rest : List ℕ) × (text ≡ here ++ rest)
    × IsLeftEnd (watching_of job number m) m job.flows.options (flow items m) here
    × AreLeft job (number + 1) media items rest

-- ---- the report

-- the job of `check` on one thread, over the same captures and media
abbrev pub check_of : WatchJob → CheckJob
check_of job = record {
  sdp = job.flows.sdp;
  captures = job.flows.captures;
  workers = 0;
  options = job.flows.options;
  json = job.json;
  joined = job.flows.joined;
  media = job.flows.media;
}

-- the line `end` and the report of `check`, or the object of both
abbrev pub end_text : WatchJob → List Media → List FileNote → List Row → List ℕ
end_text job session notes rows =
    let object = compact_text (report_data (check_of job) session notes rows) in
    if job.json then codes "{\"event\":\"end\",\"report\":" ++ (object ++ codes "}\n")
    else codes "end\n" ++ report_text (check_of job) session notes rows

-- the results of the media that are judged, over the packet records of all captures as one
abbrev pub rows_of_job : WatchJob → (session : List Media) → List Record → List Row
rows_of_job job session items =
    rows_from job.flows.options 0 (first_chosen job.flows.media) (chosen job.flows.media session) items

-- ---- the whole

-- the answer of `watch` over the media of an SDP, and over the packet records of all captures as one, which end in
-- these ways
pub record DefinesWatch (job : WatchJob) (session : List Media) (items : List Record) (notes : List FileNote)
    (answer : Answer) : Type 0 where
  pub lines : List ℕ
  pub left : List ℕ
  pub lines_are : AreLines job (first_chosen job.flows.media) (chosen job.flows.media session) items lines
  pub left_are : AreLeft job (first_chosen job.flows.media) (chosen job.flows.media session) items left
  pub text_is : answer.text ≡ lines ++ (left ++ end_text job session notes (rows_of_job job session items))
  pub status_is : answer.status ≡ status_of session notes (rows_of_job job session items)

-- what `watch` asks. If the SDP doesn't have the chosen media, the answer is settled. The status of the report may be 1
abbrev pub watch_query : WatchJob → Query
watch_query job = record {
  sdp = job.flows.sdp;
  captures = job.flows.captures;
  early = no_choice job.flows.media;
  Defines = λ session files notes answer. DefinesWatch job session (joined files) notes answer;
  checks = true;
}
