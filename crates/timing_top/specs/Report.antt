-- The output and status of `check`, by the contents of its inputs: the report, as a function of the media of the SDP
-- and of the packet records of the captures. No definition depends on the number of workers. Media count from 0.
use Rattle.std.specs.Prelude.{◌≡◌, if◌then◌else◌, true, ℕ, List, map, Some}
use Rattle.timing_base.specs.Captures.{Record}
use Rattle.timing_base.specs.Choices.{chosen, first_chosen, row_from}
use Rattle.timing_base.specs.Jobs.{CheckJob}
use Rattle.timing_base.specs.Media.{Media}
use Rattle.timing_base.specs.declared.capture.FileNote.{FileNote}
use Rattle.timing_base.specs.declared.row.Row.{Row}
use Rattle.fail_interval.specs.Rows.{rows_over}
use Rattle.timing_report.specs.json_report.Json.{json_text}
use Rattle.timing_report.specs.Outcomes.{status_of}
use Rattle.timing_report.specs.Text.{report_text}
use Rattle.timing_steps.specs.Answers.{Answer}
use Rattle.timing_steps.specs.Flows.{no_choice}
use Rattle.timing_steps.specs.Queries.{HasAnswer, Query}

-- the results of a job over the media of an SDP: one for each file and each media that is judged; if the captures are
-- joined, one for each media that is judged, with file 0. A chosen media keeps its number in the SDP
abbrev pub rows : CheckJob → List Media → List (List Record) → List Row
rows job media files =
    map (row_from (first_chosen job.media)) (rows_over job.joined job.options (chosen job.media media) files)

-- the same job for one chosen media
abbrev pub with_choice : ℕ → CheckJob → CheckJob
with_choice number job = record job { media = Some number }

-- the report as text or as JSON
abbrev pub printed : CheckJob → List Media → List FileNote → List Row → List ℕ
printed job media notes rows = if job.json then json_text job media notes rows else report_text job media notes rows

-- the report of a job over these media, and the packet records of each capture, which end in this way
pub record DefinesReport (job : CheckJob) (media : List Media) (files : List (List Record)) (notes : List FileNote)
    (answer : Answer) : Type 0 where
  pub text_is : answer.text ≡ printed job media notes (rows job media files)
  pub status_is : answer.status ≡ status_of media notes (rows job media files)

-- what `check` asks: the report is over all captures, and over all media of the SDP or the chosen one. If the SDP
-- doesn't have it, the answer is settled. The status of a report may be 1
abbrev pub check_query : CheckJob → Query
check_query job = record {
  sdp = job.sdp;
  captures = job.captures;
  early = no_choice job.media;
  Defines = DefinesReport job;
  checks = true;
}

-- the report of a job over these media and captures with these contents
abbrev pub HasReport : CheckJob → List Media → (texts : List (List ℕ)) → Answer → Type 0
HasReport job media texts answer = HasAnswer (check_query job) media texts answer
