-- What the commands on captures that are taken as one ask: those on the flow of one media, and those on all media of
-- the SDP or on a chosen one. Media count from 0. This project's profile.
use Rattle.std.specs.Prelude.{List, ◌++◌, slice_get, Option, Some, None, codes, false, ℕ}
use Rattle.timing_base.specs.Captures.{Record, joined}
use Rattle.timing_base.specs.Jobs.{CaptureJob, FlowJob}
use Rattle.timing_base.specs.Media.{Media}
use Rattle.timing_base.specs.declared.capture.FileNote.{FileNote}
use Rattle.timing_base.specs.declared.row.Verdict.{Verdict}
use Rattle.timing_report.specs.Verdict.{verdict_text}
use Rattle.timing_report.specs.declared.status.Status.TheVariants as status
use Rattle.timing_steps.specs.Answers.{Answer}
use Rattle.timing_steps.specs.Queries.{Query}

-- the answer if the SDP doesn't have the media
abbrev pub no_such_media : Answer
no_such_media = record { text = codes "no such media\n"; status = status.NotAllJudged }

-- the answer is settled if the SDP doesn't have the media
abbrev pub no_media : Option Media → Option Answer
no_media None = Some no_such_media
no_media (Some m) = None

-- the answer is settled if the SDP doesn't have the chosen media
abbrev pub no_choice : (only : Option ℕ) → List Media → Option Answer
no_choice None media = None
no_choice (Some number) media = no_media (slice_get media number)

-- `next` holds of the media, if the SDP has it
abbrev pub OnMedia : Option Media → (next : Media → Type 0) → Type 0
OnMedia None next = ⊥
OnMedia (Some m) next = next m

-- `not judged: VERDICT`, with the newline
abbrev pub not_judged : Media → Verdict → Answer
not_judged m verdict =
    record { text = codes "not judged: " ++ (verdict_text m verdict ++ codes "\n"); status = status.NotAllJudged }

-- what a command on one flow asks. `Has` is which answers the media, the packet records of all captures as one, and
-- their ends define
abbrev pub flow_query : FlowJob → (Has : Media → List Record → List FileNote → Answer → Type 0) → Query
flow_query job Has = record {
  sdp = job.sdp;
  captures = job.captures;
  early = λ media. no_media (slice_get media job.media);
  Defines = λ media files notes answer. OnMedia (slice_get media job.media) (λ m. Has m (joined files) notes answer);
  checks = false;
}

-- what a command on all flows of captures asks, or on the flow of a chosen media. `Has` is which answers the media of
-- the whole SDP, the packet records of all captures as one, and their ends define
abbrev pub capture_query : CaptureJob → (Has : List Media → List Record → List FileNote → Answer → Type 0) → Query
capture_query job Has = record {
  sdp = job.sdp;
  captures = job.captures;
  early = no_choice job.media;
  Defines = λ media files notes answer. Has media (joined files) notes answer;
  checks = false;
}
