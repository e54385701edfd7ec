-- The output and status of `scan`, by the contents of its capture: the streams of the capture and what else it
-- contains, as lines of text, as JSON (RFC 8259), or as the draft of an SDP (RFC 4566). One capture is read, and no
-- SDP. Packet records count from 1. This project's profile.
use Rattle.std.specs.Prelude.{◌≡◌, ◌^◌, ◌==◌, ◌||◌, if◌then◌else◌, ℕ, Bool, true, false, List, [], ◌∷◌, length, Result}
use Rattle.timing_base.specs.Captures.{Record}
use Rattle.timing_base.specs.Jobs.{ScanJob}
use Rattle.timing_base.specs.declared.capture.FileNote.{FileNote}
use Rattle.timing_base.specs.declared.job.ScanForm.{ScanForm}
use Rattle.timing_base.specs.declared.job.ScanForm.TheVariants.{Draft, Json, Lines}
use Rattle.pcap_reader.specs.Records.{Records}
use Rattle.capture_scan.specs.report.Contents.{Contents, contents}
use Rattle.capture_scan.specs.report.Draft.{draft_text, videos_of}
use Rattle.capture_scan.specs.report.Json.{json_text}
use Rattle.capture_scan.specs.report.Text.{contents_text}
use Rattle.capture_scan.specs.declared.report.draft.DraftVideo.{DraftVideo}
use Rattle.timing_report.specs.Outcomes.{is_refused}
use Rattle.timing_report.specs.declared.status.Input.{Input}
use Rattle.timing_report.specs.declared.status.Input.TheVariants as input
use Rattle.timing_report.specs.declared.status.Status.{Status}
use Rattle.timing_report.specs.declared.status.Status.TheVariants as status
use Rattle.timing_steps.specs.Answers.{Answer, Gives, HasRisen, Inputs, Yields}
use Rattle.timing_steps.specs.declared.failure.Failure.{Failure}
use Rattle.timing_reach.specs.Asked.{ReadsCapture}

-- 4 if there is no stream (in a draft: no video), or the capture was refused as malformed; else 0
abbrev pub scan_status : FileNote → (told : ℕ) → Status
scan_status note told = if (told == 0) || is_refused note then status.NotAllJudged else status.Pass

-- the answer with a draft of these videos; without a video the output is empty
abbrev pub drafted : FileNote → List DraftVideo → Answer
drafted note videos = record {
  text = if length videos == 0 then [] else draft_text videos;
  status = scan_status note (length videos);
}

-- the answer with this text, for a capture with this result
abbrev pub told : FileNote → Contents → List ℕ → Answer
told note c text = record { text = text; status = scan_status note (length c.streams) }

-- the answer in each form, for a capture with this name that ends in this way and has this result
abbrev pub scanned : ScanForm → (name : List ℕ) → FileNote → Contents → Answer
scanned Lines name note c = told note c (contents_text (name ∷ []) (note ∷ []) c)
scanned Json name note c = told note c (json_text name note c)
scanned Draft name note c = drafted note (videos_of c.streams)

-- the answer of `scan`, over a classic capture with these contents
pub record HasScan (job : ScanJob) (text : List ℕ) (answer : Answer) : Type 0 where
  pub items : List Record
  pub note : FileNote
  pub records : Records text (2 ^ 40) items note
  pub answer_is : answer ≡ scanned job.form job.capture note (contents items)

-- `scan` reads the capture
abbrev pub FollowsScan : ScanJob → Inputs → Result Answer Failure → Type 0
FollowsScan job i outcome =
    Yields outcome (ReadsCapture i outcome job.capture (λ text. Gives outcome (HasScan job text)))

-- the count of faults of the name of this input rose; there is one input, the capture
abbrev pub ScanInputRose : ScanJob → Inputs → Input → Type 0
ScanInputRose job i (input.Capture number) = (number ≡ 0) × HasRisen i job.capture
ScanInputRose job i input.Sdp = ⊥
ScanInputRose job i input.Report = ⊥

-- the statuses of the answers of `scan`: 0 or 4
abbrev pub scan_ends : Status → Bool
scan_ends status.Pass = true
scan_ends status.NotAllJudged = true
scan_ends ends = false
