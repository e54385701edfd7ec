-- The finding on a claimed violation of a run: its interval breaks the limit that it names (SMPTE ST 2110-21), it
-- doesn't, or the flow or the run isn't judged.
use Rattle.std.specs.Prelude.{ℕ, Bool, List, Result}
use Rattle.timing_base.specs.Shifts.{FlowOptions}
use Rattle.timing_base.specs.Captures.{Record, joined}
use Rattle.timing_base.specs.Judged.{judged}
use Rattle.timing_base.specs.Media.{Media}
use Rattle.timing_base.specs.declared.capture.FileNote.{FileNote}
use Rattle.timing_base.specs.declared.row.Unjudged.{Unjudged}
use Rattle.pcap_reader.specs.Records.{AreRecords}
use Rattle.udp_rtp.specs.Flow.{flow}
use Rattle.interval_checker.specs.Checked.{Says}
use Rattle.timing_report.specs.declared.json_report.reading.ReportProof.{ReportProof}

-- the packet records of captures, as one capture, have this finding on a violation that is claimed of a media, whose
-- flow has these options
abbrev pub FindsIn : (media : Media) → (claim : ReportProof) → (options : FlowOptions) → List (List Record)
    → Result Bool Unjudged → Type 0
FindsIn media claim options files finding =
    Says media claim.kind claim.proof claim.run (judged (flow (joined files) media) media.pt options) finding

-- captures with these contents, as one capture, have this finding on a violation that is claimed of a media
pub record Finds (media : Media) (claim : ReportProof) (options : FlowOptions) (texts : List (List ℕ))
    (finding : Result Bool Unjudged) : Type 0 where
  pub files : List (List Record)
  pub notes : List FileNote
  pub records : AreRecords texts files notes
  pub says : FindsIn media claim options files finding
