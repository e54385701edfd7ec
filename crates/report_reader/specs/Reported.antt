-- What a report is made of, as the analyser bounds it: numbers have 64 bits, and file names no newline.
use Rattle.std.specs.Prelude.{◌≡◌, ◌<◌, ◌^◌, ℕ, ⊤, true, List, All}
use Rattle.timing_base.specs.Jobs.{CheckJob, IsCheckJob}
use Rattle.timing_base.specs.Media.{Media, IsMedia, IsSession}
use Rattle.timing_base.specs.Name.{is_file_name}
use Rattle.timing_base.specs.declared.capture.FileNote.{FileNote}
use Rattle.timing_base.specs.declared.capture.FileNote.TheVariants as note
use Rattle.timing_base.specs.declared.capture.PcapFault.{PcapFault}
use Rattle.timing_base.specs.declared.capture.PcapFault.TheVariants as pcap
use Rattle.timing_base.specs.declared.packet.PacketFault.{PacketFault}
use Rattle.timing_base.specs.declared.packet.PacketFault.TheVariants as packet
use Rattle.timing_base.specs.declared.row.Row.{Row}
use Rattle.timing_base.specs.declared.row.Unjudged.{Unjudged}
use Rattle.timing_base.specs.declared.row.Unjudged.TheVariants as unjudged
use Rattle.timing_base.specs.declared.row.Verdict.{Verdict}
use Rattle.timing_base.specs.declared.row.Verdict.TheVariants as verdict
use Rattle.timing_report.specs.Outcomes.{AreRowsOf}
use Rattle.timing_report.specs.json_report.Fails.{IsWord, FitsVerdict}

-- the numbers of a packet's fault that are printed
abbrev pub FitsFault : PacketFault → Type 0
FitsFault (packet.StampBack before got) = IsWord before × IsWord got
FitsFault (packet.FrameSize want got) = IsWord want × IsWord got
FitsFault other = ⊤

-- those of the reason why a flow isn't judged
abbrev pub FitsReason : Unjudged → Type 0
FitsReason (unjudged.Refused rec fault) = FitsFault fault
FitsReason other = ⊤

-- those of the fault of a verdict
abbrev pub FitsRefusal : Verdict → Type 0
FitsRefusal (verdict.Unjudged reason) = FitsReason reason
FitsRefusal other = ⊤

-- those of a row
pub record FitsRow (row : Row) : Type 0 where
  pub verdict : FitsVerdict row.verdict
  pub refusal : FitsRefusal row.verdict

-- those of the fault of a capture
abbrev pub FitsPcap : PcapFault → Type 0
FitsPcap (pcap.BadStamp rec) = IsWord rec
FitsPcap (pcap.BadLength rec) = IsWord rec
FitsPcap other = ⊤

-- those of the way in which a capture ends
abbrev pub FitsNote : FileNote → Type 0
FitsNote note.End = ⊤
FitsNote (note.Cut at) = IsWord at
FitsNote (note.Refused fault) = FitsPcap fault

-- a media of a session description: its address has 32 bits, and its port 16
pub record FitsMedia (media : Media) : Type 0 where
  pub is : IsMedia media
  pub address : media.address.bits < 2 ^ 32
  pub port : media.port < 2 ^ 16

-- file names
abbrev pub AreNames : List (List ℕ) → Type 0
AreNames names = All (λ name. is_file_name name ≡ true) names

-- a job, its session, the ways in which its captures end, and one result for each of its flows
pub record AreReported (job : CheckJob) (session : List Media) (notes : List FileNote) (rows : List Row) : Type 0 where
  pub is_job : IsCheckJob job
  pub names : AreNames job.captures
  pub is_session : IsSession session
  pub media : All FitsMedia session
  pub endings : All FitsNote notes
  pub flows : AreRowsOf job session rows
  pub results : All FitsRow rows
