-- The output and status of `sdp`, by the contents of its SDP: how the SDP is read, as lines of text or as JSON (RFC
-- 8259). No capture is read. This project's profile: an SDP that is refused has an output, and the status 3.
use Rattle.std.specs.Prelude.{◌≡◌, ◌||◌, if◌then◌else◌, ℕ, Bool, true, false, List, [], Option, Some, None, Result}
use Rattle.timing_base.specs.Jobs.{SdpJob}
use Rattle.sdp_reader.specs.declared.fault.SdpFault.{SdpFault}
use Rattle.sdp_notes.specs.Described.{Described, described}
use Rattle.sdp_notes.specs.report.Json.{described_json}
use Rattle.sdp_notes.specs.report.Text.{described_text}
use Rattle.timing_report.specs.declared.status.Input.{Input}
use Rattle.timing_report.specs.declared.status.Input.TheVariants as input
use Rattle.timing_report.specs.declared.status.Status.{Status}
use Rattle.timing_report.specs.declared.status.Status.TheVariants as status
use Rattle.timing_steps.specs.Answers.{Answer, Gives, HasRisen, Inputs, ReadsSdp, Yields}
use Rattle.timing_steps.specs.Ends.{is_failure, is_silent}
use Rattle.timing_steps.specs.Ran.{Appended, Output}
use Rattle.timing_steps.specs.declared.failure.Failure.{Failure}

-- 3 if the SDP is refused, else 0
abbrev pub status_told : Option SdpFault → Status
status_told None = status.Pass
status_told (Some fault) = status.SdpRefused fault

-- the answer on an SDP that is read in this way
abbrev pub told : (json : Bool) → Described → Answer
told json d = record { text = if json then described_json d else described_text d; status = status_told d.fault }

-- the answer of `sdp`, over an SDP with these contents
abbrev pub HasDescription : SdpJob → (text : List ℕ) → Answer → Type 0
HasDescription job text answer = answer ≡ told job.json (described text)

-- `sdp` reads the SDP
abbrev pub FollowsSdp : SdpJob → Inputs → Result Answer Failure → Type 0
FollowsSdp job i outcome =
    Yields outcome (ReadsSdp i outcome job.sdp (λ text. Gives outcome (HasDescription job text)))

-- the count of faults of the name of this input rose; there is one input, the SDP
abbrev pub SdpInputRose : SdpJob → Inputs → Input → Type 0
SdpInputRose job i input.Sdp = HasRisen i job.sdp
SdpInputRose job i input.Report = ⊥
SdpInputRose job i (input.Capture number) = ⊥

-- the statuses of the answers of `sdp`: 0 or 3
abbrev pub sdp_ends : Status → Bool
sdp_ends status.Pass = true
sdp_ends (status.SdpRefused fault) = true
sdp_ends ends = false

-- the answer has one of these statuses
abbrev pub HasDescribedStatus : Answer → Type 0
HasDescribedStatus answer = sdp_ends answer.status ≡ true

-- with these statuses `sdp` prints nothing on standard output: those of the other commands, except for 3
abbrev pub is_silent_described : Status → Bool
is_silent_described (status.SdpRefused fault) = false
is_silent_described ends = is_silent ends

-- the run ends with one of these statuses or with a failure, and if its status is silent, nothing was printed
pub record EndsDescribed (o : Output) (ends : Status) : Type 0 where
  pub status_is : sdp_ends ends || is_failure ends ≡ true
  pub silent : is_silent_described ends ≡ true → Appended o []
