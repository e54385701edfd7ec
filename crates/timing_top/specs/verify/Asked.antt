-- The output and status of `verify` and of `verify-report`, by the contents of their inputs, in the order in which
-- these are read.
use Rattle.std.specs.Prelude.{◌≡◌, ◌⊎◌, ℕ, nat_lt, ◌==◌, if◌then◌else◌, Bool, true, false, List, [], ◌∷◌, length, map}
use Rattle.std.specs.Prelude.{filter}
use Rattle.std.specs.Prelude.{slice_get, slice_index_or, All, Contains, Option, Some, None, Result, Ok, Err}
use Rattle.timing_base.specs.Captures.{Record}
use Rattle.timing_base.specs.Jobs.{ReportJob, VerifyJob}
use Rattle.timing_base.specs.Media.{Media}
use Rattle.timing_base.specs.declared.key.FlowKey.{FlowKey}
use Rattle.timing_base.specs.declared.row.Unjudged.{Unjudged}
use Rattle.pcapng_reader.specs.Classic.{classic}
use Rattle.timing_report.specs.json_report.Reading.{IsReport}
use Rattle.timing_report.specs.declared.json_report.reading.ReportProof.{ReportProof}
use Rattle.timing_report.specs.declared.status.Input.{Input}
use Rattle.timing_report.specs.declared.status.Input.TheVariants as input
use Rattle.timing_report.specs.declared.status.Status.TheVariants as status
use Rattle.timing_steps.specs.Answers.{Answer, AreThere, CaptureRose, Gives, HasRisen, Inputs, ReadsSession}
use Rattle.timing_steps.specs.Answers.{Yields, silent}
use Rattle.timing_steps.specs.Flows.{OnMedia, no_choice}
use Rattle.timing_steps.specs.Queries.{OnEarly, Query}
use Rattle.timing_steps.specs.declared.failure.Failure.{Failure}
use Rattle.timing_steps.specs.declared.failure.Failure.TheVariants as failure
use Rattle.timing_top.specs.verify.Findings.{Finds, FindsIn}
use Rattle.timing_top.specs.verify.Verified.{reported, verified}
use Rattle.timing_top.specs.declared.verify.checked.Checked.{Checked}

-- the violation that `verify` checks: one of run 0 of its media in file 0
abbrev pub claim_of : VerifyJob → ReportProof
claim_of job = record { key = record { file = 0; media = job.media }; run = 0; kind = job.kind; proof = job.proof }

-- the answer of `verify` for this media, over the packet records of each capture, as one capture
pub record DefinesVerified (job : VerifyJob) (media : Media) (files : List (List Record)) (answer : Answer) : Type 0
  where
    pub finding : Result Bool Unjudged
    pub finds : FindsIn media (claim_of job) job.options files finding
    pub answer_is : answer ≡ verified finding

-- if the SDP doesn't have the media, the violation is not confirmed, and no capture is read
abbrev pub not_there : Option Media → Option Answer
not_there None = Some (verified (Ok false))
not_there (Some media) = None

-- what `verify` asks: its answer may have status 1
abbrev pub verify_query : VerifyJob → Query
verify_query job = record {
  sdp = job.sdp;
  captures = job.captures;
  early = λ media. not_there (slice_get media job.media);
  Defines = λ media files notes answer. OnMedia (slice_get media job.media) (λ m. DefinesVerified job m files answer);
  checks = true;
}

-- the number of files that flows of the job can belong to; joined captures are one file
abbrev pub file_count : ReportJob → ℕ
file_count job = if job.joined then 1 else length job.captures

-- the media of a flow, if the job has its file and the SDP its media
abbrev pub media_for : ReportJob → List Media → FlowKey → Option Media
media_for job media key = if nat_lt key.file (file_count job) then slice_get media key.media else None

-- the captures of a flow: that of its file, or all if they are joined
abbrev pub captures_of : ReportJob → FlowKey → List (List ℕ)
captures_of job key = if job.joined then job.captures else slice_index_or job.captures key.file [] ∷ []

-- the captures that are read for a flow; none if the flow doesn't exist
abbrev pub captures_for : Option Media → ReportJob → FlowKey → List (List ℕ)
captures_for None job key = []
captures_for (Some media) job key = captures_of job key

-- the captures that are read for a violation of a report
abbrev pub needed : ReportJob → List Media → ReportProof → List (List ℕ)
needed job media claim = captures_for (media_for job media claim.key) job claim.key

-- the finding on a violation of a report, in captures with these contents; if its flow doesn't exist, it is not
-- confirmed
abbrev pub FindsOf : Option Media → ReportJob → ReportProof → (List ℕ → List ℕ) → Result Bool Unjudged → Type 0
FindsOf None job claim text finding = finding ≡ Ok false
FindsOf (Some media) job claim text finding =
    Finds media claim job.options (map text (captures_of job claim.key)) finding

-- the violations of a report in their order, each with its finding
pub record AreChecked (job : ReportJob) (media : List Media) (text : List ℕ → List ℕ) (claims : List ReportProof)
    (checked : List Checked) : Type 0 where
  pub claims_are : map (λ c. c.claim) checked ≡ claims
  pub each : All (λ c. FindsOf (media_for job media c.claim.key) job c.claim text c.finding) checked

-- the violations of a report that are checked: all, or those of the chosen media
abbrev pub asked : (only : Option ℕ) → List ReportProof → List ReportProof
asked None claims = claims
asked (Some number) claims = filter (λ claim. claim.key.media == number) claims

-- the answer of `verify-report` on these violations of a report
pub record HasReported (job : ReportJob) (media : List Media) (claims : List ReportProof) (text : List ℕ → List ℕ)
    (answer : Answer) : Type 0 where
  pub checked : List Checked
  pub are : AreChecked job media text claims checked
  pub answer_is : answer ≡ reported checked

-- if the contents are a report, what follows depends on its violations; if not, the answer is status 9
abbrev pub OnReport : List ℕ → Result Answer Failure → (List ReportProof → Type 0) → Type 0
OnReport text outcome next =
    (((claims : List ReportProof) → ¬ IsReport text claims)
    × Gives outcome (λ answer. answer ≡ silent status.ReportRefused))
    ⊎ ((claims : List ReportProof) × IsReport text claims × next claims)

-- the report is read; this fails if the shelf lacks it
abbrev pub ReadsReport : Inputs → Result Answer Failure → List ℕ → (List ReportProof → Type 0) → Type 0
ReadsReport i outcome name next =
    ((outcome ≡ Err (failure.ReadFault input.Report)) × HasRisen i name)
    ⊎ (¬ i.lacks name × ((text : List ℕ) → i.texts name ≡ Some text → OnReport text outcome next))

-- the count of faults of a capture rose that is read for one of these violations of the report
pub record NeededRose (i : Inputs) (job : ReportJob) (media : List Media) (claims : List ReportProof) (number : ℕ) :
    Type 0 where
  pub claim : ReportProof
  pub reported : Contains claims claim
  pub needs : Contains (needed job media claim) (slice_index_or job.captures number [])
  pub rose : CaptureRose i.before i.now job.captures number

-- the names have these contents
abbrev pub AreTexts : (List ℕ → Option (List ℕ)) → (List ℕ → List ℕ) → List (List ℕ) → Type 0
AreTexts texts text names = All (λ name. texts name ≡ Some (text name)) names

-- the captures of the violations are read, as classic captures; this fails if the shelf lacks one
abbrev pub ReadsNeeded : Inputs → Result Answer Failure → ReportJob → List Media → List ReportProof
    → ((List ℕ → List ℕ) → Type 0) → Type 0
ReadsNeeded i outcome job media claims next =
    ((number : ℕ) × (outcome ≡ Err (failure.ReadFault (input.Capture number))) × NeededRose i job media claims number)
    ⊎ (All (λ claim. AreThere i.lacks (needed job media claim)) claims
    × ((text : List ℕ → List ℕ) → All (λ claim. AreTexts i.texts text (needed job media claim)) claims
    → next (λ name. classic (text name))))

-- these violations are checked: their captures are read, and then there is an answer
abbrev pub AnswersClaims : ReportJob → Inputs → Result Answer Failure → List Media → List ReportProof → Type 0
AnswersClaims job i outcome media claims =
    ReadsNeeded i outcome job media claims (λ text. Gives outcome (HasReported job media claims text))

-- the report is read, and then those of its violations are checked that are asked about
abbrev pub AnswersReport : ReportJob → Inputs → Result Answer Failure → List Media → Type 0
AnswersReport job i outcome media =
    ReadsReport i outcome job.report (λ claims. AnswersClaims job i outcome media (asked job.media claims))

-- the outcome over the media of the SDP. If the chosen media isn't among them, the report isn't read
abbrev pub AnswersSession : ReportJob → Inputs → Result Answer Failure → List Media → Type 0
AnswersSession job i outcome media = OnEarly (no_choice job.media media) outcome (AnswersReport job i outcome media)

-- `verify-report` reads the SDP, then the report, then the captures of the violations that it checks
abbrev pub FollowsReport : ReportJob → Inputs → Result Answer Failure → Type 0
FollowsReport job i outcome = Yields outcome (ReadsSession i outcome job.sdp (AnswersSession job i outcome))

-- the count of faults of the name of this input of `verify-report` rose
abbrev pub ReportInputRose : ReportJob → Inputs → Input → Type 0
ReportInputRose job i input.Sdp = HasRisen i job.sdp
ReportInputRose job i input.Report = HasRisen i job.report
ReportInputRose job i (input.Capture number) = CaptureRose i.before i.now job.captures number
