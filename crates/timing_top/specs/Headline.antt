-- The promise of `check`, for every command line, every SDP and all captures, and every number of workers. If the SDP
-- is invalid, the status names its first fault. If it doesn't have the media that the command line chooses, the answer
-- says so. Else exactly one report is defined. In it a sender type passes exactly
-- if no interval of judged packets has more packets than C_MAX plus the drain ticks in it, and at every instant the
-- receiver buffer holds between nothing and VRX_FULL (SMPTE ST 2110-21). Every violation names an interval that its
-- numbers confirm. If the report isn't printed whole, a write failed, an input couldn't be read, or memory ran out, and
-- the status gives the reason.
use Rattle.std.specs.Prelude.{◌≡◌, ◌⊎◌, ℕ, List, [], map, All, Option, Some, None, Ok, Err}
use Rattle.std.specs.Io.KnownBytes.{Keeps}
use Rattle.timing_base.specs.Jobs.{CheckJob}
use Rattle.timing_base.specs.Media.{Media}
use Rattle.pcapng_reader.specs.Classic.{classic}
use Rattle.sdp_reader.specs.Session.{session}
use Rattle.sdp_reader.specs.declared.fault.SdpFault.{SdpFault}
use Rattle.timing_report.specs.declared.status.Input.{Input}
use Rattle.timing_report.specs.declared.status.Status.{Status}
use Rattle.timing_report.specs.declared.status.Status.TheVariants as status
use Rattle.timing_steps.specs.Answers.{Answer, Inputs}
use Rattle.timing_steps.specs.Flows.{no_choice}
use Rattle.timing_steps.specs.Queries.{QueryInputRose}
use Rattle.timing_steps.specs.Ran.{Appended, Broke, Output}
use Rattle.timing_top.specs.Exact.{IsExactRow}
use Rattle.timing_top.specs.Report.{HasReport, check_query, rows}

-- the same job with this number of workers; 0 is one thread
abbrev pub with_workers : ℕ → CheckJob → CheckJob
with_workers workers job = record job { workers = workers }

-- the only report of a job over these media and captures with these contents; it is the same for every number of
-- workers, and each of its results is exact
pub record IsTheReport (job : CheckJob) (media : List Media) (captures : List (List ℕ)) (report : Answer) : Type 0 where
  pub defined : HasReport job media (map classic captures) report
  pub only : (other : Answer) → HasReport job media (map classic captures) other → other ≡ report
  pub workers : (number : ℕ) → HasReport (with_workers number job) media (map classic captures) report
  pub rows_are : All (IsExactRow job.joined job.options media defined.files) (rows job media defined.files)

-- the answer is this one if it is settled; else it is the report
abbrev pub IsSettledOr : Option Answer → Answer → (IsReport : Type 0) → Type 0
IsSettledOr (Some settled) answer IsReport = answer ≡ settled
IsSettledOr None answer IsReport = IsReport

-- the only answer of a job over these media and captures with these contents: `no such media` if the job chooses a
-- media that isn't among these, else its only report
abbrev pub IsTheAnswer : CheckJob → List Media → (captures : List (List ℕ)) → Answer → Type 0
IsTheAnswer job media captures answer =
    IsSettledOr (no_choice job.media media) answer (IsTheReport job media captures answer)

-- a run of `check` on an SDP and captures with these contents, by its status and its output. `refused`: the SDP is
-- invalid, and nothing was printed. `reported`: the answer was printed. `unwritten`: a write failed, the count of
-- faults of the output rose, and a prefix of the answer was printed. `unread`: the count of faults of an input rose,
-- the status names that input, and nothing was printed. `out_of_memory`: memory ran out, and nothing was printed.
pub data Headline (job : CheckJob) (sdp : List ℕ) (captures : List (List ℕ)) (i : Inputs) (o : Output) (ends : Status)
    : Type 0 where
  refused : (fault : SdpFault) → session sdp ≡ Err fault
      → ends ≡ status.SdpRefused fault → Appended o []
      → Headline job sdp captures i o ends
  reported : (media : List Media) (answer : Answer) → session sdp ≡ Ok media → IsTheAnswer job media captures answer
      → ends ≡ answer.status → Appended o answer.text
      → Headline job sdp captures i o ends
  unwritten : (media : List Media) (answer : Answer) → session sdp ≡ Ok media → IsTheAnswer job media captures answer
      → ends ≡ status.WriteFault → Broke o answer.text
      → Headline job sdp captures i o ends
  unread : (input : Input) → QueryInputRose (check_query job) i input
      → ends ≡ status.ReadFault input → Keeps o.old o.new
      → Headline job sdp captures i o ends
  out_of_memory : ends ≡ status.OutOfMemory → Keeps o.old o.new → Headline job sdp captures i o ends

-- a run with an invalid command line: nothing was printed, and the status is 2, or memory ran out
abbrev pub NoRequest : Output → Status → Type 0
NoRequest o ends = ((ends ≡ status.Usage) × Appended o []) ⊎ ((ends ≡ status.OutOfMemory) × Keeps o.old o.new)
