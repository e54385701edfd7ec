-- The jobs that a command line requests, and the limits of their quantities. File names are lists of bytes; units and
-- meanings are those of the fields in `src/job.rt`.
use Rattle.std.specs.Prelude.{◌≡◌, ◌≤◌, ◌<◌, ℕ, Bool, false, List, length, Option, IfSome}
use Rattle.timing_base.specs.declared.fail.FailProof.{FailProof}
use Rattle.timing_base.specs.declared.job.ScanForm.{ScanForm}
use Rattle.timing_base.specs.declared.media.Kind.{Kind}
use Rattle.timing_base.specs.Shifts.{FlowOptions, AreFlowOptions}

-- `check`: judges the flows of captures
pub record CheckJob : Type 0 where
  pub sdp : List ℕ
  pub captures : List (List ℕ)
  pub workers : ℕ
  pub options : FlowOptions
  pub json : Bool
  pub joined : Bool
  pub media : Option ℕ

-- the number of a media is below 64, where one is chosen
abbrev pub IsChoice : Option ℕ → Type 0
IsChoice media = IfSome media (λ number. number < 64)

-- 1 to 16 captures
pub record AreCaptures (captures : List (List ℕ)) : Type 0 where
  pub some : 1 ≤ length captures
  pub few : length captures ≤ 16

-- 1 to 16 captures that are joined, or one capture
pub record AreInputs (joined : Bool) (captures : List (List ℕ)) : Type 0 where
  pub captures_are : AreCaptures captures
  pub alone : joined ≡ false → length captures ≡ 1

-- the quantities of `check` are within their limits
pub record IsCheckJob (job : CheckJob) : Type 0 where
  pub captures_are : AreCaptures job.captures
  pub workers_few : job.workers ≤ 16
  pub options_are : AreFlowOptions job.options
  pub media_few : IsChoice job.media

-- `verify`: checks one claimed violation from the capture alone
pub record VerifyJob : Type 0 where
  pub sdp : List ℕ
  pub media : ℕ
  pub kind : Kind
  pub proof : FailProof
  pub options : FlowOptions
  pub captures : List (List ℕ)
  pub joined : Bool

-- the quantities of `verify` are within their limits
pub record IsVerifyJob (job : VerifyJob) : Type 0 where
  pub media_few : job.media < 64
  pub options_are : AreFlowOptions job.options
  pub inputs : AreInputs job.joined job.captures

-- `verify-report`: checks each violation of a JSON report from the captures alone
pub record ReportJob : Type 0 where
  pub sdp : List ℕ
  pub report : List ℕ
  pub options : FlowOptions
  pub captures : List (List ℕ)
  pub joined : Bool
  pub media : Option ℕ

-- the quantities of `verify-report` are within their limits
pub record IsReportJob (job : ReportJob) : Type 0 where
  pub options_are : AreFlowOptions job.options
  pub captures_are : AreCaptures job.captures
  pub media_few : IsChoice job.media

-- `selftest`: runs the analyser over captures that it makes itself
pub record SelfTestJob : Type 0 where
  pub frames : ℕ
  pub workers : ℕ

-- the quantities of `selftest` are within their limits
pub record IsSelfTestJob (job : SelfTestJob) : Type 0 where
  pub frames_some : 2 ≤ job.frames
  pub frames_few : job.frames ≤ 20000
  pub workers_few : job.workers ≤ 16

-- one flow of one capture, or of joined captures
pub record FlowJob : Type 0 where
  pub sdp : List ℕ
  pub media : ℕ
  pub options : FlowOptions
  pub captures : List (List ℕ)
  pub joined : Bool

-- the quantities of a flow's job are within their limits
pub record IsFlowJob (job : FlowJob) : Type 0 where
  pub media_few : job.media < 64
  pub options_are : AreFlowOptions job.options
  pub inputs : AreInputs job.joined job.captures

-- `shape`: delays the packets of a flow until they keep the limits of a sender type
pub record ShapeJob : Type 0 where
  pub flow : FlowJob
  pub kind : Kind
  pub list : Bool

-- `skew`: compares two flows packet by packet, by their packet numbers
pub record SkewJob : Type 0 where
  pub sdp : List ℕ
  pub media : ℕ
  pub pair : ℕ
  pub captures : List (List ℕ)

-- the quantities of `skew` are within their limits
pub record IsSkewJob (job : SkewJob) : Type 0 where
  pub media_few : job.media < 64
  pub pair_few : job.pair < 64
  pub some : 1 ≤ length job.captures
  pub few : length job.captures ≤ 2

-- the flows of one capture, or of joined captures: of all media, or of one
pub record CaptureJob : Type 0 where
  pub sdp : List ℕ
  pub options : FlowOptions
  pub captures : List (List ℕ)
  pub joined : Bool
  pub media : Option ℕ

-- the quantities of a capture's job are within their limits
pub record IsCaptureJob (job : CaptureJob) : Type 0 where
  pub options_are : AreFlowOptions job.options
  pub inputs : AreInputs job.joined job.captures
  pub media_few : IsChoice job.media

-- `explain`: prints what is wrong with the flows of captures
pub record ExplainJob : Type 0 where
  pub flows : CaptureJob
  pub json : Bool

-- `watch`: prints a line for each stretch of this many frames, or of those of one second, and then the report
pub record WatchJob : Type 0 where
  pub flows : CaptureJob
  pub every : Option ℕ
  pub json : Bool

-- a stretch has 1 to 1,000,000 frames or fields
pub record IsEvery (every : ℕ) : Type 0 where
  pub some : 1 ≤ every
  pub few : every ≤ 1000000

-- the quantities of `watch` are within their limits
pub record IsWatchJob (job : WatchJob) : Type 0 where
  pub flows_are : IsCaptureJob job.flows
  pub every_is : IfSome job.every IsEvery

-- `series`: prints the numbers of a flow, by frame or by packet
pub record SeriesJob : Type 0 where
  pub flow : FlowJob
  pub frames : Bool

-- `scan`: lists the contents of a capture
pub record ScanJob : Type 0 where
  pub capture : List ℕ
  pub form : ScanForm

-- `sdp`: prints how a session description is read
pub record SdpJob : Type 0 where
  pub sdp : List ℕ
  pub json : Bool
