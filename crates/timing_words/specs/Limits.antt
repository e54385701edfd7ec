-- The limits of every request's job, as `timing_base` defines them.
use Rattle.std.specs.Prelude.{⊤}
use Rattle.timing_base.specs.Jobs.{IsCaptureJob, IsCheckJob, IsFlowJob, IsReportJob, IsSelfTestJob, IsSkewJob}
use Rattle.timing_base.specs.Jobs.{IsVerifyJob, IsWatchJob}
use Rattle.timing_words.specs.declared.request.Request.{Request}
use Rattle.timing_words.specs.declared.request.Request.TheVariants as asks

-- the job of a request is within its limits
abbrev pub IsWithinLimits : Request → Type 0
IsWithinLimits (asks.Check job) = IsCheckJob job
IsWithinLimits (asks.Verify job) = IsVerifyJob job
IsWithinLimits (asks.VerifyReport job) = IsReportJob job
IsWithinLimits (asks.SelfTest job) = IsSelfTestJob job
IsWithinLimits (asks.Window job) = IsFlowJob job
IsWithinLimits (asks.Shape job) = IsFlowJob job.flow
IsWithinLimits (asks.Skew job) = IsSkewJob job
IsWithinLimits (asks.Scan job) = ⊤
IsWithinLimits (asks.Measure job) = IsCaptureJob job
IsWithinLimits (asks.Series job) = IsFlowJob job.flow
IsWithinLimits (asks.Sdp job) = ⊤
IsWithinLimits (asks.Page job) = IsCaptureJob job
IsWithinLimits (asks.Explain job) = IsCaptureJob job.flows
IsWithinLimits (asks.Watch job) = IsWatchJob job
IsWithinLimits (asks.Help named) = ⊤
