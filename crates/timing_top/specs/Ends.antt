-- The statuses that a run of a request may end with, whatever its inputs contain, and when nothing is printed.
use Rattle.std.specs.Prelude.{◌≡◌, Bool, true, false, not, Option, Some, None, []}
use Rattle.timing_words.specs.declared.request.Request.{Request}
use Rattle.timing_words.specs.declared.request.Request.TheVariants as request
use Rattle.timing_report.specs.declared.status.Status.{Status}
use Rattle.timing_report.specs.declared.status.Status.TheVariants as status
use Rattle.timing_steps.specs.Ran.{Appended, Output}
use Rattle.timing_steps.specs.Runs.{is_silent_for}
use Rattle.timing_reach.specs.Described.{is_silent_described}
use Rattle.timing_top.specs.Runs.{streams_of}

-- the command line is valid
abbrev pub is_request : Option Request → Bool
is_request (Some asked) = true
is_request None = false

-- the request reads inputs: all but `selftest` and `help`
abbrev pub reads_inputs : Option Request → Bool
reads_inputs (Some (request.SelfTest job)) = false
reads_inputs (Some (request.Help named)) = false
reads_inputs asked = is_request asked

-- the request reads an SDP: all that read inputs, except `scan`
abbrev pub reads_sdp : Option Request → Bool
reads_sdp (Some (request.Scan job)) = false
reads_sdp asked = reads_inputs asked

-- the request reads captures: all that read inputs, except `sdp`
abbrev pub reads_captures : Option Request → Bool
reads_captures (Some (request.Sdp job)) = false
reads_captures asked = reads_inputs asked

-- the request may end with status 1: `check`, `verify`, `verify-report`, `explain` and `watch`
abbrev pub checks : Option Request → Bool
checks (Some (request.Check job)) = true
checks (Some (request.Verify job)) = true
checks (Some (request.VerifyReport job)) = true
checks (Some (request.Explain job)) = true
checks (Some (request.Watch job)) = true
checks asked = false

-- the request reads a report: `verify-report`
abbrev pub reads_report : Option Request → Bool
reads_report (Some (request.VerifyReport job)) = true
reads_report asked = false

-- a run of the request may end with this status
abbrev pub may_end : Option Request → Status → Bool
may_end asked status.Pass = is_request asked
may_end asked status.Fail = checks asked
may_end asked status.Usage = not (is_request asked)
may_end asked (status.SdpRefused fault) = reads_sdp asked
may_end asked status.NotAllJudged = reads_captures asked
may_end asked (status.ReadFault input) = reads_inputs asked
may_end asked status.WriteFault = is_request asked
may_end asked status.OutOfMemory = true
may_end asked status.ReportRefused = reads_report asked

-- with this status the request prints nothing on standard output; `sdp` prints how an SDP is read that is refused
abbrev pub is_silent_of : Option Request → Status → Bool
is_silent_of (Some (request.Sdp job)) ends = is_silent_described ends
is_silent_of asked ends = is_silent_for (streams_of asked) ends

-- a run of a request by its status and its output: the status is one that it may end with, and if that status is
-- silent, nothing was printed. `series` and `watch` print while they read: if a capture can't be read, or memory runs
-- out, a prefix of their output may have been printed
pub record Ends (asked : Option Request) (o : Output) (ends : Status) : Type 0 where
  pub status_is : may_end asked ends ≡ true
  pub silent : is_silent_of asked ends ≡ true → Appended o []
