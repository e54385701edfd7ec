-- The output and status that each command line and the contents of its inputs define. Inputs are read in the order in
-- which they stand here.
use Rattle.std.specs.Prelude.{◌≡◌, ⊤, Bool, IsTrue, true, false, ℕ, List, [], ◌∷◌, All, Option, Some, None, Result}
use Rattle.timing_base.specs.Jobs.{IsCaptureJob, IsFlowJob, IsWatchJob}
use Rattle.pcapng_reader.specs.Bytes.{AreBytes}
use Rattle.timing_words.specs.Help.{help_text}
use Rattle.timing_words.specs.declared.command.Command.{Command}
use Rattle.timing_words.specs.declared.request.Request.{Request}
use Rattle.timing_words.specs.declared.request.Request.TheVariants as request
use Rattle.timing_report.specs.declared.status.Input.{Input}
use Rattle.timing_report.specs.declared.status.Status.{Status}
use Rattle.timing_report.specs.declared.status.Status.TheVariants as status
use Rattle.timing_steps.specs.Answers.{Answer, Gives, Inputs, Yields, silent}
use Rattle.timing_steps.specs.Queries.{FollowsQuery, Query, QueryInputRose, inputs_of}
use Rattle.timing_steps.specs.declared.failure.Failure.{Failure}
use Rattle.timing_reach.specs.Described.{FollowsSdp, SdpInputRose}
use Rattle.timing_reach.specs.Scanned.{FollowsScan, ScanInputRose}
use Rattle.timing_reach.specs.Shaped.{shape_query}
use Rattle.timing_reach.specs.Skewed.{skew_query}
use Rattle.timing_reach.specs.Windows.{window_query}
use Rattle.timing_explain.specs.Explained.{explain_query}
use Rattle.timing_measure.specs.Measures.{measure_query}
use Rattle.timing_measure.specs.page.Pages.{page_query}
use Rattle.timing_measure.specs.series.Series.{series_query}
use Rattle.timing_watch.specs.Watches.{watch_query}
use Rattle.timing_top.specs.Report.{check_query}
use Rattle.timing_top.specs.SelfTest.{HasSelfTest}
use Rattle.timing_top.specs.verify.Asked.{FollowsReport, ReportInputRose, verify_query}

-- `selftest` with this many frames, which reads nothing
abbrev pub FollowsSelfTest : ℕ → Result Answer Failure → Type 0
FollowsSelfTest frames outcome = Yields outcome (Gives outcome (HasSelfTest frames))

-- the answer of `help`, or of `help` with a command, with status 0
abbrev pub page : Option Command → Answer
page named = record { text = help_text named; status = status.Pass }

-- `help`, which reads nothing
abbrev pub FollowsHelp : Option Command → Result Answer Failure → Type 0
FollowsHelp named outcome = Yields outcome (Gives outcome (λ answer. answer ≡ page named))

-- an answer without output, for which nothing is read
abbrev pub FollowsAtOnce : Status → Result Answer Failure → Type 0
FollowsAtOnce ends outcome = Yields outcome (Gives outcome (λ answer. answer ≡ silent ends))

-- the request is a command that reads an SDP, and then captures
abbrev pub is_command : Request → Bool
is_command (request.VerifyReport job) = false
is_command (request.SelfTest job) = false
is_command (request.Scan job) = false
is_command (request.Sdp job) = false
is_command (request.Help named) = false
is_command asked = true

-- what such a command asks of its inputs; of another request nothing is asked here
abbrev pub query_of : Request → Query
query_of (request.Check job) = check_query job
query_of (request.Verify job) = verify_query job
query_of (request.Window job) = window_query job
query_of (request.Shape job) = shape_query job
query_of (request.Skew job) = skew_query job
query_of (request.Measure job) = measure_query job
query_of (request.Series job) = series_query job
query_of (request.Page job) = page_query job
query_of (request.Explain job) = explain_query job
query_of (request.Watch job) = watch_query job
query_of other = record {
  sdp = [];
  captures = [];
  early = λ media. None;
  Defines = λ media files notes answer. ⊥;
  checks = false;
}

-- the outcome that a request defines; `None` is an invalid command line. No definition depends on the number of workers
abbrev pub Follows : Option Request → Inputs → Result Answer Failure → Type 0
Follows None i outcome = FollowsAtOnce status.Usage outcome
Follows (Some (request.VerifyReport job)) i outcome = FollowsReport job i outcome
Follows (Some (request.SelfTest job)) i outcome = FollowsSelfTest job.frames outcome
Follows (Some (request.Scan job)) i outcome = FollowsScan job i outcome
Follows (Some (request.Sdp job)) i outcome = FollowsSdp job i outcome
Follows (Some (request.Help named)) i outcome = FollowsHelp named outcome
Follows (Some command) i outcome = FollowsQuery (query_of command) i outcome

-- the count of faults of this input's name rose; for a request that reads nothing this is false
abbrev pub InputRose : Option Request → Inputs → Input → Type 0
InputRose None i input = ⊥
InputRose (Some (request.VerifyReport job)) i input = ReportInputRose job i input
InputRose (Some (request.SelfTest job)) i input = ⊥
InputRose (Some (request.Scan job)) i input = ScanInputRose job i input
InputRose (Some (request.Sdp job)) i input = SdpInputRose job i input
InputRose (Some (request.Help named)) i input = ⊥
InputRose (Some command) i input = QueryInputRose (query_of command) i input

-- the names of a request's inputs
abbrev pub names_of : Option Request → List (List ℕ)
names_of None = []
names_of (Some (request.VerifyReport job)) = job.sdp ∷ job.report ∷ job.captures
names_of (Some (request.SelfTest job)) = []
names_of (Some (request.Scan job)) = job.capture ∷ []
names_of (Some (request.Sdp job)) = job.sdp ∷ []
names_of (Some (request.Help named)) = []
names_of (Some command) = inputs_of (query_of command)

-- for `measure`, `series`, `page`, `explain` and `watch`: the job is within its limits, as that of every command line
-- is. For all but `watch` the contents are bytes too, as those of every file are
abbrev pub MeasuresBytes : Option Request → List (List ℕ) → Type 0
MeasuresBytes (Some (request.Measure job)) told = IsCaptureJob job × All AreBytes told
MeasuresBytes (Some (request.Series job)) told = IsFlowJob job.flow × All AreBytes told
MeasuresBytes (Some (request.Page job)) told = IsCaptureJob job × All AreBytes told
MeasuresBytes (Some (request.Explain job)) told = IsCaptureJob job.flows × All AreBytes told
MeasuresBytes (Some (request.Watch job)) told = IsWatchJob job
MeasuresBytes other told = ⊤

-- the inputs as seen on a shelf that lacks the names for which `lacking` is true; the laws are about such shelves
abbrev pub seen : (texts : List ℕ → Option (List ℕ)) → (lacking : List ℕ → Bool) → (before now : List ℕ → ℕ) → Inputs
seen texts lacking before now =
    record { texts = texts; lacks = λ name. IsTrue (lacking name); before = before; now = now }
