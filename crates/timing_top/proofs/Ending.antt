-- How a run of a request ends, whatever its texts are.
use Rattle.std.proofs.Common.{◌≡◌, ℕ, Bool, true, false, Some, None, Option, Ok, Err, refl, ap, ◌∙◌, sym, subst, inl, inr}
use Rattle.std.specs.Prelude.{◌||◌, Result}
use Rattle.std.proofs.lemmas.Bool.{false≢true}
use Rattle.timing_base.specs.Jobs.{ReportJob, ScanJob, SdpJob, SelfTestJob}
use Rattle.timing_words.specs.declared.command.Command.{Command}
use Rattle.timing_words.specs.declared.request.Request.{Request}
use Rattle.timing_words.specs.declared.request.Request.TheVariants as request
use Rattle.timing_report.specs.declared.status.Status.{Status}
use Rattle.timing_report.specs.declared.status.Status.TheVariants as status
use Rattle.timing_steps.specs.Answers.{Answer, silent}
use Rattle.timing_steps.specs.Ends.{EndsWith, is_failure}
use Rattle.timing_steps.specs.Queries.{ends_of}
use Rattle.timing_steps.specs.Ran.{Appended, Broke, HasCause, Leaves, Output, Ran}
use Rattle.timing_steps.specs.Runs.{EndsAs, is_silent_for}
use Rattle.timing_steps.specs.declared.failure.Failure.{Failure}
use Rattle.timing_steps.specs.declared.failure.Failure.TheVariants as failure
use Rattle.timing_reach.specs.Described.{EndsDescribed, sdp_ends}
use Rattle.timing_reach.specs.Scanned.{scan_ends}
use Rattle.timing_top.specs.Asked.{FollowsHelp, FollowsSelfTest, is_command, query_of}
use Rattle.timing_top.specs.Ends.{Ends, checks, is_silent_of, may_end, reads_captures, reads_inputs, reads_sdp}
use Rattle.timing_top.specs.Runs.{streams_of}
use Rattle.timing_top.specs.verify.Verified.{report_ends}
use Rattle.timing_steps.proofs.Endings.{kept-none}
use Rattle.timing_steps.proofs.Onces.{ok-not-err, same-ok}
use Rattle.timing_top.proofs.Headlines.{none-broke}

-- what a request asked for ended
abbrev EndsFor : Output → Status → Request → Type 0
EndsFor o ends asked = Ends (Some asked) o ends

-- a command reads an SDP and captures, and ends with 1 only if its query checks
command-reads : (run : Request) → is_command run ≡ true
    → (reads_captures (Some run) ≡ true) × (reads_sdp (Some run) ≡ true) × (checks (Some run) ≡ (query_of run).checks)
    × (reads_inputs (Some run) ≡ true)
command-reads (request.VerifyReport job) is = absurd (false≢true is)
command-reads (request.SelfTest job) is = absurd (false≢true is)
command-reads (request.Scan job) is = absurd (false≢true is)
command-reads (request.Sdp job) is = absurd (false≢true is)
command-reads (request.Help named) is = absurd (false≢true is)
command-reads run is = (refl, refl, refl, refl)

-- a command is silent with the statuses of its kind
command-silent : (run : Request) → is_command run ≡ true → (s : Status) → is_silent_of (Some run) s ≡ is_silent_for (streams_of (Some run)) s
command-silent (request.Sdp job) is s = absurd (false≢true is)
command-silent run is s = refl

-- the statuses of a command are those of its request
command-all : (run : Request) → is_command run ≡ true → (s : Status) → ends_of (query_of run) s || is_failure s ≡ true → may_end (Some run) s ≡ true
command-all run is status.Pass h = refl
command-all run is status.Fail h = (command-reads run is).2 ∙ or-false (query_of run).checks h
  where
    or-false : (b : Bool) → b || false ≡ true → b ≡ true
    or-false true h = refl
    or-false false h = h
command-all run is status.Usage h = absurd (false≢true h)
command-all run is (status.SdpRefused fault) h = (command-reads run is).1
command-all run is status.NotAllJudged h = (command-reads run is).0
command-all run is (status.ReadFault input) h = (command-reads run is).3
command-all run is status.WriteFault h = refl
command-all run is status.OutOfMemory h = refl
command-all run is status.ReportRefused h = absurd (false≢true h)

pub ends-command : (asked run : Request) (o : Output) (ends : Status) → asked ≡ run → is_command run ≡ true
    → EndsAs (streams_of (Some run)) (query_of run) o ends → Ends (Some asked) o ends
ends-command asked run o ends is command h =
    subst (EndsFor o ends) (sym is) (record {
      status_is = command-all run command ends h.status_is;
      silent = λ s. h.silent (sym (command-silent run command ends) ∙ s);
    })

report-all : (job : ReportJob) (s : Status) → report_ends s || is_failure s ≡ true → may_end (Some (request.VerifyReport job)) s ≡ true
report-all job status.Pass h = refl
report-all job status.Fail h = refl
report-all job status.Usage h = h
report-all job (status.SdpRefused fault) h = refl
report-all job status.NotAllJudged h = refl
report-all job (status.ReadFault input) h = refl
report-all job status.WriteFault h = refl
report-all job status.OutOfMemory h = refl
report-all job status.ReportRefused h = refl

scan-all : (job : ScanJob) (s : Status) → scan_ends s || is_failure s ≡ true → may_end (Some (request.Scan job)) s ≡ true
scan-all job status.Pass h = refl
scan-all job status.Fail h = h
scan-all job status.Usage h = h
scan-all job (status.SdpRefused fault) h = h
scan-all job status.NotAllJudged h = refl
scan-all job (status.ReadFault input) h = refl
scan-all job status.WriteFault h = refl
scan-all job status.OutOfMemory h = refl
scan-all job status.ReportRefused h = h

pub ends-report : (asked : Request) (job : ReportJob) (o : Output) (ends : Status) → asked ≡ request.VerifyReport job → EndsWith report_ends o ends
    → Ends (Some asked) o ends
ends-report asked job o ends is h =
    subst (EndsFor o ends) (sym is) (record { status_is = report-all job ends h.status_is; silent = h.silent })

pub ends-scan : (asked : Request) (job : ScanJob) (o : Output) (ends : Status) → asked ≡ request.Scan job → EndsWith scan_ends o ends
    → Ends (Some asked) o ends
ends-scan asked job o ends is h = subst (EndsFor o ends) (sym is) (record { status_is = scan-all job ends h.status_is; silent = h.silent })

sdp-all : (job : SdpJob) (s : Status) → sdp_ends s || is_failure s ≡ true → may_end (Some (request.Sdp job)) s ≡ true
sdp-all job status.Pass h = refl
sdp-all job status.Fail h = h
sdp-all job status.Usage h = h
sdp-all job (status.SdpRefused fault) h = refl
sdp-all job status.NotAllJudged h = h
sdp-all job (status.ReadFault input) h = refl
sdp-all job status.WriteFault h = refl
sdp-all job status.OutOfMemory h = refl
sdp-all job status.ReportRefused h = h

pub ends-sdp : (asked : Request) (job : SdpJob) (o : Output) (ends : Status) → asked ≡ request.Sdp job → EndsDescribed o ends → Ends (Some asked) o ends
ends-sdp asked job o ends is h = subst (EndsFor o ends) (sym is) (record { status_is = sdp-all job ends h.status_is; silent = h.silent })

-- want of memory, whatever was asked
pub ends-memory : (asked : Option Request) (o : Output) (ends : Status) → Leaves o (Err failure.OutOfMemory) ends → Ends asked o ends
ends-memory asked o ends h = subst (Ends asked o) (sym h.0) (record { status_is = refl; silent = λ s. kept-none o.old o.new h.1 })

-- words that are no request: nothing is written, so no write fails
pub ends-usage : (asked : Option Request) (o : Output) (ends : Status) (answer : Answer) → asked ≡ None → answer ≡ silent status.Usage
    → Leaves o (Ok answer) ends → Ends asked o ends
ends-usage asked o ends answer none is (inl h) =
    subst (λ (a : Option Request). Ends a o ends) (sym none)
    (subst (Ends None o) (sym (h.0 ∙ ap (λ (a : Answer). a.status) is))
    (record { status_is = refl; silent = λ s. subst (λ (a : Answer). Appended o a.text) is h.1 }))
ends-usage asked o ends answer none is (inr h) = absurd (none-broke o (subst (λ (a : Answer). Broke o a.text) is h.1))

-- `selftest`: nothing is read, and its answer has status 0
self-test-end : (job : SelfTestJob) (frames : ℕ) (o : Output) (ends : Status) (outcome : Result Answer Failure) → FollowsSelfTest frames outcome
    → HasCause outcome (λ x. ⊥) → Leaves o outcome ends → Ends (Some (request.SelfTest job)) o ends
self-test-end job frames o ends (Ok answer) (inl memory) cause h = absurd (ok-not-err answer failure.OutOfMemory (Ok answer) refl memory)
self-test-end job frames o ends (Ok answer) (inr g) cause (inl h) =
    let passes : ends ≡ status.Pass = h.0 ∙ ap (λ (a : Answer). a.status) (same-ok answer g.0 (Ok answer) refl g.1) ∙ g.2.status_is in
    subst (Ends (Some (request.SelfTest job)) o) (sym passes) (record { status_is = refl; silent = λ s. absurd (false≢true s) })
self-test-end job frames o ends (Ok answer) (inr g) cause (inr h) =
    subst (Ends (Some (request.SelfTest job)) o) (sym h.0) (record { status_is = refl; silent = λ s. absurd (false≢true s) })
self-test-end job frames o ends (Err (failure.ReadFault input)) follows cause h = absurd cause
self-test-end job frames o ends (Err failure.WriteFault) follows cause h = absurd cause
self-test-end job frames o ends (Err failure.OutOfMemory) follows cause h = ends-memory (Some (request.SelfTest job)) o ends h

pub ends-self-test : (asked : Request) (job : SelfTestJob) (o e : Output) (ends : Status) → asked ≡ request.SelfTest job
    → Ran (FollowsSelfTest job.frames) (λ x. ⊥) o e ends → Ends (Some asked) o ends
ends-self-test asked job o e ends is ran =
    subst (EndsFor o ends) (sym is) (self-test-end job job.frames o ends ran.outcome ran.follows ran.cause ran.printed)

-- `help`: nothing is read, and its answer has status 0
help-end : (named : Option Command) (o : Output) (ends : Status) (outcome : Result Answer Failure) → FollowsHelp named outcome
    → HasCause outcome (λ x. ⊥) → Leaves o outcome ends → Ends (Some (request.Help named)) o ends
help-end named o ends (Ok answer) (inl memory) cause h = absurd (ok-not-err answer failure.OutOfMemory (Ok answer) refl memory)
help-end named o ends (Ok answer) (inr g) cause (inl h) =
    let passes : ends ≡ status.Pass = h.0 ∙ ap (λ (a : Answer). a.status) (same-ok answer g.0 (Ok answer) refl g.1 ∙ g.2) in
    subst (Ends (Some (request.Help named)) o) (sym passes) (record { status_is = refl; silent = λ s. absurd (false≢true s) })
help-end named o ends (Ok answer) (inr g) cause (inr h) =
    subst (Ends (Some (request.Help named)) o) (sym h.0) (record { status_is = refl; silent = λ s. absurd (false≢true s) })
help-end named o ends (Err (failure.ReadFault input)) follows cause h = absurd cause
help-end named o ends (Err failure.WriteFault) follows cause h = absurd cause
help-end named o ends (Err failure.OutOfMemory) follows cause h = ends-memory (Some (request.Help named)) o ends h

pub ends-help : (asked : Request) (named : Option Command) (o e : Output) (ends : Status) → asked ≡ request.Help named
    → Ran (FollowsHelp named) (λ x. ⊥) o e ends → Ends (Some asked) o ends
ends-help asked named o e ends is ran =
    subst (EndsFor o ends) (sym is) (help-end named o ends ran.outcome ran.follows ran.cause ran.printed)
