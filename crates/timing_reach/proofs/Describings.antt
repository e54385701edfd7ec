-- What follows for `sdp` from how its SDP was read, and that a text has one answer.
use Rattle.std.specs.Prelude.{◌||◌, IfErr, IfOk, Result, Ok, Err}
use Rattle.std.proofs.Common.{◌≡◌, ℕ, Bool, true, false, List, Option, Some, None, refl, ap, ◌∙◌, sym, subst, inl, inr}
use Rattle.std.proofs.lemmas.Bool.{false≢true}
use Rattle.timing_base.specs.Jobs.{SdpJob}
use Rattle.sdp_reader.specs.declared.fault.SdpFault.{SdpFault}
use Rattle.sdp_notes.specs.Described.{Described, described}
use Rattle.timing_report.specs.declared.status.Input.TheVariants as input
use Rattle.timing_report.specs.declared.status.Status.{Status}
use Rattle.timing_report.specs.declared.status.Status.TheVariants as status
use Rattle.timing_steps.specs.Answers.{Answer, HasRisen, Inputs, OnReadFault}
use Rattle.timing_steps.specs.Ran.{HasCause, IsAnswered, Leaves, Output}
use Rattle.timing_steps.specs.declared.failure.Failure.{Failure}
use Rattle.timing_steps.specs.declared.failure.Failure.TheVariants as failure
use Rattle.timing_steps.specs.Ends.{is_failure}
use Rattle.timing_steps.proofs.Endings.{kept-none}
use Rattle.timing_reach.specs.Described.{EndsDescribed, FollowsSdp, HasDescribedStatus, HasDescription, SdpInputRose, is_silent_described, sdp_ends}
use Rattle.timing_reach.specs.Described.{status_told, told}

-- the answer on a description has one of the two statuses
told-status : (fault : Option SdpFault) → sdp_ends (status_told fault) ≡ true
told-status None = refl
told-status (Some fault) = refl

pub described-status : (json : Bool) (d : Described) (answer : Answer) → answer ≡ told json d → HasDescribedStatus answer
described-status json d answer is = subst HasDescribedStatus (sym is) (told-status d.fault)

-- none of them is that of a failure
described-answered : (s : Status) → sdp_ends s ≡ true → IsAnswered s
described-answered status.Pass h = tt
described-answered status.Fail h = tt
described-answered status.Usage h = tt
described-answered (status.SdpRefused fault) h = tt
described-answered status.NotAllJudged h = tt
described-answered (status.ReadFault input) h = absurd (false≢true h)
described-answered status.WriteFault h = absurd (false≢true h)
described-answered status.OutOfMemory h = absurd (false≢true h)
described-answered status.ReportRefused h = tt

-- the SDP is the one input that couldn't be read
pub sdp-cause : (i : Inputs) (job : SdpJob) (outcome : Result Answer Failure) → IfOk outcome HasDescribedStatus
    → IfErr outcome (λ e. OnReadFault e (λ x. (x ≡ input.Sdp) × HasRisen i job.sdp)) → HasCause outcome (SdpInputRose job i)
sdp-cause i job (Ok answer) answers cause = described-answered answer.status answers
sdp-cause i job (Err (failure.ReadFault x)) answers cause = subst (SdpInputRose job i) (sym cause.0) cause.1
sdp-cause i job (Err failure.WriteFault) answers cause = cause
sdp-cause i job (Err failure.OutOfMemory) answers cause = tt

-- an SDP that was read, or couldn't be
pub reads-description : (i : Inputs) (job : SdpJob) (outcome : Result Answer Failure)
    → IfOk outcome (λ answer. (text : List ℕ) → i.texts job.sdp ≡ Some text → answer ≡ told job.json (described text))
    → IfOk outcome (λ _. ¬ i.lacks job.sdp)
    → IfErr outcome (λ e. OnReadFault e (λ x. (x ≡ input.Sdp) × HasRisen i job.sdp))
    → FollowsSdp job i outcome
reads-description i job (Ok answer) is there cause = inr (inr (there, λ text t. (answer, refl, is text t)))
reads-description i job (Err (failure.ReadFault x)) is there cause = inr (inl (ap (λ y. Err (failure.ReadFault y)) cause.0, cause.1))
reads-description i job (Err failure.WriteFault) is there cause = absurd cause
reads-description i job (Err failure.OutOfMemory) is there cause = inl refl

-- with the status of an answer there is an output
never-silent : (s : Status) → sdp_ends s ≡ true → is_silent_described s ≡ false
never-silent status.Pass h = refl
never-silent status.Fail h = absurd (false≢true h)
never-silent status.Usage h = absurd (false≢true h)
never-silent (status.SdpRefused fault) h = refl
never-silent status.NotAllJudged h = absurd (false≢true h)
never-silent (status.ReadFault input) h = absurd (false≢true h)
never-silent status.WriteFault h = absurd (false≢true h)
never-silent status.OutOfMemory h = absurd (false≢true h)
never-silent status.ReportRefused h = absurd (false≢true h)

-- how a run ends
pub ends-described : (o : Output) (outcome : Result Answer Failure) (ends : Status) → Leaves o outcome ends → IfOk outcome HasDescribedStatus
    → EndsDescribed o ends
ends-described o (Ok answer) ends (inl h) has = subst (EndsDescribed o) (sym h.0) (record {
  status_is = ap (λ b. b || is_failure answer.status) has;
  silent = λ s. absurd (false≢true (sym (never-silent answer.status has) ∙ s));
})
ends-described o (Ok answer) ends (inr h) has = subst (EndsDescribed o) (sym h.0) (record { status_is = refl; silent = λ s. absurd (false≢true s) })
ends-described o (Err (failure.ReadFault x)) ends h has =
    subst (EndsDescribed o) (sym h.0) (record { status_is = refl; silent = λ s. kept-none o.old o.new h.1 })
ends-described o (Err failure.WriteFault) ends h has = subst (EndsDescribed o) (sym h.0) (record { status_is = refl; silent = λ s. absurd (false≢true s) })
ends-described o (Err failure.OutOfMemory) ends h has = subst (EndsDescribed o) (sym h.0) (record { status_is = refl; silent = λ s. kept-none o.old o.new h.1 })

-- a text has one answer
pub some-description : (job : SdpJob) (text : List ℕ) → (answer : Answer) × HasDescription job text answer
some-description job text = (told job.json (described text), refl)

pub once-description : (job : SdpJob) (text : List ℕ) (a b : Answer) → HasDescription job text a → HasDescription job text b → a ≡ b
once-description job text a b h k = h ∙ sym k
