-- What follows for the two commands from what their steps found.
use Rattle.std.proofs.Common.{◌≡◌, ℕ, false, List, Option, Some, None, refl, ap, ◌∙◌, sym, subst, inl, inr}
use Rattle.std.specs.Prelude.{Bool, MatchOption, Result, Ok, slice_get}
use Rattle.timing_base.specs.Shifts.{FlowOptions}
use Rattle.timing_base.specs.Jobs.{ReportJob, VerifyJob}
use Rattle.timing_base.specs.Media.{Media}
use Rattle.timing_base.specs.declared.row.Unjudged.{Unjudged}
use Rattle.sdp_reader.specs.Session.{session}
use Rattle.timing_report.specs.json_report.Reading.{IsReport}
use Rattle.timing_report.specs.declared.json_report.reading.ReportProof.{ReportProof}
use Rattle.timing_report.specs.declared.status.Status.TheVariants as status
use Rattle.timing_steps.specs.Answers.{Answer, Gives, Inputs, Yields, silent}
use Rattle.timing_steps.specs.Flows.{OnMedia, no_choice, no_media}
use Rattle.timing_steps.specs.Queries.{HasAnswer, OnEarly}
use Rattle.timing_steps.specs.declared.failure.Failure.{Failure}
use Rattle.timing_top.specs.verify.Asked.{AnswersClaims, AnswersReport, AnswersSession, DefinesVerified, FollowsReport, HasReported, ReadsReport, asked, claim_of}
use Rattle.timing_top.specs.verify.Asked.{not_there, verify_query}
use Rattle.timing_top.specs.verify.Findings.{Finds, FindsIn}
use Rattle.timing_top.specs.verify.Verified.{verified}
use Rattle.timing_steps.proofs.Capturing.{some-none}
use Rattle.timing_steps.proofs.Seeing.{Sees, follows-session, yields-on}
use Rattle.timing_top.proofs.lemmas.verify.Seeing.{needed-seen, report-seen}

-- a report that was read leads on to what follows for its fails
pub follows-report : (i : Inputs) (outcome : Result Answer Failure) (name : List ℕ) (claims : List ReportProof) (next : List ReportProof → Type 0)
    → ¬ i.lacks name
    → ((text : List ℕ) → i.texts name ≡ Some text → IsReport text claims) → Yields outcome (next claims) → Yields outcome (ReadsReport i outcome name next)
follows-report i outcome name claims next there told (inl memory) = inl memory
follows-report i outcome name claims next there told (inr follows) = inr (inr (there, λ text t. inr (claims, told text t, follows)))

-- or is none
pub follows-none : (i : Inputs) (answer : Answer) (asked name : List ℕ) (next : List ReportProof → Type 0) → asked ≡ name → ¬ i.lacks asked
    → ((text : List ℕ) → i.texts asked ≡ Some text → (claims : List ReportProof) → ¬ IsReport text claims) → answer ≡ silent status.ReportRefused
    → Yields (Ok answer) (ReadsReport i (Ok answer) name next)
follows-none i answer asked name next named there told is =
    inr (inr (subst (λ (n : List ℕ). ¬ i.lacks n) named there, λ text t. inl (told text (ap i.texts named ∙ t), (answer, refl, is))))

-- of an option that is known
pub matched : {X : Type 0} (o : Option X) (x : X) (P : Type 0) (Q : X → Type 0) → o ≡ Some x → MatchOption o P Q → Q x
matched o x P Q e h = subst (λ y. MatchOption y P Q) e h

pub unmatched : {X : Type 0} (o : Option X) (P : Type 0) (Q : X → Type 0) → o ≡ None → MatchOption o P Q → P
unmatched o P Q e h = subst (λ y. MatchOption y P Q) e h

-- what follows for the fails that are checked, and for the media, was seen later
claims-seen : (i j : Inputs) (job : ReportJob) (outcome : Result Answer Failure) (media : List Media) (claims : List ReportProof) → Sees i j
    → AnswersClaims job j outcome media claims → AnswersClaims job i outcome media claims
claims-seen i j job outcome media claims s h = needed-seen i j outcome job media claims (λ text. Gives outcome (HasReported job media claims text)) s h

early-seen : (i j : Inputs) (job : ReportJob) (outcome : Result Answer Failure) (media : List Media) (settled : Option Answer) → Sees i j
    → OnEarly settled outcome (AnswersReport job j outcome media) → OnEarly settled outcome (AnswersReport job i outcome media)
early-seen i j job outcome media (Some settled) s h = h
early-seen i j job outcome media None s h =
    report-seen i j outcome job.report (λ claims. AnswersClaims job j outcome media (asked job.media claims))
    (λ claims. AnswersClaims job i outcome media (asked job.media claims)) s (λ claims n. claims-seen i j job outcome media (asked job.media claims) s n) h

-- a description was read, and what follows for its media was seen later
pub report-session : (i j : Inputs) (job : ReportJob) (outcome : Result Answer Failure) (name : List ℕ) (media : List Media) → Sees i j → name ≡ job.sdp
    → ¬ i.lacks name
    → ((text : List ℕ) → i.texts name ≡ Some text → session text ≡ Ok media)
    → Yields outcome (AnswersSession job j outcome media) → FollowsReport job i outcome
report-session i j job outcome name media s named there told h =
    follows-session i outcome job.sdp media (AnswersSession job i outcome)
    (subst (λ (n : List ℕ). ¬ i.lacks n) named there) (λ text t. told text (ap i.texts named ∙ t))
    (yields-on outcome _ _ (λ r. early-seen i j job outcome media (no_choice job.media media) s r) h)

-- the media settle the answer, or don't
pub session-settled : (i : Inputs) (job : ReportJob) (media : List Media) (found : Option Answer) (answer : Answer) → found ≡ Some answer
    → found ≡ no_choice job.media media → Yields (Ok answer) (AnswersSession job i (Ok answer) media)
session-settled i job media found answer is early =
    inr (subst (λ o. OnEarly o (Ok answer) (AnswersReport job i (Ok answer) media)) (sym is ∙ early) (answer, refl, refl))

pub session-open : (i : Inputs) (job : ReportJob) (outcome : Result Answer Failure) (all media : List Media) (found : Option Answer) → found ≡ None
    → found ≡ no_choice job.media media → all ≡ media → Yields outcome (AnswersReport job i outcome all) → Yields outcome (AnswersSession job i outcome media)
session-open i job outcome all media found is early same h =
    yields-on outcome _ _ (λ r. subst (λ o. OnEarly o outcome (AnswersReport job i outcome media)) (sym is ∙ early)
    (subst (λ (m : List Media). AnswersReport job i outcome m) same r)) h

-- a report was read, and what follows for the fails that are checked was seen later
pub report-read : (i j : Inputs) (job : ReportJob) (media : List Media) (outcome : Result Answer Failure) (name : List ℕ) (all claims : List ReportProof)
    → Sees i j → name ≡ job.report → all ≡ asked job.media claims → ¬ i.lacks name
    → ((text : List ℕ) → i.texts name ≡ Some text → IsReport text claims)
    → Yields outcome (AnswersClaims job j outcome media all)
    → Yields outcome (AnswersReport job i outcome media)
report-read i j job media outcome name all claims s named same there told h =
    follows-report i outcome job.report claims (λ c. AnswersClaims job i outcome media (asked job.media c))
    (subst (λ (n : List ℕ). ¬ i.lacks n) named there) (λ text t. told text (ap i.texts named ∙ t))
    (yields-on outcome _ _ (λ n.
    subst (λ (c : List ReportProof). AnswersClaims job i outcome media c) same (claims-seen i j job outcome media all s n)) h)

-- what was found in captures with these contents is the answer of `verify`
pub has-verified : (job : VerifyJob) (media : List Media) (m : Media) (texts : List (List ℕ)) (claim : ReportProof) (options : FlowOptions) (finding : Result
    Bool Unjudged)
    (answer : Answer) → slice_get media job.media ≡ Some m → claim ≡ claim_of job → options ≡ job.options → Finds m claim options texts finding
    → answer ≡ verified finding
    → HasAnswer (verify_query job) media texts answer
has-verified job media m texts claim options finding answer found asked late h is = record {
  files = h.files;
  notes = h.notes;
  records = h.records;
  defined = subst (λ o. OnMedia o (λ x. DefinesVerified job x h.files answer)) (sym found) (record {
    finding = finding;
    finds = subst (λ (c : ReportProof). FindsIn m c job.options h.files finding) asked
        (subst (λ (t : FlowOptions). FindsIn m claim t h.files finding) late h.says);
    answer_is = is;
  });
}

-- the SDP has the media
pub there-media : (found : Option Media) → not_there found ≡ None → no_media found ≡ None
there-media None h = absurd (some-none (verified (Ok false)) h)
there-media (Some m) h = refl
