-- The contents of the capture of `scan` define one answer.
use Rattle.std.proofs.Common.{◌≡◌, ℕ, List, [], ◌∷◌, Some, refl, subst, inl, inr}
use Rattle.std.specs.Prelude.{Ok, Err}
use Rattle.std.proofs.lemmas.List.Elements.{All-head}
use Rattle.timing_base.specs.Jobs.{ScanJob}
use Rattle.pcapng_reader.specs.Classic.{classic}
use Rattle.timing_report.specs.declared.status.Input.{Input}
use Rattle.timing_report.specs.declared.status.Input.TheVariants as input
use Rattle.timing_steps.specs.Answers.{Answer, AreThere, AreTold, Gives, HasRisen, Inputs}
use Rattle.timing_steps.specs.declared.failure.Failure.{Failure}
use Rattle.timing_reach.specs.Asked.{ReadsCapture}
use Rattle.timing_reach.specs.Scanned.{FollowsScan, HasScan, ScanInputRose}
use Rattle.timing_reach.proofs.Scannings.{once-scan, some-scan}
use Rattle.timing_steps.proofs.Onces.{Caused, not-given, ok-not-err, only-given, only-yielded, same-err, same-some, some-yielded, yielded-failed}

-- one capture that is read
some-capture : (i : Inputs) (name text : List ℕ) (Defined : List ℕ → Answer → Type 0) → ¬ i.lacks name → i.texts name ≡ Some text → (answer : Answer)
    × Defined (classic text) answer
    → (answer : Answer) × ReadsCapture i (Ok answer) name (λ t. Gives (Ok answer) (Defined t))
some-capture i name text Defined there told h =
    (h.0, inr (there, λ t e. (h.0, refl, subst (λ x. Defined (classic x) h.0) (same-some text t (i.texts name) told e) h.1)))

only-capture : (i : Inputs) (name text : List ℕ) (Defined : List ℕ → Answer → Type 0) (a b : Answer) → i.texts name ≡ Some text
    → ((x y : Answer) → Defined (classic text) x → Defined (classic text) y → x ≡ y)
    → ReadsCapture i (Ok a) name (λ t. Gives (Ok a) (Defined t)) → ReadsCapture i (Ok b) name (λ t. Gives (Ok b) (Defined t)) → a ≡ b
only-capture i name text Defined a b told once (inl h) k = absurd (ok-not-err a _ (Ok a) refl h.0)
only-capture i name text Defined a b told once (inr h) (inl k) = absurd (ok-not-err b _ (Ok b) refl k.0)
only-capture i name text Defined a b told once (inr h) (inr k) = only-given (Defined (classic text)) a b once (h.1 text told) (k.1 text told)

capture-failed : (i : Inputs) (name text : List ℕ) (Defined : List ℕ → Answer → Type 0) (e : Failure) (Rises : Input → Type 0) → i.texts name ≡ Some text
    → (HasRisen i name → Rises (input.Capture 0))
    → ReadsCapture i (Err e) name (λ t. Gives (Err e) (Defined t)) → Caused e Rises
capture-failed i name text Defined e Rises told rises (inl h) = inr (input.Capture 0, same-err e _ (Err e) refl h.0, rises h.1)
capture-failed i name text Defined e Rises told rises (inr h) = absurd (not-given (Defined (classic text)) e (h.1 text told))

-- what a capture holds
pub some-scanned : (job : ScanJob) (i : Inputs) (texts : List (List ℕ)) → AreThere i.lacks (job.capture ∷ []) → AreTold i.texts (job.capture ∷ []) texts
    → (answer : Answer) × FollowsScan job i (Ok answer)
some-scanned job i [] there told = absurd told
some-scanned job i (text ∷ texts) there told =
    some-yielded (λ answer. ReadsCapture i (Ok answer) job.capture (λ t. Gives (Ok answer) (HasScan job t)))
    (some-capture i job.capture text (HasScan job) (All-head (λ n. ¬ i.lacks n) job.capture [] there) told.0 (some-scan job (classic text)))

pub only-scanned : (job : ScanJob) (i : Inputs) (texts : List (List ℕ)) (a b : Answer) → AreTold i.texts (job.capture ∷ []) texts
    → FollowsScan job i (Ok a) → FollowsScan job i (Ok b) → a ≡ b
only-scanned job i [] a b told h k = absurd told
only-scanned job i (text ∷ texts) a b told h k =
    only-yielded (λ answer. ReadsCapture i (Ok answer) job.capture (λ t. Gives (Ok answer) (HasScan job t))) a b
    (λ p q. only-capture i job.capture text (HasScan job) a b told.0 (once-scan job (classic text)) p q) h k

pub scanned-failed : (job : ScanJob) (i : Inputs) (texts : List (List ℕ)) (e : Failure) → AreTold i.texts (job.capture ∷ []) texts
    → FollowsScan job i (Err e) → Caused e (ScanInputRose job i)
scanned-failed job i [] e told h = absurd told
scanned-failed job i (text ∷ texts) e told h =
    yielded-failed (ReadsCapture i (Err e) job.capture (λ t. Gives (Err e) (HasScan job t))) e (ScanInputRose job i)
    (λ p. capture-failed i job.capture text (HasScan job) e (ScanInputRose job i) told.0 (λ r. (refl, r)) p) h
