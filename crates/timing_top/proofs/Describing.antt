-- The contents of the SDP of `sdp` define one answer.
use Rattle.std.proofs.Common.{◌≡◌, ℕ, List, [], ◌∷◌, Some, refl, subst, inl, inr}
use Rattle.std.specs.Prelude.{Ok, Err}
use Rattle.std.proofs.lemmas.List.Elements.{All-head}
use Rattle.timing_base.specs.Jobs.{SdpJob}
use Rattle.timing_report.specs.declared.status.Input.TheVariants as input
use Rattle.timing_steps.specs.Answers.{Answer, AreThere, AreTold, Gives, Inputs, ReadsSdp}
use Rattle.timing_steps.specs.declared.failure.Failure.{Failure}
use Rattle.timing_steps.proofs.Onces.{Caused, not-given, ok-not-err, only-given, only-yielded, same-err, same-some, some-yielded, yielded-failed}
use Rattle.timing_reach.specs.Described.{FollowsSdp, HasDescription, SdpInputRose}
use Rattle.timing_reach.proofs.Describings.{once-description, some-description}

some-text : (job : SdpJob) (i : Inputs) (text : List ℕ) → ¬ i.lacks job.sdp → i.texts job.sdp ≡ Some text
    → (answer : Answer) × ReadsSdp i (Ok answer) job.sdp (λ t. Gives (Ok answer) (HasDescription job t))
some-text job i text there is =
    let h = some-description job text in
    (h.0, inr (there, λ t e. (h.0, refl, subst (λ x. HasDescription job x h.0) (same-some text t (i.texts job.sdp) is e) h.1)))

only-text : (job : SdpJob) (i : Inputs) (text : List ℕ) (a b : Answer) → i.texts job.sdp ≡ Some text
    → ReadsSdp i (Ok a) job.sdp (λ t. Gives (Ok a) (HasDescription job t)) → ReadsSdp i (Ok b) job.sdp (λ t. Gives (Ok b) (HasDescription job t)) → a ≡ b
only-text job i text a b is (inl h) k = absurd (ok-not-err a _ (Ok a) refl h.0)
only-text job i text a b is (inr h) (inl k) = absurd (ok-not-err b _ (Ok b) refl k.0)
only-text job i text a b is (inr h) (inr k) = only-given (HasDescription job text) a b (once-description job text) (h.1 text is) (k.1 text is)

text-failed : (job : SdpJob) (i : Inputs) (text : List ℕ) (e : Failure) → i.texts job.sdp ≡ Some text
    → ReadsSdp i (Err e) job.sdp (λ t. Gives (Err e) (HasDescription job t)) → Caused e (SdpInputRose job i)
text-failed job i text e is (inl h) = inr (input.Sdp, same-err e _ (Err e) refl h.0, h.1)
text-failed job i text e is (inr h) = absurd (not-given (HasDescription job text) e (h.1 text is))

-- how the SDP is read
pub some-described : (job : SdpJob) (i : Inputs) (texts : List (List ℕ)) → AreThere i.lacks (job.sdp ∷ []) → AreTold i.texts (job.sdp ∷ []) texts
    → (answer : Answer) × FollowsSdp job i (Ok answer)
some-described job i [] there told = absurd told
some-described job i (text ∷ texts) there told =
    some-yielded (λ answer. ReadsSdp i (Ok answer) job.sdp (λ t. Gives (Ok answer) (HasDescription job t)))
    (some-text job i text (All-head (λ n. ¬ i.lacks n) job.sdp [] there) told.0)

pub only-described : (job : SdpJob) (i : Inputs) (texts : List (List ℕ)) (a b : Answer) → AreTold i.texts (job.sdp ∷ []) texts
    → FollowsSdp job i (Ok a) → FollowsSdp job i (Ok b) → a ≡ b
only-described job i [] a b told h k = absurd told
only-described job i (text ∷ texts) a b told h k =
    only-yielded (λ answer. ReadsSdp i (Ok answer) job.sdp (λ t. Gives (Ok answer) (HasDescription job t))) a b
    (λ p q. only-text job i text a b told.0 p q) h k

pub described-failed : (job : SdpJob) (i : Inputs) (texts : List (List ℕ)) (e : Failure) → AreTold i.texts (job.sdp ∷ []) texts
    → FollowsSdp job i (Err e) → Caused e (SdpInputRose job i)
described-failed job i [] e told h = absurd told
described-failed job i (text ∷ texts) e told h =
    yielded-failed (ReadsSdp i (Err e) job.sdp (λ t. Gives (Err e) (HasDescription job t))) e (SdpInputRose job i)
    (λ p. text-failed job i text e told.0 p) h
