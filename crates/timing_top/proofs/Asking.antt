-- The texts of a request define one answer.
use Rattle.std.proofs.Common.{◌≡◌, ◌⊎◌, ℕ, List, Option, Some, None, refl, sym, ◌∙◌}
use Rattle.std.specs.Prelude.{Ok, Err, map}
use Rattle.timing_words.specs.declared.command.Command.{Command}
use Rattle.timing_words.specs.declared.request.Request.{Request}
use Rattle.timing_words.specs.declared.request.Request.TheVariants as request
use Rattle.timing_report.specs.declared.status.Input.{Input}
use Rattle.timing_report.specs.declared.status.Status.{Status}
use Rattle.timing_report.specs.declared.status.Status.TheVariants as status
use Rattle.pcapng_reader.specs.Classic.{classic}
use Rattle.timing_steps.specs.Answers.{Answer, AreThere, AreTold, Gives, Inputs, silent}
use Rattle.timing_steps.specs.declared.failure.Failure.{Failure}
use Rattle.timing_steps.specs.declared.failure.Failure.TheVariants as failure
use Rattle.timing_steps.proofs.Onces.{Caused, not-given, only-given, only-queried, only-silent, only-yielded, queried-failed, some-given, some-queried}
use Rattle.timing_steps.proofs.Onces.{some-yielded, yielded-failed}
use Rattle.timing_reach.specs.Shaped.{shape_query}
use Rattle.timing_reach.specs.Skewed.{skew_query}
use Rattle.timing_reach.specs.Windows.{window_query}
use Rattle.timing_reach.proofs.Skewing.{once-skew, some-skew}
use Rattle.timing_reach.proofs.SomeShape.{once-shape, some-shape}
use Rattle.timing_reach.proofs.Windowing.{once-window, some-window}
use Rattle.timing_explain.specs.Explained.{explain_query}
use Rattle.timing_explain.proofs.Some.{some-explain}
use Rattle.timing_explain.proofs.Unique.{once-explain}
use Rattle.timing_measure.specs.Measures.{measure_query}
use Rattle.timing_measure.specs.page.Pages.{page_query}
use Rattle.timing_measure.specs.series.Series.{series_query}
use Rattle.timing_measure.proofs.Some.{some-measure}
use Rattle.timing_measure.proofs.Unique.{once-measure}
use Rattle.timing_measure.proofs.lemmas.page.Some.{some-page}
use Rattle.timing_measure.proofs.lemmas.page.Unique.{once-page}
use Rattle.timing_measure.proofs.lemmas.series.Some.{some-series}
use Rattle.timing_measure.proofs.lemmas.series.Unique.{once-series}
use Rattle.timing_watch.specs.Watches.{watch_query}
use Rattle.timing_watch.proofs.Some.{some-watch}
use Rattle.timing_watch.proofs.Unique.{once-watch}
use Rattle.timing_top.specs.Asked.{Follows, FollowsAtOnce, FollowsHelp, FollowsSelfTest, InputRose, MeasuresBytes, names_of, page, query_of}
use Rattle.timing_top.specs.Report.{check_query}
use Rattle.timing_top.specs.SelfTest.{HasSelfTest}
use Rattle.timing_top.specs.verify.Asked.{verify_query}
use Rattle.timing_top.proofs.Measurable.{have-stamps}
use Rattle.timing_top.proofs.Describing.{described-failed, only-described, some-described}
use Rattle.timing_top.proofs.Scanning.{only-scanned, scanned-failed, some-scanned}
use Rattle.timing_top.proofs.Reported.{only-reread, reread-failed, some-reread}
use Rattle.timing_top.proofs.Reports.{once-check, some-check}
use Rattle.timing_top.proofs.SelfTests.{only-self_test, some-self_test}
use Rattle.timing_top.proofs.lemmas.verify.Unique.{once-verify, some-verify}

-- what is answered without an input
some-self : (frames : ℕ) → (answer : Answer) × FollowsSelfTest frames (Ok answer)
some-self frames = some-yielded (λ answer. Gives (Ok answer) (HasSelfTest frames)) (some-given (HasSelfTest frames) (some-self_test frames))

only-self : (frames : ℕ) (a b : Answer) → FollowsSelfTest frames (Ok a) → FollowsSelfTest frames (Ok b) → a ≡ b
only-self frames a b h k = only-yielded (λ answer. Gives (Ok answer) (HasSelfTest frames)) a b
    (λ p q. only-given (HasSelfTest frames) a b (only-self_test frames) p q) h k

self-failed : (frames : ℕ) (e : Failure) (Rises : Input → Type 0) → FollowsSelfTest frames (Err e) → Caused e Rises
self-failed frames e Rises h = yielded-failed (Gives (Err e) (HasSelfTest frames)) e Rises (λ p. absurd (not-given (HasSelfTest frames) e p)) h

some-help : (named : Option Command) → (answer : Answer) × FollowsHelp named (Ok answer)
some-help named = some-yielded (λ answer. Gives (Ok answer) (λ x. x ≡ page named)) (some-given (λ x. x ≡ page named) (page named, refl))

only-help : (named : Option Command) (a b : Answer) → FollowsHelp named (Ok a) → FollowsHelp named (Ok b) → a ≡ b
only-help named a b h k =
    only-yielded (λ answer. Gives (Ok answer) (λ x. x ≡ page named)) a b (λ p q. only-given (λ x. x ≡ page named) a b (λ x y s t. s ∙ sym t) p q) h k

help-failed : (named : Option Command) (e : Failure) (Rises : Input → Type 0) → FollowsHelp named (Err e) → Caused e Rises
help-failed named e Rises h = yielded-failed (Gives (Err e) (λ x. x ≡ page named)) e Rises (λ p. absurd (not-given (λ x. x ≡ page named) e p)) h

some-at_once : (ends : Status) → (answer : Answer) × FollowsAtOnce ends (Ok answer)
some-at_once ends = some-yielded (λ answer. Gives (Ok answer) (λ x. x ≡ silent ends)) (some-given (λ x. x ≡ silent ends) (silent ends, refl))

only-at_once : (ends : Status) (a b : Answer) → FollowsAtOnce ends (Ok a) → FollowsAtOnce ends (Ok b) → a ≡ b
only-at_once ends a b h k =
    only-yielded (λ answer. Gives (Ok answer) (λ x. x ≡ silent ends)) a b (λ p q. only-given (λ x. x ≡ silent ends) a b (λ x y s t. only-silent x y _ s t) p q)
    h k

at_once-failed : (ends : Status) (e : Failure) (Rises : Input → Type 0) → FollowsAtOnce ends (Err e) → Caused e Rises
at_once-failed ends e Rises h = yielded-failed (Gives (Err e) (λ x. x ≡ silent ends)) e Rises (λ p. absurd (not-given (λ x. x ≡ silent ends) e p)) h

-- there is one answer
pub some-answer : (asked : Option Request) (i : Inputs) (texts : List (List ℕ)) → AreThere i.lacks (names_of asked) → AreTold i.texts (names_of asked) texts
    → MeasuresBytes asked texts
    → (answer : Answer) × Follows asked i (Ok answer)
some-answer None i texts there told bytes = some-at_once status.Usage
some-answer (Some (request.VerifyReport job)) i texts there told bytes = some-reread job i texts there told
some-answer (Some (request.SelfTest job)) i texts there told bytes = some-self job.frames
some-answer (Some (request.Scan job)) i texts there told bytes = some-scanned job i texts there told
some-answer (Some (request.Sdp job)) i texts there told bytes = some-described job i texts there told
some-answer (Some (request.Help named)) i texts there told bytes = some-help named
some-answer (Some (request.Check job)) i texts there told bytes =
    some-queried (check_query job) i texts there told (λ read are. some-check job (map classic read))
some-answer (Some (request.Verify job)) i texts there told bytes =
    some-queried (verify_query job) i texts there told (λ read are. some-verify job (map classic read))
some-answer (Some (request.Window job)) i texts there told bytes =
    some-queried (window_query job) i texts there told (λ read are. some-window job (map classic read))
some-answer (Some (request.Shape job)) i texts there told bytes =
    some-queried (shape_query job) i texts there told (λ read are. some-shape job (map classic read))
some-answer (Some (request.Skew job)) i texts there told bytes = some-queried (skew_query job) i texts there told (λ read are. some-skew job (map classic read))
some-answer (Some (request.Measure job)) i texts there told bytes =
    some-queried (measure_query job) i texts there told
    (λ read are. some-measure job (map classic read) bytes.0 (have-stamps (measure_query job) i texts read bytes.0.inputs.captures_are.few told are bytes.1))
some-answer (Some (request.Series job)) i texts there told bytes =
    some-queried (series_query job) i texts there told (λ read are. some-series job (map classic read))
some-answer (Some (request.Page job)) i texts there told bytes =
    some-queried (page_query job) i texts there told
    (λ read are. some-page job (map classic read) bytes.0 (have-stamps (page_query job) i texts read bytes.0.inputs.captures_are.few told are bytes.1))
some-answer (Some (request.Explain job)) i texts there told bytes =
    some-queried (explain_query job) i texts there told
    (λ read are. some-explain job (map classic read) bytes.0 (have-stamps (explain_query job) i texts read bytes.0.inputs.captures_are.few told are bytes.1))
some-answer (Some (request.Watch job)) i texts there told bytes =
    some-queried (watch_query job) i texts there told (λ read are. some-watch job (map classic read) bytes)

-- there are not two
pub only-answer : (asked : Option Request) (i : Inputs) (texts : List (List ℕ)) (a b : Answer) → AreTold i.texts (names_of asked) texts
    → Follows asked i (Ok a)
    → Follows asked i (Ok b) → a ≡ b
only-answer None i texts a b told h k = only-at_once status.Usage a b h k
only-answer (Some (request.VerifyReport job)) i texts a b told h k = only-reread job i texts a b told h k
only-answer (Some (request.SelfTest job)) i texts a b told h k = only-self job.frames a b h k
only-answer (Some (request.Scan job)) i texts a b told h k = only-scanned job i texts a b told h k
only-answer (Some (request.Sdp job)) i texts a b told h k = only-described job i texts a b told h k
only-answer (Some (request.Help named)) i texts a b told h k = only-help named a b h k
only-answer (Some (request.Check job)) i texts a b told h k = only-queried (check_query job) i texts a b (once-check job) told h k
only-answer (Some (request.Verify job)) i texts a b told h k = only-queried (verify_query job) i texts a b (once-verify job) told h k
only-answer (Some (request.Window job)) i texts a b told h k = only-queried (window_query job) i texts a b (once-window job) told h k
only-answer (Some (request.Shape job)) i texts a b told h k = only-queried (shape_query job) i texts a b (once-shape job) told h k
only-answer (Some (request.Skew job)) i texts a b told h k = only-queried (skew_query job) i texts a b (once-skew job) told h k
only-answer (Some (request.Measure job)) i texts a b told h k = only-queried (measure_query job) i texts a b (once-measure job) told h k
only-answer (Some (request.Series job)) i texts a b told h k = only-queried (series_query job) i texts a b (once-series job) told h k
only-answer (Some (request.Page job)) i texts a b told h k = only-queried (page_query job) i texts a b (once-page job) told h k
only-answer (Some (request.Explain job)) i texts a b told h k = only-queried (explain_query job) i texts a b (once-explain job) told h k
only-answer (Some (request.Watch job)) i texts a b told h k = only-queried (watch_query job) i texts a b (once-watch job) told h k

-- what has none has a cause
pub answer-failed : (asked : Option Request) (i : Inputs) (texts : List (List ℕ)) (e : Failure) → AreTold i.texts (names_of asked) texts
    → Follows asked i (Err e)
    → (e ≡ failure.OutOfMemory) ⊎ ((input : Input) × (e ≡ failure.ReadFault input) × InputRose asked i input)
answer-failed None i texts e told h = at_once-failed status.Usage e (InputRose None i) h
answer-failed (Some (request.VerifyReport job)) i texts e told h = reread-failed job i texts e told h
answer-failed (Some (request.SelfTest job)) i texts e told h = self-failed job.frames e (InputRose (Some (request.SelfTest job)) i) h
answer-failed (Some (request.Scan job)) i texts e told h = scanned-failed job i texts e told h
answer-failed (Some (request.Sdp job)) i texts e told h = described-failed job i texts e told h
answer-failed (Some (request.Help named)) i texts e told h = help-failed named e (InputRose (Some (request.Help named)) i) h
answer-failed (Some command) i texts e told h = queried-failed (query_of command) i texts e told h
