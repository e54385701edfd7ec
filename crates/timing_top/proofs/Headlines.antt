-- A run of `check` in one sentence.
use Rattle.std.proofs.Common.{◌≡◌, ◌∙◌, ℕ, suc, List, [], ◌∷◌, Option, Some, None, Ok, Err, ap, arith, length, refl, subst, inl, inr}
use Rattle.std.specs.Prelude.{All, Result, map}
use Rattle.std.proofs.lemmas.List.{length-map}
use Rattle.timing_base.specs.Jobs.{CheckJob, IsCheckJob}
use Rattle.timing_base.specs.Media.{IsMedia, Media}
use Rattle.timing_words.specs.declared.request.Request.{Request}
use Rattle.timing_words.specs.declared.request.Request.TheVariants as request
use Rattle.pcapng_reader.specs.Bytes.{AreBytes}
use Rattle.pcapng_reader.specs.Classic.{classic}
use Rattle.pcapng_reader.proofs.Bytes.{each-bytes}
use Rattle.sdp_reader.specs.Session.{session}
use Rattle.sdp_reader.specs.declared.fault.SdpFault.{SdpFault}
use Rattle.sdp_reader.proofs.Within.{session-within}
use Rattle.timing_report.specs.declared.status.Status.{Status}
use Rattle.timing_report.specs.declared.status.Status.TheVariants as status
use Rattle.timing_steps.specs.Answers.{Answer, AreTold, Gives, Inputs, OnSession, ReadsCaptures, silent}
use Rattle.timing_steps.specs.Flows.{no_choice}
use Rattle.timing_steps.specs.Queries.{FollowsQuery, OnEarly, QueryInputRose}
use Rattle.timing_steps.specs.Ran.{Appended, Broke, HasCause, Leaves, Output, Ran}
use Rattle.timing_steps.specs.declared.failure.Failure.{Failure}
use Rattle.timing_steps.specs.declared.failure.Failure.TheVariants as failure
use Rattle.timing_words.specs.Request.{request as request_of}
use Rattle.timing_words.proofs.Limits.{request-within}
use Rattle.timing_top.specs.Asked.{Follows, FollowsAtOnce, InputRose}
use Rattle.timing_top.specs.Headline.{Headline, IsSettledOr, IsTheAnswer, IsTheReport, NoRequest, out_of_memory, refused, reported, unread, unwritten, with_workers}
use Rattle.timing_top.specs.Report.{HasReport, check_query}
use Rattle.timing_steps.proofs.Onces.{ok-not-err, same-ok}
use Rattle.timing_top.proofs.Exact.{job-exact}
use Rattle.timing_top.proofs.Reports.{only-report}

-- the number of workers is in no report
pub same-report : (job : CheckJob) (workers : ℕ) (media : List Media) (texts : List (List ℕ)) (answer : Answer) → HasReport job media texts answer
    → HasReport (with_workers workers job) media texts answer
same-report job workers media texts answer h =
    record {
      files = h.files;
      notes = h.notes;
      records = h.records;
      defined = record { text_is = h.defined.text_is; status_is = h.defined.status_is };
    }

-- nor in what `check` follows
pub same-follows : (job : CheckJob) (workers : ℕ) (i : Inputs) (outcome : Result Answer Failure) → FollowsQuery (check_query job) i outcome
    → FollowsQuery (check_query (with_workers workers job)) i outcome
same-follows job workers i outcome (inl memory) = inl memory
same-follows job workers i outcome (inr (inl failed)) = inr (inl failed)
same-follows job workers i outcome (inr (inr read)) = inr (inr (read.0, λ text told. on (session text) (read.1 text told)))
  where
    captured : (media : List Media) → ReadsCaptures i outcome job.captures (λ texts. Gives outcome (HasReport job media texts))
        → ReadsCaptures i outcome job.captures (λ texts. Gives outcome (HasReport (with_workers workers job) media texts))
    captured media (inl failed) = inl failed
    captured media (inr read) = inr (read.0, λ texts told. let g = read.1 texts told in (g.0, g.1, same-report job workers media (map classic texts) g.0 g.2))

    early : (media : List Media) (settled : Option Answer)
        → OnEarly settled outcome (ReadsCaptures i outcome job.captures (λ texts. Gives outcome (HasReport job media texts)))
        → OnEarly settled outcome (ReadsCaptures i outcome job.captures (λ texts. Gives outcome (HasReport (with_workers workers job) media texts)))
    early media (Some settled) h = h
    early media None h = captured media h

    on : (s : Result (List Media) SdpFault)
        → OnSession s outcome (λ media. OnEarly (no_choice job.media media) outcome
        (ReadsCaptures i outcome job.captures (λ texts. Gives outcome (HasReport job media texts))))
        → OnSession s outcome (λ media. OnEarly (no_choice job.media media) outcome
        (ReadsCaptures i outcome job.captures (λ texts. Gives outcome (HasReport (with_workers workers job) media texts))))
    on (Err fault) h = h
    on (Ok media) h = early media (no_choice job.media media) h

-- each name that is told has a text
pub told-length : (texts : List ℕ → Option (List ℕ)) (names told : List (List ℕ)) → AreTold texts names told → length told ≡ length names
told-length texts [] [] h = refl
told-length texts [] (t ∷ ts) h = absurd h
told-length texts (n ∷ ns) [] h = absurd h
told-length texts (n ∷ ns) (t ∷ ts) h = ap suc (told-length texts ns ts h.1)

-- a report of captures that are bytes is the one that the sentence speaks of
the-report : (job : CheckJob) (media : List Media) (captures : List (List ℕ)) (answer : Answer) → IsCheckJob job → All IsMedia media → All AreBytes captures
    → length captures ≡ length job.captures → HasReport job media (map classic captures) answer → IsTheReport job media captures answer
the-report job media captures answer is are bytes many h = record {
  defined = h;
  only = λ other k. only-report job media (map classic captures) other answer k h;
  workers = λ number. same-report job number media (map classic captures) answer h;
  rows_are = job-exact job media (map classic captures) h.files h.notes is.options_are
      (omega (arith, length-map captures classic, many, is.captures_are.few)) are (each-bytes captures bytes) h.records;
}

-- what there is to print: nothing, with the first fault of the description as the status, or the answer over its media
abbrev IsToPrint : CheckJob → Result (List Media) SdpFault → (captures : List (List ℕ)) → Answer → Type 0
IsToPrint job (Err fault) captures answer = answer ≡ silent (status.SdpRefused fault)
IsToPrint job (Ok media) captures answer = IsTheAnswer job media captures answer

-- what an answer of `check` is
to-print : (job : CheckJob) (i : Inputs) (sdp : List ℕ) (captures : List (List ℕ)) (answer : Answer) → IsCheckJob job → i.texts job.sdp ≡ Some sdp
    → AreTold i.texts job.captures captures → All AreBytes captures → FollowsQuery (check_query job) i (Ok answer) → IsToPrint job (session sdp) captures answer
to-print job i sdp captures answer is told are bytes (inl memory) = absurd (ok-not-err answer failure.OutOfMemory (Ok answer) refl memory)
to-print job i sdp captures answer is told are bytes (inr (inl failed)) = absurd (ok-not-err answer _ (Ok answer) refl failed.0)
to-print job i sdp captures answer is told are bytes (inr (inr read)) = on (session sdp) refl (read.1 sdp told)
  where
    captured : (media : List Media) → All IsMedia media → ReadsCaptures i (Ok answer) job.captures (λ texts. Gives (Ok answer) (HasReport job media texts))
        → IsTheReport job media captures answer
    captured media each (inl failed) = absurd (ok-not-err answer _ (Ok answer) refl failed.1)
    captured media each (inr read) =
        let g = read.1 captures are in
        the-report job media captures answer is each bytes (told-length i.texts job.captures captures are)
        (subst (HasReport job media (map classic captures)) (same-ok g.0 answer (Ok answer) g.1 refl) g.2)

    early : (media : List Media) (settled : Option Answer) → All IsMedia media
        → OnEarly settled (Ok answer) (ReadsCaptures i (Ok answer) job.captures (λ texts. Gives (Ok answer) (HasReport job media texts)))
        → IsSettledOr settled answer (IsTheReport job media captures answer)
    early media (Some settled) each h = same-ok answer h.0 (Ok answer) refl h.1 ∙ h.2
    early media None each h = captured media each h

    on : (s : Result (List Media) SdpFault) → session sdp ≡ s
        → OnSession s (Ok answer) (λ media. OnEarly (no_choice job.media media) (Ok answer)
        (ReadsCaptures i (Ok answer) job.captures (λ texts. Gives (Ok answer) (HasReport job media texts))))
        → IsToPrint job s captures answer
    on (Err fault) e h = same-ok answer h.0 (Ok answer) refl h.1 ∙ h.2
    on (Ok media) e h = early media (no_choice job.media media) (session-within sdp media e) h

-- an answer that was printed, by what it is
printed-whole : (job : CheckJob) (sdp : List ℕ) (captures : List (List ℕ)) (i : Inputs) (o : Output) (ends : Status)
    (s : Result (List Media) SdpFault) (answer : Answer) → session sdp ≡ s → IsToPrint job s captures answer → ends ≡ answer.status → Appended o answer.text
    → Headline job sdp captures i o ends
printed-whole job sdp captures i o ends (Err fault) answer e is status appended =
    refused fault e (subst (λ (a : Answer). ends ≡ a.status) is status) (subst (λ (a : Answer). Appended o a.text) is appended)
printed-whole job sdp captures i o ends (Ok media) answer e is status appended = reported media answer e is status appended

-- one of which a front was: it isn't empty
pub none-broke : (o : Output) → Broke o [] → ⊥
none-broke o h = omega (arith, h.1.1)

printed-front : (job : CheckJob) (sdp : List ℕ) (captures : List (List ℕ)) (i : Inputs) (o : Output) (ends : Status)
    (s : Result (List Media) SdpFault) (answer : Answer) → session sdp ≡ s → IsToPrint job s captures answer → ends ≡ status.WriteFault → Broke o answer.text
    → Headline job sdp captures i o ends
printed-front job sdp captures i o ends (Err fault) answer e is status broke = absurd (none-broke o (subst (λ (a : Answer). Broke o a.text) is broke))
printed-front job sdp captures i o ends (Ok media) answer e is status broke = unwritten media answer e is status broke

-- how a run of `check` ends, by its outcome
by-outcome : (job : CheckJob) (sdp : List ℕ) (captures : List (List ℕ)) (i : Inputs) (o : Output) (ends : Status)
    (outcome : Result Answer Failure) → IsCheckJob job → i.texts job.sdp ≡ Some sdp → AreTold i.texts job.captures captures
    → All AreBytes captures → FollowsQuery (check_query job) i outcome → HasCause outcome (QueryInputRose (check_query job) i) → Leaves o outcome ends
    → Headline job sdp captures i o ends
by-outcome job sdp captures i o ends (Ok answer) is told are bytes follows cause (inl h) =
    printed-whole job sdp captures i o ends (session sdp) answer refl (to-print job i sdp captures answer is told are bytes follows) h.0 h.1
by-outcome job sdp captures i o ends (Ok answer) is told are bytes follows cause (inr h) =
    printed-front job sdp captures i o ends (session sdp) answer refl (to-print job i sdp captures answer is told are bytes follows) h.0 h.1
by-outcome job sdp captures i o ends (Err (failure.ReadFault input)) is told are bytes follows cause h = unread input cause h.0 h.1
by-outcome job sdp captures i o ends (Err failure.WriteFault) is told are bytes follows cause h = absurd cause
by-outcome job sdp captures i o ends (Err failure.OutOfMemory) is told are bytes follows cause h = out_of_memory h.0 h.1

-- the same, of the words of a `check`
pub headline : (words : List (List ℕ)) (job : CheckJob) (sdp : List ℕ) (captures : List (List ℕ)) (i : Inputs) (o e : Output) (ends : Status)
    → request_of words ≡ Some (request.Check job) → i.texts job.sdp ≡ Some sdp → AreTold i.texts job.captures captures → All AreBytes captures
    → Ran (Follows (request_of words) i) (InputRose (request_of words) i) o e ends → Headline job sdp captures i o ends
headline words job sdp captures i o e ends asked told are bytes ran =
    let is : IsCheckJob job = request-within words (request.Check job) asked in
    let follows : FollowsQuery (check_query job) i ran.outcome = subst (λ (r : Option Request). Follows r i ran.outcome) asked ran.follows in
    let cause : HasCause ran.outcome (QueryInputRose (check_query job) i) = subst (λ (r : Option Request). HasCause ran.outcome (InputRose r i)) asked
    ran.cause in
    by-outcome job sdp captures i o ends ran.outcome is told are bytes follows cause ran.printed

-- a run on words that are no request
no-outcome : (o : Output) (ends : Status) (outcome : Result Answer Failure) → FollowsAtOnce status.Usage outcome → HasCause outcome (λ input. ⊥)
    → Leaves o outcome ends → NoRequest o ends
no-outcome o ends (Ok answer) (inl memory) cause h = absurd (ok-not-err answer failure.OutOfMemory (Ok answer) refl memory)
no-outcome o ends (Ok answer) (inr g) cause (inl h) =
    let is : answer ≡ silent status.Usage = same-ok answer g.0 (Ok answer) refl g.1 ∙ g.2 in
    inl (subst (λ (a : Answer). (ends ≡ a.status) × Appended o a.text) is h)
no-outcome o ends (Ok answer) (inr g) cause (inr h) =
    let is : answer ≡ silent status.Usage = same-ok answer g.0 (Ok answer) refl g.1 ∙ g.2 in
    absurd (none-broke o (subst (λ (a : Answer). Broke o a.text) is h.1))
no-outcome o ends (Err (failure.ReadFault input)) follows cause h = absurd cause
no-outcome o ends (Err failure.WriteFault) follows cause h = absurd cause
no-outcome o ends (Err failure.OutOfMemory) follows cause h = inr h

pub no-request : (words : List (List ℕ)) (i : Inputs) (o e : Output) (ends : Status) → request_of words ≡ None
    → Ran (Follows (request_of words) i) (InputRose (request_of words) i) o e ends → NoRequest o ends
no-request words i o e ends asked ran =
    let follows : FollowsAtOnce status.Usage ran.outcome = subst (λ (r : Option Request). Follows r i ran.outcome) asked ran.follows in
    let cause : HasCause ran.outcome (λ input. ⊥) = subst (λ (r : Option Request). HasCause ran.outcome (InputRose r i)) asked ran.cause in
    no-outcome o ends ran.outcome follows cause ran.printed
