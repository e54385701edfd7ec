-- What the SDP of a command leads to.
use Rattle.std.proofs.Common.{◌≡◌, List, ℕ, Bool, true, Some, Ok, Err, inr, refl, sym, subst}
use Rattle.std.specs.Prelude.{Result}
use Rattle.std.proofs.lemmas.Bool.{false≢true}
use Rattle.timing_base.specs.Media.{Media}
use Rattle.sdp_reader.specs.declared.fault.SdpFault.{SdpFault}
use Rattle.timing_report.specs.declared.status.Status.{Status}
use Rattle.timing_report.specs.declared.status.Status.TheVariants as status
use Rattle.timing_steps.specs.Answers.{Answer, Inputs, OnSession, silent}
use Rattle.timing_steps.specs.Begun.{IsSettled, WasRead}
use Rattle.timing_steps.specs.Ends.{IsTextBeside, is_silent}
use Rattle.timing_steps.specs.Queries.{AnswersCaptures, AnswersMedia, FollowsQuery, OnEarly, Query, ends_of, judged_ends}
use Rattle.timing_steps.specs.declared.failure.Failure.{Failure}

-- the outcome over the media that were read is that of the query
pub from-media : (query : Query) (i : Inputs) (media : List Media) (outcome : Result Answer Failure) → WasRead i.texts i.lacks query.sdp (Ok media)
    → AnswersMedia query i outcome media → FollowsQuery query i outcome
from-media query i media outcome read h =
    inr (inr (read.0, λ text t. subst (λ s. OnSession s outcome (AnswersMedia query i outcome)) (sym (read.1 text t)) h))

-- the SDP is refused
pub settled-refused : (query : Query) (i : Inputs) (fault : SdpFault) (answer : Answer) → WasRead i.texts i.lacks query.sdp (Err fault)
    → answer ≡ silent (status.SdpRefused fault) → IsSettled query i answer
settled-refused query i fault answer read is = record {
  follows = inr (inr (
    read.0,
    λ text t.
        subst (λ s. OnSession s (Ok answer) (AnswersMedia query i (Ok answer))) (sym (read.1 text t)) (answer, refl, is),
  ));
  ends = subst (λ (a : Answer). ends_of query a.status ≡ true) (sym is) refl;
  beside = subst (λ (a : Answer). IsTextBeside (is_silent a.status) a.text) (sym is) refl;
}

-- the statuses of an answer that captures define are statuses of the command
pub judged-of : (query : Query) (s : Status) → judged_ends query.checks s ≡ true → ends_of query s ≡ true
judged-of query (status.SdpRefused fault) h = absurd (false≢true h)
judged-of query s h = h

-- none of them is silent
judged-beside : (checks : Bool) (s : Status) (text : List ℕ) → judged_ends checks s ≡ true → IsTextBeside (is_silent s) text
judged-beside checks status.Pass text h = tt
judged-beside checks status.Fail text h = tt
judged-beside checks status.NotAllJudged text h = tt
judged-beside checks s text h = absurd (false≢true h)

-- the media settle the answer
pub settled-early : (query : Query) (i : Inputs) (media : List Media) (answer : Answer) → WasRead i.texts i.lacks query.sdp (Ok media)
    → Some answer ≡ query.early media → judged_ends query.checks answer.status ≡ true → IsSettled query i answer
settled-early query i media answer read early ends = record {
  follows = from-media query i media (Ok answer) read
      (subst (λ x. OnEarly x (Ok answer) (AnswersCaptures query media i (Ok answer))) early (answer, refl, refl));
  ends = judged-of query answer.status ends;
  beside = judged-beside query.checks answer.status answer.text ends;
}
