-- What follows for `explain` from what the readings of its captures came to.
use Rattle.std.specs.Prelude.{◌<◌, All}
use Rattle.std.proofs.Common.{◌≡◌, ◌+◌, ℕ, List, [], ◌∷◌, length, Option, ap, ◌∙◌, arith}
use Rattle.std.proofs.lemmas.List.Elements.{All-cons, All-nil, All-weaker}
use Rattle.timing_base.specs.Shifts.{FlowOptions}
use Rattle.timing_base.specs.Captures.{Record}
use Rattle.timing_base.specs.Choices.{chosen, first_chosen}
use Rattle.timing_base.specs.Jobs.{ExplainJob}
use Rattle.timing_base.specs.Media.{Media}
use Rattle.flow_findings.specs.Statuses.{AreKnownOf}
use Rattle.flow_findings.specs.declared.inputs.KnownFlow.{KnownFlow}
use Rattle.timing_steps.specs.Answers.{Answer}
use Rattle.timing_steps.specs.Queries.{HasAnswer}
use Rattle.udp_rtp.specs.Flow.{flow}
use Rattle.timing_measure.specs.Each.{EachOf}
use Rattle.timing_measure.proofs.Chosen.{chosen-within}
use Rattle.timing_measure.proofs.Eaches.{each-long}
use Rattle.timing_explain.specs.Captures.{IsExplainIn, IsExplainOf}
use Rattle.timing_explain.specs.Explained.{explain_query, explained_answer}
use Rattle.timing_explain.specs.Known.{IsKnownFlow}
use Rattle.timing_explain.specs.declared.captures.ExplainCaptures.{ExplainCaptures}

-- each flow is of one of the media
flows-of : (options : FlowOptions) (items : List Record) (number : ℕ) (media : List Media) (flows : List KnownFlow)
    → EachOf (λ n m f. IsKnownFlow m n options (flow items m) f) number media flows
    → All (λ (f : KnownFlow). f.media < number + length media) flows
flows-of options items number [] [] h =
    let none : List Media = [] in All-nil (λ (f : KnownFlow). f.media < number + length none)
flows-of options items number [] (f ∷ flows) h = absurd h
flows-of options items number (m ∷ media) [] h = All-nil (λ (f : KnownFlow). f.media < number + length (m ∷ media))
flows-of options items number (m ∷ media) (f ∷ flows) h =
    All-cons (λ (f : KnownFlow). f.media < number + length (m ∷ media)) f flows (omega (arith, (h.0).media_is))
    (All-weaker (λ (f : KnownFlow). f.media < number + 1 + length media) (λ (f : KnownFlow). f.media < number + length (m ∷ media))
    (λ f few. omega (arith, few)) flows (flows-of options items (number + 1) media flows h.1))

pub of-media : (options : FlowOptions) (only : Option ℕ) (media : List Media) (r : ExplainCaptures)
    → IsExplainOf options (first_chosen only) (chosen only media) r → AreKnownOf media r.flows.items
of-media options only media r h =
    chosen-within (λ (f : KnownFlow). f.media) only media r.flows.items
    (each-long (λ n m f. IsKnownFlow m n options (flow h.items m) f) (first_chosen only) (chosen only media) r.flows.items h.are)
    (flows-of options h.items (first_chosen only) (chosen only media) r.flows.items h.are)

-- the answer on what was read
pub has-explained : (job : ExplainJob) (media : List Media) (texts : List (List ℕ)) (r : ExplainCaptures) (answer : Answer)
    → IsExplainIn job.flows.options (first_chosen job.flows.media) (chosen job.flows.media media) texts r
    → answer ≡ explained_answer job media r.notes.items r.known r.flows.items → HasAnswer (explain_query job) media texts answer
has-explained job media texts r answer h e = record {
  files = h.files;
  notes = r.notes.items;
  records = h.records;
  defined = record {
    flows = r.flows.items;
    are = h.are;
    answer_is = e ∙ ap (λ known. explained_answer job media r.notes.items known r.flows.items) h.known_is;
  };
}
