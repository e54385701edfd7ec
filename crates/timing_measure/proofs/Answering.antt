-- What follows for `measure` from what a reading of its captures came to.
use Rattle.std.specs.Prelude.{◌<◌, All}
use Rattle.std.proofs.Common.{◌≡◌, ◌+◌, ℕ, List, [], ◌∷◌, length, Option, arith}
use Rattle.std.proofs.lemmas.List.Elements.{All-cons, All-nil, All-weaker}
use Rattle.timing_base.specs.Shifts.{FlowOptions}
use Rattle.timing_base.specs.Captures.{Record}
use Rattle.timing_base.specs.Choices.{chosen, first_chosen}
use Rattle.timing_base.specs.Jobs.{CaptureJob}
use Rattle.timing_base.specs.Media.{Media}
use Rattle.flow_measure.specs.declared.numbers.MeasuredFlow.{MeasuredFlow}
use Rattle.flow_measure.specs.report.Json.{AreOfMedia}
use Rattle.timing_steps.specs.Answers.{Answer}
use Rattle.timing_steps.specs.Queries.{HasAnswer}
use Rattle.udp_rtp.specs.Flow.{flow}
use Rattle.timing_measure.specs.Each.{EachOf}
use Rattle.timing_measure.specs.Measured.{IsMeasuredFlow}
use Rattle.timing_measure.specs.Measures.{AreFlows, measure_query, measured}
use Rattle.timing_measure.specs.flows.Taken.{AreCapturesIn, AreCapturesOf}
use Rattle.timing_measure.specs.declared.measured.MeasuredCaptures.{MeasuredCaptures}
use Rattle.timing_measure.proofs.Chosen.{chosen-within}
use Rattle.timing_measure.proofs.Eaches.{each-long}

-- each flow is of one of the media
flows-of : (options : FlowOptions) (items : List Record) (number : ℕ) (media : List Media) (flows : List MeasuredFlow)
    → EachOf (λ n m f. IsMeasuredFlow m n options (flow items m) f) number media flows
    → All (λ (f : MeasuredFlow). f.media < number + length media) flows
flows-of options items number [] [] h =
    let none : List Media = [] in All-nil (λ (f : MeasuredFlow). f.media < number + length none)
flows-of options items number [] (f ∷ flows) h = absurd h
flows-of options items number (m ∷ media) [] h = All-nil (λ (f : MeasuredFlow). f.media < number + length (m ∷ media))
flows-of options items number (m ∷ media) (f ∷ flows) h =
    All-cons (λ (f : MeasuredFlow). f.media < number + length (m ∷ media)) f flows (omega (arith, (h.0).media))
    (All-weaker (λ (f : MeasuredFlow). f.media < number + 1 + length media) (λ (f : MeasuredFlow). f.media < number + length (m ∷ media))
    (λ f few. omega (arith, few)) flows (flows-of options items (number + 1) media flows h.1))

pub of-media : (options : FlowOptions) (only : Option ℕ) (media : List Media) (r : MeasuredCaptures)
    → AreCapturesOf (AreFlows options (first_chosen only) (chosen only media)) r → AreOfMedia media r.flows.items
of-media options only media r h =
    chosen-within (λ (f : MeasuredFlow). f.media) only media r.flows.items
    (each-long (λ n m f. IsMeasuredFlow m n options (flow h.items m) f) (first_chosen only) (chosen only media) r.flows.items h.are)
    (flows-of options h.items (first_chosen only) (chosen only media) r.flows.items h.are)

-- the answer on what was read
pub has-measure : (job : CaptureJob) (media : List Media) (texts : List (List ℕ)) (r : MeasuredCaptures) (answer : Answer)
    → AreCapturesIn (AreFlows job.options (first_chosen job.media) (chosen job.media media)) texts r
    → answer ≡ measured job.captures r.notes.items media r.flows.items → HasAnswer (measure_query job) media texts answer
has-measure job media texts r answer h e = record {
  files = h.files;
  notes = r.notes.items;
  records = h.records;
  defined = record { flows = r.flows.items; are = h.are; answer_is = e };
}
