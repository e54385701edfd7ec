-- What follows for `page` from what the readings of its captures came to.
use Rattle.std.specs.Prelude.{◌<◌, All}
use Rattle.std.proofs.Common.{◌≡◌, ◌+◌, ℕ, List, [], ◌∷◌, length, Option, ap, ◌∙◌, arith}
use Rattle.std.proofs.lemmas.List.Elements.{All-cons, All-nil, All-weaker}
use Rattle.timing_base.specs.Shifts.{FlowOptions}
use Rattle.timing_base.specs.Captures.{Record, joined}
use Rattle.timing_base.specs.Choices.{chosen, first_chosen}
use Rattle.timing_base.specs.Jobs.{CaptureJob}
use Rattle.timing_base.specs.Media.{Media}
use Rattle.flow_page.specs.Media.{AreOfMedia}
use Rattle.flow_page.specs.declared.shown.FlowPage.{FlowPage}
use Rattle.capture_scan.specs.report.Contents.{contents_of}
use Rattle.timing_steps.specs.Answers.{Answer}
use Rattle.timing_steps.specs.Queries.{HasAnswer}
use Rattle.capture_scan.proofs.lemmas.report.Founds.{found-contents}
use Rattle.udp_rtp.specs.Flow.{flow}
use Rattle.timing_measure.specs.Each.{EachOf}
use Rattle.timing_measure.specs.page.Shown.{IsFlowPage}
use Rattle.timing_measure.specs.page.Pages.{page_query, paged}
use Rattle.timing_measure.specs.page.Captures.{IsPageIn, IsPageOf}
use Rattle.timing_measure.specs.declared.page.captures.PageCaptures.{PageCaptures}
use Rattle.timing_measure.proofs.Chosen.{chosen-within}
use Rattle.timing_measure.proofs.Eaches.{each-long}

-- each flow is of one of the media
pages-of : (options : FlowOptions) (items : List Record) (number : ℕ) (media : List Media) (pages : List FlowPage)
    → EachOf (λ n m p. IsFlowPage m n options (flow items m) p) number media pages
    → All (λ (p : FlowPage). p.flow.media < number + length media) pages
pages-of options items number [] [] h =
    let none : List Media = [] in All-nil (λ (p : FlowPage). p.flow.media < number + length none)
pages-of options items number [] (p ∷ pages) h = absurd h
pages-of options items number (m ∷ media) [] h = All-nil (λ (p : FlowPage). p.flow.media < number + length (m ∷ media))
pages-of options items number (m ∷ media) (p ∷ pages) h =
    All-cons (λ (p : FlowPage). p.flow.media < number + length (m ∷ media)) p pages (omega (arith, (h.0).flow_is.media))
    (All-weaker (λ (p : FlowPage). p.flow.media < number + 1 + length media) (λ (p : FlowPage). p.flow.media < number + length (m ∷ media))
    (λ p few. omega (arith, few)) pages (pages-of options items (number + 1) media pages h.1))

pub of-media : (options : FlowOptions) (only : Option ℕ) (media : List Media) (r : PageCaptures)
    → IsPageOf options (first_chosen only) (chosen only media) r → AreOfMedia media r.flows.items
of-media options only media r h =
    chosen-within (λ (p : FlowPage). p.flow.media) only media r.flows.items
    (each-long (λ n m p. IsFlowPage m n options (flow h.items m) p) (first_chosen only) (chosen only media) r.flows.items h.are)
    (pages-of options h.items (first_chosen only) (chosen only media) r.flows.items h.are)

-- the answer on what was read
pub has-page : (job : CaptureJob) (media : List Media) (texts : List (List ℕ)) (r : PageCaptures) (answer : Answer)
    → IsPageIn job.options (first_chosen job.media) (chosen job.media media) texts r
    → answer ≡ paged job.captures r.notes.items job.options.shift media r.flows.items (contents_of r.found) → HasAnswer (page_query job) media texts answer
has-page job media texts r answer h e = record {
  files = h.files;
  notes = r.notes.items;
  records = h.records;
  defined = record {
    pages = r.flows.items;
    are = h.are;
    answer_is = e ∙ ap (paged job.captures r.notes.items job.options.shift media r.flows.items) (found-contents (joined h.files) r.found h.found_is);
  };
}
