-- The packet records of captures have one answer of `page`.
use Rattle.std.proofs.Common.{◌≡◌, ◌∷◌, ℕ, List, [], length, Option, Some, None, refl, ap, ◌∙◌, sym, subst, arith, length-append}
use Rattle.timing_base.specs.Captures.{joined}
use Rattle.timing_base.specs.Choices.{chosen, first_chosen}
use Rattle.timing_base.specs.Shifts.{FlowOptions, Shift}
use Rattle.timing_base.specs.Jobs.{CaptureJob}
use Rattle.timing_base.specs.Media.{Media}
use Rattle.timing_base.specs.Numbered.{numbered}
use Rattle.timing_base.specs.declared.packet.FlowPacket.{FlowPacket}
use Rattle.flow_page.specs.declared.shown.FlowPage.{FlowPage}
use Rattle.flow_page.specs.declared.shown.ShownRun.{ShownRun}
use Rattle.run_meter.specs.Runs.{JudgedPart, stamps_of}
use Rattle.fail_interval.specs.Parts.{judged_parts}
use Rattle.flow_measure.specs.Packets.{timestamps_of}
use Rattle.flow_page.specs.drawing.Told.{IsLongest}
use Rattle.capture_scan.specs.report.Contents.{contents}
use Rattle.timing_steps.proofs.Onces.{DefinesOnce}
use Rattle.udp_rtp.specs.Flow.{flow}
use Rattle.timing_measure.specs.page.Pages.{page_query, paged}
use Rattle.timing_measure.specs.page.Shown.{IsFlowPage, IsShownRun, Shows}
use Rattle.timing_measure.proofs.lemmas.page.Drawings.{curves-once, regions-once}
use Rattle.timing_measure.proofs.Eaches.{each-once}
use Rattle.timing_measure.proofs.Numbers.{flow-once, run-once}
use Rattle.timing_measure.proofs.lemmas.page.Once.{longest-once}

-- a run is shown in one way
run-shown-once : (m : Media) (shift : Shift) (part : JudgedPart) (s t : ShownRun) → IsShownRun m shift part s → IsShownRun m shift part t → s ≡ t
run-shown-once m shift part s t h k =
    let stamps = stamps_of shift part.packets in
    let run = run-once m shift part s.run t.run h.run_is k.run_is in
    let first = h.first_is ∙ sym k.first_is in
    let last = h.last_is ∙ sym k.last_is in
    let curves =
    curves-once m part.values.n part.values.frames stamps (timestamps_of part.packets) s.curves t.curves h.curves k.curves in
    let regions = regions-once m part.values.n stamps 0 part.values.kinds s.regions t.regions h.regions k.regions in
    λ i. record { run = run i; first_at = first i; last_at = last i; curves = curves i; regions = regions i }

-- of no run none is the longest
pub none-longest : (part : JudgedPart) → IsLongest [] part → ⊥
none-longest part h = absurd (omega (arith, ap length h.whole, length-append h.before (part ∷ h.after)))

-- of a flow one run is shown, or none
shows-once : (m : Media) (shift : Shift) (parts : List JudgedPart) (s t : Option ShownRun) → Shows m shift parts s → Shows m shift parts t → s ≡ t
shows-once m shift parts None None h k = refl
shows-once m shift parts None (Some t) h k = absurd (none-longest k.0 (subst (λ l. IsLongest l k.0) h k.1))
shows-once m shift parts (Some s) None h k = absurd (none-longest h.0 (subst (λ l. IsLongest l h.0) k h.1))
shows-once m shift parts (Some s) (Some t) h k =
    let same = longest-once parts h.0 k.0 h.1 k.1 in
    ap (λ x. Some x) (run-shown-once m shift k.0 s t (subst (λ p. IsShownRun m shift p s) same h.2) k.2)

-- what a page has of a flow
page-once : (m : Media) (number : ℕ) (options : FlowOptions) (packets : List FlowPacket) (p q : FlowPage) → IsFlowPage m number options packets p
    → IsFlowPage m number options packets q → p ≡ q
page-once m number options packets p q h k =
    let flow_same = flow-once m number options packets p.flow q.flow h.flow_is k.flow_is in
    let shown = shows-once m options.shift (judged_parts m (numbered options.seq16 packets) options.shift) p.shown q.shown h.shows k.shows in
    λ i. record { flow = flow_same i; shown = shown i }

-- no media and packet records have two answers
pub once-page : (job : CaptureJob) → DefinesOnce (page_query job)
once-page job media files notes a b h k =
    let items = joined files in
    let pages : h.pages ≡ k.pages =
    each-once (λ n m page. IsFlowPage m n job.options (flow items m) page) (λ n m. page-once m n job.options (flow items m))
    (first_chosen job.media) (chosen job.media media) h.pages k.pages h.are k.are in
    h.answer_is ∙ ap (λ pages. paged job.captures notes job.options.shift media pages (contents items)) pages ∙ sym k.answer_is
