-- The packet records of captures have one answer of `explain`.
use Rattle.std.proofs.Common.{◌≡◌, ◌∷◌, ◌/◌, ℕ, ℤ, List, [], Option, Some, None, length, refl, ap, ap₂, ◌∙◌, sym, subst, slice_index}
use Rattle.timing_base.specs.Captures.{joined}
use Rattle.timing_base.specs.Choices.{chosen, first_chosen}
use Rattle.timing_base.specs.Jobs.{ExplainJob}
use Rattle.timing_base.specs.Media.{Media}
use Rattle.timing_base.specs.Numbered.{numbered}
use Rattle.timing_base.specs.Shifts.{FlowOptions, Shift}
use Rattle.timing_base.specs.declared.media.Kind.{Kind}
use Rattle.timing_base.specs.declared.media.Kind.TheVariants.{N, NL, W}
use Rattle.timing_base.specs.declared.packet.FlowPacket.{FlowPacket}
use Rattle.run_meter.specs.Runs.{JudgedPart, stamps_of}
use Rattle.fail_interval.specs.Parts.{judged_parts}
use Rattle.flow_findings.specs.Details.{AreDetails, AreOverfull, IsOverfull}
use Rattle.flow_findings.specs.declared.inputs.KnownFlow.{KnownFlow}
use Rattle.flow_findings.specs.declared.inputs.Overfull.{Overfull}
use Rattle.flow_findings.specs.declared.inputs.RunDetails.{RunDetails}
use Rattle.flow_findings.specs.declared.inputs.ShownRun.{ShownRun}
use Rattle.flow_measure.specs.Groups.{firsts_of, since_at}
use Rattle.flow_measure.specs.Kinds.{place_below}
use Rattle.flow_measure.specs.Packets.{records_of}
use Rattle.flow_measure.specs.Run.{anchor_in, is_overfull}
use Rattle.flow_measure.specs.Slope.{IsSlope, slope_of}
use Rattle.flow_measure.specs.Columns.{width_of}
use Rattle.flow_measure.specs.declared.columns.slope.Slope.{Slope}
use Rattle.flow_measure.proofs.Measured.{first-once}
use Rattle.flow_measure.proofs.Unique.{columns-once}
use Rattle.timing_steps.proofs.Onces.{DefinesOnce}
use Rattle.udp_rtp.specs.Flow.{flow}
use Rattle.timing_measure.proofs.Eaches.{each-once}
use Rattle.timing_measure.proofs.Numbers.{run-once}
use Rattle.timing_measure.proofs.lemmas.page.Once.{longest-once}
use Rattle.timing_measure.proofs.lemmas.page.Unique.{none-longest}
use Rattle.timing_explain.specs.Explained.{explain_query, explained_answer, known_captures}
use Rattle.timing_explain.specs.Known.{IsKnownFlow, IsShownRun, Shows}
use Rattle.flow_page.specs.drawing.Told.{IsLongest}

-- a type has one count of frames or fields above C_MAX, and one first packet
overfull-one : (m : Media) (n groups : ℕ) (stamps records : List ℕ) (kind : Kind) (a b : Overfull) → IsOverfull m n groups stamps records kind a
    → IsOverfull m n groups stamps records kind b → a ≡ b
overfull-one m n groups stamps records kind a b h k =
    let groups_same = h.groups_are ∙ sym k.groups_are in
    let first_same = first-once (is_overfull m n stamps kind) (length stamps) h.first k.first h.first_is k.first_is in
    let place_same =
    h.place_is ∙ ap (place_below (slice_index records) (slice_index stamps) (length stamps)) first_same ∙ sym k.place_is in
    λ i. record { groups = groups_same i; first = place_same i }

overfull-once : (m : Media) (n groups : ℕ) (stamps records : List ℕ) (xs ys : List Overfull) → AreOverfull m n groups stamps records xs
    → AreOverfull m n groups stamps records ys → xs ≡ ys
overfull-once m n groups stamps records (a ∷ b ∷ c ∷ []) (d ∷ e ∷ f ∷ []) h k =
    ap₂ (λ x l. x ∷ l) (overfull-one m n groups stamps records N a d h.0 k.0)
    (ap₂ (λ x l. x ∷ l) (overfull-one m n groups stamps records NL b e h.1 k.1)
    (ap (λ x. x ∷ []) (overfull-one m n groups stamps records W c f h.2 k.2)))
overfull-once m n groups stamps records [] ys h k = absurd h
overfull-once m n groups stamps records (a ∷ []) ys h k = absurd h
overfull-once m n groups stamps records (a ∷ b ∷ []) ys h k = absurd h
overfull-once m n groups stamps records (a ∷ b ∷ c ∷ x ∷ xs) ys h k = absurd h
overfull-once m n groups stamps records (a ∷ b ∷ c ∷ []) [] h k = absurd k
overfull-once m n groups stamps records (a ∷ b ∷ c ∷ []) (d ∷ []) h k = absurd k
overfull-once m n groups stamps records (a ∷ b ∷ c ∷ []) (d ∷ e ∷ []) h k = absurd k
overfull-once m n groups stamps records (a ∷ b ∷ c ∷ []) (d ∷ e ∷ f ∷ y ∷ ys) h k = absurd k

-- numbers have one slope
slope-once : (most : ℕ) (numbers : ℕ → ℤ) (count : ℕ) (s t : Option Slope) → IsSlope most numbers count s → IsSlope most numbers count t → s ≡ t
slope-once most numbers count s t h k =
    h.is ∙ ap (slope_of count most) (columns-once (λ i. i / width_of count most) numbers count h.columns k.columns h.are k.are) ∙ sym k.is

-- a run has one set of details
details-once : (m : Media) (n groups : ℕ) (stamps records : List ℕ) (d e : RunDetails) → AreDetails m n groups stamps records d
    → AreDetails m n groups stamps records e → d ≡ e
details-once m n groups stamps records d e h k =
    let overfull = overfull-once m n groups stamps records d.overfull e.overfull h.overfull_are k.overfull_are in
    let first = h.first_is ∙ sym k.first_is in
    let last = h.last_group_is ∙ sym k.last_group_is in
    let span = h.span_is ∙ sym k.span_is in
    let slope =
    slope-once 8 (since_at m (anchor_in m stamps) (firsts_of n (slice_index stamps))) groups d.slope e.slope h.slope_is k.slope_is in
    λ i. record { overfull = overfull i; first_at = first i; last_group_at = last i; span = span i; slope = slope i }

-- a run is shown in one way
run-shown-once : (m : Media) (shift : Shift) (part : JudgedPart) (s t : ShownRun) → IsShownRun m shift part s → IsShownRun m shift part t → s ≡ t
run-shown-once m shift part s t h k =
    let run = run-once m shift part s.run t.run h.run_is k.run_is in
    let details =
    details-once m part.values.n part.values.frames (stamps_of shift part.packets) (records_of part.packets) s.details t.details h.details_are k.details_are in
    λ i. record { run = run i; details = details i }

-- of a flow one run is shown, or none
shows-once : (m : Media) (shift : Shift) (parts : List JudgedPart) (s t : Option ShownRun) → Shows m shift parts s → Shows m shift parts t → s ≡ t
shows-once m shift parts None None h k = refl
shows-once m shift parts None (Some t) h k = absurd (none-longest k.0 (subst (λ l. IsLongest l k.0) h k.1))
shows-once m shift parts (Some s) None h k = absurd (none-longest h.0 (subst (λ l. IsLongest l h.0) k h.1))
shows-once m shift parts (Some s) (Some t) h k =
    let same = longest-once parts h.0 k.0 h.1 k.1 in
    ap (λ x. Some x) (run-shown-once m shift k.0 s t (subst (λ p. IsShownRun m shift p s) same h.2) k.2)

-- one thing is known of a flow
known-once : (m : Media) (number : ℕ) (options : FlowOptions) (packets : List FlowPacket) (f g : KnownFlow) → IsKnownFlow m number options packets f
    → IsKnownFlow m number options packets g → f ≡ g
known-once m number options packets f g h k =
    let media = h.media_is ∙ sym k.media_is in
    let count = h.count ∙ sym k.count in
    let verdict = h.verdict_is ∙ sym k.verdict_is in
    let shown = shows-once m options.shift (judged_parts m (numbered options.seq16 packets) options.shift) f.shown g.shown h.shows k.shows in
    λ i. record { media = media i; packets = count i; verdict = verdict i; shown = shown i }

-- no media and packet records have two answers
pub once-explain : (job : ExplainJob) → DefinesOnce (explain_query job)
once-explain job media files notes a b h k =
    let items = joined files in
    let options = job.flows.options in
    let flows : h.flows ≡ k.flows =
    each-once (λ n m f. IsKnownFlow m n options (flow items m) f) (λ n m. known-once m n options (flow items m))
    (first_chosen job.flows.media) (chosen job.flows.media media) h.flows k.flows h.are k.are in
    h.answer_is ∙ ap (explained_answer job media notes (known_captures options.seq16 items)) flows ∙ sym k.answer_is
