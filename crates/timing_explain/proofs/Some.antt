-- The packet records of captures have an answer of `explain`.
use Rattle.std.proofs.Common.{◌≡◌, ◌<◌, ◌-◌, ◌+◌, ◌^◌, ◌∷◌, ℕ, zero, suc, Bool, false, List, [], length, slice_index, Option, Some, None, refl}
use Rattle.std.proofs.Common.{inl, inr, ap, arith, subst, ◌∙◌}
use Rattle.std.specs.Prelude.{All}
use Rattle.std.proofs.lemmas.Bool.{cases_Bool, cases_eq}
use Rattle.timing_base.specs.Captures.{IsStamp, Record, joined}
use Rattle.timing_base.specs.Choices.{chosen, first_chosen}
use Rattle.timing_base.specs.Jobs.{ExplainJob, IsCaptureJob}
use Rattle.timing_base.specs.Media.{IsMedia, Media}
use Rattle.timing_base.specs.Numbered.{numbered}
use Rattle.timing_base.specs.Shifts.{FlowOptions, Shift}
use Rattle.timing_base.specs.declared.capture.FileNote.{FileNote}
use Rattle.timing_base.specs.declared.media.Kind.{Kind}
use Rattle.timing_base.specs.declared.media.Kind.TheVariants.{N, NL, W}
use Rattle.pcap_reader.specs.Records.{AreRecords}
use Rattle.run_meter.specs.Runs.{JudgedPart, stamps_of}
use Rattle.fail_interval.specs.Parts.{judged_parts}
use Rattle.flow_findings.specs.Details.{AreDetails, IsOverfull, greatest_of, span_at}
use Rattle.flow_findings.specs.declared.inputs.KnownFlow.{KnownFlow}
use Rattle.flow_findings.specs.declared.inputs.Overfull.{Overfull}
use Rattle.flow_findings.specs.declared.inputs.RunDetails.{RunDetails}
use Rattle.flow_findings.specs.declared.inputs.ShownRun.{ShownRun}
use Rattle.flow_measure.specs.Broken.{broken_groups}
use Rattle.flow_measure.specs.First.{IsFirst}
use Rattle.flow_measure.specs.Groups.{firsts_of, since_at}
use Rattle.flow_measure.specs.Kinds.{place_below}
use Rattle.flow_measure.specs.Measured.{AreMeasured, HasNumbers, IsMeasuredRun}
use Rattle.flow_measure.specs.Packets.{records_of}
use Rattle.flow_measure.specs.Run.{anchor_in, is_overfull}
use Rattle.flow_measure.specs.Slope.{slope_of}
use Rattle.flow_measure.specs.declared.numbers.MeasuredFlow.{MeasuredFlow}
use Rattle.flow_measure.specs.declared.numbers.MeasuredRun.{MeasuredRun}
use Rattle.timing_steps.specs.Answers.{Answer}
use Rattle.timing_steps.specs.Queries.{HasAnswer}
use Rattle.timing_steps.proofs.Onces.{DefinesSome}
use Rattle.udp_rtp.specs.Flow.{flow}
use Rattle.timing_measure.specs.Each.{EachOf}
use Rattle.timing_measure.specs.Measured.{IsMeasuredFlow}
use Rattle.timing_measure.proofs.Held.{AreHeld, HaveStamps}
use Rattle.timing_measure.proofs.Some.{measure-defined}
use Rattle.timing_measure.proofs.lemmas.page.Columns.{some-curve}
use Rattle.timing_measure.proofs.lemmas.page.Some.{run-of, some-longest}
use Rattle.timing_explain.specs.Explained.{DefinesExplained, explain_query, explained_answer, known_captures}
use Rattle.timing_explain.specs.Known.{IsKnownFlow, IsShownRun, Shows}

-- numbers have a first one that passes a test, or none does
first-more : (test : ℕ → Bool) (count : ℕ) (o : Option ℕ) → IsFirst test count o → (p : Option ℕ) × IsFirst test (suc count) p
first-more test count (Some i) h = (Some i, (omega (arith, h.0), h.1, h.2))
first-more test count None h = elim (cases_Bool (test count)) as (λ _. (p : Option ℕ) × IsFirst test (suc count) p) [
  | inl passes ↦ (Some count, (omega arith, passes, h))
  | inr fails ↦ (
    None,
    λ i few. elim (cases_eq i count) as (λ _. test i ≡ false) [
      | inl here ↦ ap test here ∙ fails
      | inr other ↦ h i (omega (arith, few, other))
    ],
  )
]

first-some : (test : ℕ → Bool) (count : ℕ) → (o : Option ℕ) × IsFirst test count o
first-some test zero = (None, λ i few. absurd (omega (arith, few)))
first-some test (suc count) = let before = first-some test count in first-more test count before.0 before.1

-- a type has its packets above C_MAX
some-overfull : (m : Media) (n groups : ℕ) (stamps records : List ℕ) (kind : Kind) → (o : Overfull) × IsOverfull m n groups stamps records kind o
some-overfull m n groups stamps records kind =
    let first = first-some (is_overfull m n stamps kind) (length stamps) in (
      record {
        groups = broken_groups n (is_overfull m n stamps kind) groups;
        first = place_below (slice_index records) (slice_index stamps) (length stamps) first.0;
      },
      record { groups_are = refl; first = first.0; first_is = first.1; place_is = refl },
    )

-- a run has its details
some-details : (m : Media) (n groups : ℕ) (stamps records : List ℕ) → (d : RunDetails) × AreDetails m n groups stamps records d
some-details m n groups stamps records =
    let narrow = some-overfull m n groups stamps records N in
    let linear = some-overfull m n groups stamps records NL in
    let wide = some-overfull m n groups stamps records W in
    let curve = some-curve 8 (since_at m (anchor_in m stamps) (firsts_of n (slice_index stamps))) groups (omega arith) in (
      record {
        overfull = narrow.0 ∷ linear.0 ∷ wide.0 ∷ [];
        first_at = slice_index stamps 0;
        last_group_at = firsts_of n (slice_index stamps) (groups - 1);
        span = greatest_of (span_at n (slice_index stamps)) groups;
        slope = slope_of groups 8 curve.0;
      },
      record {
        overfull_are = (narrow.1, linear.1, wide.1);
        first_is = refl;
        last_group_is = refl;
        span_is = refl;
        slope_is = record { columns = curve.0; are = curve.1; is = refl };
      },
    )

-- what is shown of a run
some-shown : (m : Media) (shift : Shift) (part : JudgedPart) (run : MeasuredRun) → IsMeasuredRun (HasNumbers m shift) part run
    → (s : ShownRun) × IsShownRun m shift part s
some-shown m shift part run h =
    let details = some-details m part.values.n part.values.frames (stamps_of shift part.packets) (records_of part.packets) in
    (record { run = run; details = details.0 }, record { run_is = h; details_are = details.1 })

some-shows : (m : Media) (shift : Shift) (parts : List JudgedPart) (runs : List MeasuredRun) → AreMeasured (HasNumbers m shift) parts runs
    → (s : Option ShownRun) × Shows m shift parts s
some-shows m shift [] runs h = (None, refl)
some-shows m shift (p ∷ parts) runs h =
    let one = some-longest p parts in
    let run = run-of (HasNumbers m shift) one.1.before one.1.after one.0 runs (subst (λ l. AreMeasured (HasNumbers m shift) l runs) one.1.whole h) in
    let s = some-shown m shift one.0 run.0 run.1 in
    (Some s.0, (one.0, one.1, s.1))

-- what is known of the flows
some-known : (options : FlowOptions) (items : List Record) (number : ℕ) (media : List Media) (flows : List MeasuredFlow)
    → EachOf (λ n m f. IsMeasuredFlow m n options (flow items m) f) number media flows
    → (known : List KnownFlow) × EachOf (λ n m f. IsKnownFlow m n options (flow items m) f) number media known
some-known options items number [] [] h = ([], tt)
some-known options items number [] (f ∷ flows) h = absurd h
some-known options items number (m ∷ media) [] h = absurd h
some-known options items number (m ∷ media) (f ∷ flows) h =
    let s = some-shows m options.shift (judged_parts m (numbered options.seq16 (flow items m)) options.shift) f.runs (h.0).runs in
    let later = some-known options items (number + 1) media flows h.1 in (
      record { media = f.media; verdict = f.verdict; packets = f.packets; shown = s.0 } ∷ later.0,
      (record { media_is = (h.0).media; count = (h.0).count; verdict_is = (h.0).verdict_is; shows = s.1 }, later.1),
    )

-- the answer over packet records of captures
explain-defined : (job : ExplainJob) (media : List Media) (items : List Record) (notes : List FileNote) → IsCaptureJob job.flows → All IsMedia media
    → AreHeld items
    → (answer : Answer) × DefinesExplained job media items notes answer
explain-defined job media items notes is all held =
    let flows = job.flows in
    let measure = (measure-defined flows media items notes is all held).1 in
    let known = some-known flows.options items (first_chosen flows.media) (chosen flows.media media) measure.flows measure.are in
    (explained_answer job media notes (known_captures flows.options.seq16 items) known.0, record { flows = known.0; are = known.1; answer_is = refl })

pub some-explain : (job : ExplainJob) (texts : List (List ℕ)) → IsCaptureJob job.flows → HaveStamps texts → DefinesSome (explain_query job) texts
some-explain job texts is held media files notes are unsettled records =
    explain-defined job media (joined files) notes is are (held files notes records)

-- over captures with these contents
pub some-explain-answer : (job : ExplainJob) (media : List Media) (texts : List (List ℕ)) (files : List (List Record)) (notes : List FileNote)
    → IsCaptureJob job.flows → All IsMedia media → AreRecords texts files notes → length (joined files) < 2 ^ 41
    → All (λ (r : Record). IsStamp r.stamp) (joined files)
    → (answer : Answer) × HasAnswer (explain_query job) media texts answer
some-explain-answer job media texts files notes is all records few stamps =
    let made = explain-defined job media (joined files) notes is all (record { few = few; stamps = stamps }) in
    (made.0, record { files = files; notes = notes; records = records; defined = made.1 })
