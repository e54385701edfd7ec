-- The packet records of captures have an answer of `page`.
use Rattle.std.proofs.Common.{◌≡◌, ◌≤◌, ◌<◌, ◌+◌, ◌-◌, ◌*◌, ◌^◌, ◌++◌, ℕ, ℤ, inl, inr, Bool, true, false}
use Rattle.std.proofs.Common.{List, [], ◌∷◌, length, Option, Some, None, refl, sym, ap, subst, arith}
use Rattle.std.specs.Prelude.{All, slice_index}
use Rattle.std.proofs.Math.Nat.{mul-le-mul_right}
use Rattle.std.proofs.lemmas.Bool.{cases_lt}
use Rattle.std.proofs.lemmas.List.Elements.{All-append, All-cons, All-nil, All-weaker}
use Rattle.timing_base.specs.Shifts.{FlowOptions, Shift}
use Rattle.timing_base.specs.Captures.{IsStamp, Record, joined}
use Rattle.timing_base.specs.Choices.{chosen, first_chosen}
use Rattle.timing_base.specs.Jobs.{CaptureJob, IsCaptureJob}
use Rattle.timing_base.specs.Media.{IsMedia, Media}
use Rattle.timing_base.specs.Numbered.{numbered}
use Rattle.timing_base.specs.declared.capture.FileNote.{FileNote}
use Rattle.timing_base.specs.declared.fail.Broken.{Broken}
use Rattle.timing_base.specs.declared.fail.Broken.TheVariants.{Bucket, Empty, Over}
use Rattle.timing_base.specs.declared.media.Kind.{Kind}
use Rattle.timing_base.specs.declared.row.KindVerdict.{KindVerdict}
use Rattle.timing_base.specs.declared.row.KindVerdict.TheVariants.{Fail, Pass}
use Rattle.sender_params.specs.Limits.{gapped_of}
use Rattle.flow_page.specs.drawing.Drawn.{AreCurves, AreLevels, AreRegions, IsHeld, count_around, start_around}
use Rattle.flow_measure.specs.Groups.{firsts_of, lasts_of, latency_at, offset_at, since_at}
use Rattle.flow_measure.specs.Occupancy.{AreOccupancies, buckets_of}
use Rattle.flow_measure.specs.Run.{IsMeasured, anchor_in}
use Rattle.flow_measure.specs.declared.columns.Extremes.{Extremes}
use Rattle.flow_measure.specs.declared.numbers.MeasuredFlow.{MeasuredFlow}
use Rattle.flow_measure.specs.declared.numbers.MeasuredRun.{MeasuredRun}
use Rattle.flow_measure.specs.declared.numbers.RunNumbers.{RunNumbers}
use Rattle.flow_page.specs.Shown.{kind_at}
use Rattle.flow_page.specs.declared.shown.Curves.{Curves}
use Rattle.flow_page.specs.declared.shown.FlowPage.{FlowPage}
use Rattle.flow_page.specs.declared.shown.Region.{Region}
use Rattle.flow_page.specs.declared.shown.ShownRun.{ShownRun}
use Rattle.pcap_reader.specs.Records.{AreRecords}
use Rattle.timing_steps.specs.Answers.{Answer}
use Rattle.timing_steps.specs.Queries.{HasAnswer}
use Rattle.timing_steps.proofs.Onces.{DefinesSome}
use Rattle.capture_scan.specs.report.Contents.{contents}
use Rattle.udp_rtp.specs.Flow.{flow}
use Rattle.timing_measure.specs.Each.{EachOf}
use Rattle.run_meter.specs.Runs.{JudgedPart, stamps_of}
use Rattle.fail_interval.specs.Parts.{judged_parts}
use Rattle.flow_measure.specs.Measured.{AreMeasured, HasNumbers, IsMeasuredRun}
use Rattle.flow_measure.specs.Packets.{timestamps_of}
use Rattle.flow_page.specs.drawing.Told.{IsLongest}
use Rattle.timing_measure.specs.Measured.{IsMeasuredFlow}
use Rattle.timing_measure.proofs.Held.{AreHeld, HaveStamps}
use Rattle.timing_measure.proofs.Some.{measure-defined}
use Rattle.timing_measure.specs.page.Pages.{DefinesPage, page_query, paged}
use Rattle.timing_measure.specs.page.Shown.{IsFlowPage, IsShownRun, Shows}
use Rattle.timing_measure.proofs.lemmas.page.Columns.{some-curve, some-eye}

-- where a product is 1 or more, so is each of the two
product-some : (n groups : ℕ) → 0 < n * groups → 1 ≤ n
product-some n groups some = elim (cases_lt 0 n) as (λ _. 1 ≤ n) [
  | inl more ↦ omega (arith, more)
  | inr none ↦
      let e : n * groups ≡ 0 * groups = ap (λ x. x * groups) (omega (arith, none)) in
      absurd (omega (arith, e, some))
]

product-fits : (n groups : ℕ) → 1 ≤ groups → n ≤ n * groups
product-fits n groups some =
    let p : 1 * n ≤ groups * n = mul-le-mul_right n some in
    let e : n * groups ≡ groups * n = omega arith in
    omega (arith, p, e)

-- the columns of what is held
some-levels : (n count : ℕ) (level : ℕ → ℤ) → 1 ≤ n → n ≤ count → (curve eye : List Extremes) × AreLevels n count level curve eye
some-levels n count level some fits =
    let curve = some-curve 1000 level count (omega arith) in
    let eye = some-eye n 500 level count some fits (omega arith) in
    (curve.0, eye.0, record { curve_is = curve.1; eye_is = eye.1 })

-- those of a run that has its numbers
some-curves : (m : Media) (n groups : ℕ) (stamps records timestamps : List ℕ) (named : List (Option ℕ)) (x : RunNumbers)
    → IsMeasured m n groups stamps records timestamps named x → (c : Curves) × AreCurves m n groups stamps timestamps c
some-curves m n groups stamps records timestamps named x h =
    let count = length stamps in
    let size = h.whole in
    let product : 0 < n * groups = omega (arith, h.bucket.some, size) in
    let some = product-some n groups product in
    let fits : n ≤ count = omega (arith, product-fits n groups h.first.some, size) in
    let stamp = slice_index stamps in
    let ticks = slice_index timestamps in
    let anchor = anchor_in m stamps in
    let bucket = some-levels n count (buckets_of m n stamps) some fits in
    let gapped = some-levels n count h.gapped_at some fits in
    let linear = some-levels n count h.linear_at some fits in
    let first = some-curve 1000 (since_at m anchor (firsts_of n stamp)) groups (omega arith) in
    let drift = some-curve 8 (since_at m anchor (firsts_of n stamp)) groups (omega arith) in
    let last = some-curve 1000 (since_at m anchor (lasts_of n stamp)) groups (omega arith) in
    let offset = some-curve 1000 (offset_at m anchor (firsts_of n ticks)) groups (omega arith) in
    let latency = some-curve 1000 (latency_at (firsts_of n stamp) (firsts_of n ticks)) groups (omega arith) in (
      record {
        bucket = bucket.0;
        gapped = gapped.0;
        linear = linear.0;
        bucket_eye = bucket.1;
        gapped_eye = gapped.1;
        linear_eye = linear.1;
        first = first.0;
        drift = drift.0;
        last = last.0;
        offset = offset.0;
        latency = latency.0;
      },
      record {
        gapped_at = h.gapped_at;
        linear_at = h.linear_at;
        gapped_are = h.gapped.are;
        linear_are = h.linear.are;
        bucket = bucket.2;
        gapped = gapped.2;
        linear = linear.2;
        first = first.1;
        drift = drift.1;
        last = last.1;
        offset = offset.1;
        latency = latency.1;
      },
    )

-- what a model is about
some-held : (m : Media) (n : ℕ) (stamps : List ℕ) (kind : Kind) (model : Broken) → ((b : Bool) → (level : ℕ → ℤ) × AreOccupancies m n stamps b level)
    → (level : ℕ → ℤ) × IsHeld m n stamps kind model level
some-held m n stamps kind Bucket has = (buckets_of m n stamps, λ i few. refl)
some-held m n stamps kind Over has = has (gapped_of kind)
some-held m n stamps kind Empty has = has (gapped_of kind)

some-regions : (m : Media) (n : ℕ) (stamps : List ℕ) (place : ℕ) (kinds : List KindVerdict)
    → ((b : Bool) → (level : ℕ → ℤ) × AreOccupancies m n stamps b level) → (rs : List Region) × AreRegions m n stamps place kinds rs
some-regions m n stamps place [] has = ([], tt)
some-regions m n stamps place (Pass ∷ kinds) has = some-regions m n stamps (place + 1) kinds has
some-regions m n stamps place (Fail proof ∷ kinds) has =
    let count = count_around proof (length stamps) in
    let held = some-held m n stamps (kind_at place) proof.model has in
    let columns = some-curve 400 (λ i. held.0 (start_around proof + i)) count (omega arith) in
    let later = some-regions m n stamps (place + 1) kinds has in (
      record { kind = kind_at place; proof = proof; start = start_around proof; count = count; columns = columns.0 } ∷ later.0,
      (
        record { kind_is = refl; proof_is = refl; start_is = refl; count_is = refl; level = held.0; held = held.1; columns = columns.1 },
        later.1,
      ),
    )

either : (m : Media) (n groups : ℕ) (stamps records timestamps : List ℕ) (named : List (Option ℕ)) (x : RunNumbers)
    → IsMeasured m n groups stamps records timestamps named x → (b : Bool) → (level : ℕ → ℤ) × AreOccupancies m n stamps b level
either m n groups stamps records timestamps named x h true = (h.gapped_at, h.gapped.are)
either m n groups stamps records timestamps named x h false = (h.linear_at, h.linear.are)

-- what is shown of a run
some-shown : (m : Media) (shift : Shift) (part : JudgedPart) (run : MeasuredRun) → IsMeasuredRun (HasNumbers m shift) part run
    → (s : ShownRun) × IsShownRun m shift part s
some-shown m shift part run h =
    let stamps = stamps_of shift part.packets in
    let curves = some-curves m part.values.n part.values.frames stamps _ (timestamps_of part.packets) _ run.numbers h.numbers in
    let regions = some-regions m part.values.n stamps 0 part.values.kinds (either m part.values.n part.values.frames stamps _ _ _ run.numbers h.numbers) in (
      record {
        run = run;
        first_at = slice_index stamps 0;
        last_at = slice_index stamps (length part.packets - 1);
        curves = curves.0;
        regions = regions.0;
      },
      record { run_is = h; first_is = refl; last_is = refl; curves = curves.1; regions = regions.1 },
    )

-- of some runs one is the longest
abbrev NoMore : ℕ → JudgedPart → Type 0
NoMore packets part = length part.packets ≤ packets

abbrev Fewer : ℕ → JudgedPart → Type 0
Fewer packets part = length part.packets < packets

no-more : (parts : List JudgedPart) (part : JudgedPart) (most : ℕ) → length part.packets ≤ most → IsLongest parts part → All (NoMore most) parts
no-more parts part most few h =
    subst (All (NoMore most)) (sym h.whole)
    (All-append (NoMore most) h.before (part ∷ h.after)
    (All-weaker (Fewer (length part.packets)) (NoMore most) (λ p less. omega (arith, less, few)) h.before h.fewer)
    (All-cons (NoMore most) part h.after few
    (All-weaker (NoMore (length part.packets)) (NoMore most) (λ p less. omega (arith, less, few)) h.after h.no_more)))

longest-more : (p q : JudgedPart) (parts : List JudgedPart) → IsLongest parts q → (part : JudgedPart) × IsLongest (p ∷ parts) part
longest-more p q parts h =
    elim (cases_lt (length p.packets) (length q.packets)) as (λ _. (part : JudgedPart) × IsLongest (p ∷ parts) part) [
      | inl less ↦ (
        q,
        record {
          before = p ∷ h.before;
          after = h.after;
          whole = ap (λ l. p ∷ l) h.whole;
          fewer = All-cons (Fewer (length q.packets)) p h.before less h.fewer;
          no_more = h.no_more;
        },
      )
      | inr most ↦ (
        p,
        record {
          before = [];
          after = parts;
          whole = refl;
          fewer = All-nil (Fewer (length p.packets));
          no_more = no-more parts q (length p.packets) most h;
        },
      )
    ]

pub some-longest : (p : JudgedPart) (parts : List JudgedPart) → (part : JudgedPart) × IsLongest (p ∷ parts) part
some-longest p [] = (
  p,
  record { before = []; after = []; whole = refl; fewer = All-nil (Fewer (length p.packets)); no_more = All-nil (NoMore (length p.packets)) },
)
some-longest p (q ∷ parts) = let later = some-longest q parts in longest-more p later.0 (q ∷ parts) later.1

pub run-of : (N : JudgedPart → RunNumbers → Type 0) (before after : List JudgedPart) (part : JudgedPart) (runs : List MeasuredRun)
    → AreMeasured N (before ++ part ∷ after) runs → (run : MeasuredRun) × IsMeasuredRun N part run
run-of N [] after part [] h = absurd h
run-of N [] after part (r ∷ runs) h = (r, h.0)
run-of N (p ∷ before) after part [] h = absurd h
run-of N (p ∷ before) after part (r ∷ runs) h = run-of N before after part runs h.1

some-shows : (m : Media) (shift : Shift) (parts : List JudgedPart) (runs : List MeasuredRun) → AreMeasured (HasNumbers m shift) parts runs
    → (s : Option ShownRun) × Shows m shift parts s
some-shows m shift [] runs h = (None, refl)
some-shows m shift (p ∷ parts) runs h =
    let one = some-longest p parts in
    let run = run-of (HasNumbers m shift) one.1.before one.1.after one.0 runs (subst (λ l. AreMeasured (HasNumbers m shift) l runs) one.1.whole h) in
    let s = some-shown m shift one.0 run.0 run.1 in
    (Some s.0, (one.0, one.1, s.1))

-- what a page has of the flows
some-pages : (options : FlowOptions) (items : List Record) (number : ℕ) (media : List Media) (flows : List MeasuredFlow)
    → EachOf (λ n m f. IsMeasuredFlow m n options (flow items m) f) number media flows
    → (pages : List FlowPage) × EachOf (λ n m p. IsFlowPage m n options (flow items m) p) number media pages
some-pages options items number [] [] h = ([], tt)
some-pages options items number [] (f ∷ flows) h = absurd h
some-pages options items number (m ∷ media) [] h = absurd h
some-pages options items number (m ∷ media) (f ∷ flows) h =
    let s = some-shows m options.shift (judged_parts m (numbered options.seq16 (flow items m)) options.shift) f.runs (h.0).runs in
    let later = some-pages options items (number + 1) media flows h.1 in
    (record { flow = f; shown = s.0 } ∷ later.0, (record { flow_is = h.0; shows = s.1 }, later.1))

-- the answer over packet records of captures
page-defined : (job : CaptureJob) (media : List Media) (items : List Record) (notes : List FileNote) → IsCaptureJob job → All IsMedia media → AreHeld items
    → (answer : Answer) × DefinesPage job media items notes answer
page-defined job media items notes is all held =
    let measure = (measure-defined job media items notes is all held).1 in
    let pages = some-pages job.options items (first_chosen job.media) (chosen job.media media) measure.flows measure.are in
    (paged job.captures notes job.options.shift media pages.0 (contents items), record { pages = pages.0; are = pages.1; answer_is = refl })

pub some-page : (job : CaptureJob) (texts : List (List ℕ)) → IsCaptureJob job → HaveStamps texts → DefinesSome (page_query job) texts
some-page job texts is held media files notes are unsettled records =
    page-defined job media (joined files) notes is are (held files notes records)

-- over captures with these contents
pub some-page-answer : (job : CaptureJob) (media : List Media) (texts : List (List ℕ)) (files : List (List Record)) (notes : List FileNote)
    → IsCaptureJob job → All IsMedia media → AreRecords texts files notes → length (joined files) < 2 ^ 41
    → All (λ (r : Record). IsStamp r.stamp) (joined files)
    → (answer : Answer) × HasAnswer (page_query job) media texts answer
some-page-answer job media texts files notes is all records few stamps =
    let made = page-defined job media (joined files) notes is all (record { few = few; stamps = stamps }) in
    (made.0, record { files = files; notes = notes; records = records; defined = made.1 })
