-- Each flow has an answer of `shape`, and its captures have one.
use Rattle.std.specs.Prelude.{◌⊎◌, nat_lt, slice_index, slice_index_or}
use Rattle.std.specs.List.{count_by}
use Rattle.std.proofs.Common.{◌≡◌, ◌≤◌, ◌<◌, ◌+◌, ◌^◌, ℕ, zero, suc, Bool, true, false, List, [], ◌∷◌, ◌++◌, length, take, refl, arith, ap, ◌∙◌, sym, subst}
use Rattle.std.proofs.Common.{inl, inr, add-one, length-append}
use Rattle.std.proofs.Math.Seq.{get_or-append_seam, take-length}
use Rattle.std.proofs.lemmas.Bool.{cases_lt}
use Rattle.std.proofs.lemmas.List.{get_or_append_left, length-take-le}
use Rattle.timing_base.specs.Shifts.{Shift}
use Rattle.timing_base.specs.Captures.{Record, joined}
use Rattle.timing_base.specs.Jobs.{ShapeJob}
use Rattle.timing_base.specs.Judged.{JudgedRun, judged}
use Rattle.timing_base.specs.Media.{IsMedia, Media}
use Rattle.timing_base.specs.declared.capture.FileNote.{FileNote}
use Rattle.timing_base.specs.declared.media.Kind.{Kind}
use Rattle.flow_shaper.specs.Bounds.{BoundAt}
use Rattle.flow_shaper.specs.Plan.{Shaped, models_of}
use Rattle.flow_shaper.specs.declared.departure.Bound.{Bound}
use Rattle.flow_shaper.specs.declared.departure.Bound.TheVariants.{Arrival}
use Rattle.flow_shaper.proofs.Exists.{shaped-some}
use Rattle.flow_shaper.proofs.Greedy.{least-none}
use Rattle.flow_shaper.proofs.SomeBound.{bound-some}
use Rattle.pcap_reader.specs.Records.{AreRecords, Records}
use Rattle.udp_rtp.specs.Flow.{flow}
use Rattle.timing_report.specs.declared.status.Status.TheVariants as status
use Rattle.timing_steps.specs.Answers.{Answer}
use Rattle.timing_steps.specs.Queries.{HasAnswer}
use Rattle.timing_steps.proofs.Onces.{DefinesOnce, DefinesSome}
use Rattle.timing_reach.specs.Shaped.{DefinesShape, shape_query}
use Rattle.timing_reach.specs.Shapes.{AreBounds, HasShape, IsLate, LeaveInTime, Prints, delays, delays_line, end_of, flow_records, greatest, not_shaped}
use Rattle.timing_reach.specs.Shapes.{packet_lines, shaped_capture}
use Rattle.timing_reach.proofs.OneShape.{shape-once}
use Rattle.timing_reach.proofs.Flowing.{all-media, flow-of_one, once-flow, some-on-media}
use Rattle.timing_reach.proofs.RunSizes.{judged-size}
use Rattle.timing_reach.proofs.Unique.{once-on, some-on}

-- the first k packets leave in time, or some packet is late
abbrev LeaveOrLate : Media → ℕ → Kind → (end : ℕ) → (stamps : List ℕ) → (k : ℕ) → Type 0
LeaveOrLate m n kind end stamps k =
    ((departures : List ℕ) × LeaveInTime m n kind end (take k stamps) departures) ⊎ ((i : ℕ) × IsLate m n kind end stamps i)

-- with one packet more
next-leaves : (m : Media) (n : ℕ) (kind : Kind) (end : ℕ) (stamps before : List ℕ) (k : ℕ) → IsMedia m → 1 ≤ n → k < length stamps
    → LeaveInTime m n kind end (take k stamps) before → LeaveOrLate m n kind end stamps (k + 1)
next-leaves m n kind end stamps before k is some within leave =
    let part = take (k + 1) stamps in
    let size : length part ≡ k + 1 = length-take-le (k + 1) stamps (omega (arith, within)) in
    let found = shaped-some m n kind part is some in
    let departures = found.0 in
    let shaped = found.1.0 in
    elim (cases_lt (slice_index departures k) end) as (λ _. LeaveOrLate m n kind end stamps (k + 1)) [
      | inl early ↦ inl (
        departures,
        record {
          shaped = shaped;
          in_time = λ i few. omega (arith, early, shaped.plan.ordered i k (omega (arith, few, size, shaped.plan.each)) (omega (arith, size, shaped.plan.each)));
        },
      )
      | inr late ↦ inr (
        k,
        record {
          within = within;
          departures = before;
          before = leave;
          late = λ others plan. omega (arith, late, shaped.least others plan k (omega (arith, size)));
        },
      )
    ]

leave-or-late : (m : Media) (n : ℕ) (kind : Kind) (end : ℕ) (stamps : List ℕ) (k : ℕ) → IsMedia m → 1 ≤ n → k ≤ length stamps
    → LeaveOrLate m n kind end stamps k
leave-or-late m n kind end stamps zero is some few =
    inl ([], record { shaped = least-none (models_of m n kind 0); in_time = λ i low. absurd (omega (arith, low)) })
leave-or-late m n kind end stamps (suc k) is some few =
    elim (leave-or-late m n kind end stamps k is some (omega (arith, few))) as (λ _. LeaveOrLate m n kind end stamps (suc k)) [
      | inl leave ↦ let next = next-leaves m n kind end stamps leave.0 k is some (omega (arith, few)) leave.1 in rw add-one at next
      | inr late ↦ inr late
    ]

-- where there is one for each number below n, there is a list of them
record AreFor {A : Type 0} (P : ℕ → A → Type 0) (default : A) (n : ℕ) : Type 0 where
  items : List A
  each : length items ≡ n
  are : (i : ℕ) → i < n → P i (slice_index_or items i default)

list-for : {A : Type 0} (P : ℕ → A → Type 0) (default : A) (n : ℕ) → ((i : ℕ) → i < n → (x : A) × P i x) → AreFor P default n
list-for P default zero some = record { items = []; each = refl; are = λ i few. absurd (omega (arith, few)) }
list-for P default (suc n) some =
    let rest = list-for P default n (λ i few. some i (omega (arith, few))) in
    let last = some n (omega arith) in
    let items = rest.items ++ last.0 ∷ [] in
    record {
      items = items;
      each = omega (arith, length-append rest.items (last.0 ∷ []), rest.each);
      are = λ i few. elim (cases_lt i n) as (λ _. P i (slice_index_or items i default)) [
        | inl early ↦ subst (λ x. P i x) (sym (get_or_append_left rest.items (last.0 ∷ []) default i (omega (arith, early, rest.each)))) (rest.are i early)
        | inr late ↦
            let same : i ≡ n = omega (arith, late, few) in
            let there : i ≡ length rest.items = omega (arith, same, rest.each) in
            let here : slice_index_or items i default ≡ last.0 =
            ap (λ k. slice_index_or items k default) there ∙ get_or-append_seam rest.items last.0 [] default in
            subst (λ x. P i x) (sym here) (subst (λ k. P k last.0) (sym same) last.1)
      ];
    }

bounds-some : (m : Media) (n : ℕ) (kind : Kind) (stamps departures : List ℕ) → IsMedia m → n ≤ 262144 → Shaped m n kind stamps departures
    → (bounds : List Bound) × AreBounds m n kind stamps departures bounds
bounds-some m n kind stamps departures is few shaped =
    let all = list-for (λ i b. BoundAt m n kind stamps departures i b) Arrival (length stamps)
    (λ i within. bound-some m n kind stamps departures i is few shaped within) in
    (all.items, record { each = all.each; bound = all.are })

prints-some : (list : Bool) (shift : Shift) (kind : Kind) (m : Media) (items : List Record) (run : JudgedRun) (departures : List ℕ) → IsMedia m → run.n ≤ 262144
    → Shaped m run.n kind run.stamps departures → (text : List ℕ) × Prints list shift kind m items run departures text
prints-some true shift kind m items run departures is few shaped =
    let ds = delays run.stamps departures in
    let bounds = bounds-some m run.n kind run.stamps departures is few shaped in (
      packet_lines 0 ds bounds.0 ++ delays_line (count_by (nat_lt 0) ds) (length ds) (greatest ds),
      record { bounds = bounds.0; are = bounds.1; text_is = refl },
    )
prints-some false shift kind m items run departures is few shaped = (shaped_capture shift run.head departures (flow_records m items), refl)

-- of a run
pub shape-some : (list : Bool) (shift : Shift) (kind : Kind) (m : Media) (items : List Record) (run : JudgedRun) → IsMedia m → 1 ≤ run.n → run.n ≤ 262144
    → (answer : Answer) × HasShape list shift kind m items run answer
shape-some list shift kind m items run is some few =
    elim (leave-or-late m run.n kind (end_of shift) run.stamps (length run.stamps) is some (omega arith))
    as (λ _. (answer : Answer) × HasShape list shift kind m items run answer) [
      | inl found ↦
          let leave : LeaveInTime m run.n kind (end_of shift) run.stamps found.0 =
          subst (λ l. LeaveInTime m run.n kind (end_of shift) l found.0) (take-length run.stamps) found.1 in
          let text = prints-some list shift kind m items run found.0 is few leave.shaped in
          let answer : Answer = record { text = text.0; status = status.Pass } in
          (answer, inl (record { departures = found.0; leave = leave; text = text.0; prints = text.1; answer_is = refl }))
      | inr late ↦ (not_shaped late.0, inr (record { packet = late.0; late = late.1; answer_is = refl }))
    ]

-- the captures have an answer, if the media are within their limits
pub some-shape : (job : ShapeJob) (texts : List (List ℕ)) → DefinesSome (shape_query job) texts
some-shape job texts media files notes are unsettled records =
    let options = job.flow.options in
    let items = joined files in
    some-on-media media job.flow.media (λ m answer. DefinesShape job m items notes answer) unsettled
    (λ m found. some-on m (HasShape job.list options.shift job.kind m items) (judged (flow items m) m.pt options) (judged-size (flow items m) m.pt options)
    (λ run size. shape-some job.list options.shift job.kind m items run (all-media IsMedia media job.flow.media m are found) size.some size.few))

-- and not two
pub once-shape : (job : ShapeJob) → DefinesOnce (shape_query job)
once-shape job =
    once-flow job.flow (DefinesShape job)
    (λ m items notes a b h k. once-on m (HasShape job.list job.flow.options.shift job.kind m items) (judged (flow items m) m.pt job.flow.options) a b
    (λ run x y. shape-once job.list job.flow.options.shift job.kind m items run a b x y) h k)

-- it is that of one capture with their packet records
pub shape-of_one : (job : ShapeJob) (media : List Media) (texts : List (List ℕ)) (files : List (List Record)) (notes : List FileNote) (one : List ℕ)
    (end : FileNote) (a b : Answer) → AreRecords texts files notes → Records one (2 ^ 40) (joined files) end
    → HasAnswer (shape_query job) media texts a → HasAnswer (shape_query job) media (one ∷ []) b → a ≡ b
shape-of_one job =
    flow-of_one job.flow (DefinesShape job)
    (λ m items notes also a b h k. once-on m (HasShape job.list job.flow.options.shift job.kind m items) (judged (flow items m) m.pt job.flow.options) a b
    (λ run x y. shape-once job.list job.flow.options.shift job.kind m items run a b x y) h k)
