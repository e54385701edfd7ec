-- The numbers of a run that is shown are those of its verdict.
use Rattle.std.specs.Prelude.{◌==◌, ◌||◌, ◌&&◌, not, nat_lt, is_some, slice_index_or, All}
use Rattle.std.proofs.Common.{◌≡◌, ◌<◌, ◌∷◌, [], ℕ, ℤ, Bool, true, false, List, length, map, slice_index, Option, Some, None}
use Rattle.std.proofs.Common.{inl, inr, refl, ap, ap₂, ◌∙◌, sym, subst, arith}
use Rattle.std.proofs.lemmas.Bool.{cases_Bool, cond-true, le-ltb, lt-ltb, ne_eqb}
use Rattle.timing_base.specs.Shifts.{FlowOptions, Shift}
use Rattle.timing_base.specs.Media.{Media}
use Rattle.timing_base.specs.Numbered.{numbered}
use Rattle.timing_base.specs.Verdicts.{Judged}
use Rattle.timing_base.specs.declared.media.Kind.{Kind}
use Rattle.timing_base.specs.declared.media.Kind.TheVariants.{N, NL, W}
use Rattle.timing_base.specs.declared.packet.FlowPacket.{FlowPacket}
use Rattle.timing_base.specs.declared.row.KindVerdict.{KindVerdict}
use Rattle.timing_base.specs.declared.row.KindVerdict.TheVariants.{Pass, Fail}
use Rattle.sender_params.specs.Keeps.{is_empty, is_over}
use Rattle.sender_params.specs.Limits.{c_max_of, gapped_of, vrx_full_of}
use Rattle.run_meter.specs.Runs.{JudgedPart, NameFirst, NamesFirst, is_broken, stamps_of}
use Rattle.timing_report.specs.Outcomes.{is_pass, place_of, verdict_on}
use Rattle.flow_measure.specs.Bins.{above_limit, is_above}
use Rattle.flow_measure.specs.Counts.{count_of}
use Rattle.flow_measure.specs.First.{IsFirst}
use Rattle.flow_measure.specs.Kinds.{AreBinsOf, place_below}
use Rattle.flow_measure.specs.Occupancy.{AreOccupancies, buckets_of}
use Rattle.flow_measure.specs.Packets.{records_of, timestamps_of}
use Rattle.flow_measure.specs.Run.{AreKinds, IsKind, IsMeasured, is_overfull}
use Rattle.flow_measure.specs.declared.bins.Bins.{Bins}
use Rattle.flow_measure.specs.declared.numbers.KindNumbers.{KindNumbers}
use Rattle.flow_measure.specs.declared.numbers.Place.{Place}
use Rattle.flow_measure.specs.declared.numbers.RunNumbers.{RunNumbers}
use Rattle.flow_measure.proofs.Counted.{count_of-same, count_of-some, none-count_of}
use Rattle.flow_measure.proofs.Packets.{packets-are}
use Rattle.flow_findings.specs.Details.{AreDetails, AreOverfull, IsOverfull}
use Rattle.flow_findings.specs.Lists.{AreOfVerdict}
use Rattle.flow_findings.specs.Numbers.{kind_of, limits_for, limits_of, margins_for, no_limits, numbers_for, numbers_of, overfull_for}
use Rattle.flow_findings.specs.declared.inputs.KnownFlow.{KnownFlow}
use Rattle.flow_findings.specs.declared.inputs.Overfull.{Overfull}
use Rattle.flow_findings.specs.declared.inputs.RunDetails.{RunDetails}
use Rattle.flow_findings.specs.declared.inputs.ShownRun.{ShownRun}
use Rattle.flow_findings.specs.declared.numbers.LimitNumbers.{LimitNumbers}
use Rattle.fail_interval.specs.Parts.{judged_parts}
use Rattle.timing_measure.proofs.lemmas.page.Places.{part-at}
use Rattle.timing_explain.specs.Known.{IsKnownFlow, Shows}
use Rattle.timing_explain.proofs.Parts.{NamesOwn, names-own}

-- ---- a verdict, by the packets that violate a model

-- one of three tests passes
one-passes : (a b c : Bool) → a ≡ false → (a || b) || c ≡ true → (b ≡ false) × (c ≡ false) → ⊥
one-passes true b c e f g = cc
one-passes false true c e f g = cc
one-passes false false true e f g = cc
one-passes false false false e f g = cc

-- none of three tests passes
none-pass : (a b c : Bool) → (a || b) || c ≡ false → (a ≡ false) × (b ≡ false) × (c ≡ false)
none-pass true b c e = cc
none-pass false true c e = cc
none-pass false false true e = cc
none-pass false false false e = (refl, refl, refl)

-- a count is above 0 or not
some-counted : (count : ℕ) → 0 < count → nat_lt 0 count ≡ true
some-counted count some = lt-ltb 0 count some

none-counted : (count : ℕ) → count ≡ 0 → nat_lt 0 count ≡ false
none-counted count none = le-ltb 0 count (omega (arith, none))

-- ---- what a verdict on packets says, of which `full` break the bucket, and `over` and `late` the buffer

pass-is : (full over late : ℕ → Bool) (count above behind : ℕ) (told : KindVerdict) (first : Option ℕ)
    → NamesFirst (λ i. (full i || over i) || late i) count told → IsFirst full count first
    → above ≡ count_of over count → behind ≡ count_of late count
    → is_pass told ≡ (not (is_some first) && not (nat_lt 0 above || nat_lt 0 behind))
pass-is full over late count above behind Pass None names none over_is late_is =
    let quiet = λ (i : ℕ) (few : i < count). none-pass (full i) (over i) (late i) (names i few) in
    let over_none = none-counted above (over_is ∙ none-count_of over count (λ i few. (quiet i few).1)) in
    let late_none = none-counted behind (late_is ∙ none-count_of late count (λ i few. (quiet i few).2)) in
    sym (ap₂ (λ (a b : Bool). not (a || b)) over_none late_none)
pass-is full over late count above behind Pass (Some i) names first over_is late_is =
    let here = none-pass (full i) (over i) (late i) (names i first.0) in absurd (cc (here.0, first.1))
pass-is full over late count above behind (Fail proof) (Some i) names first over_is late_is = refl
pass-is full over late count above behind (Fail proof) None names none over_is late_is =
    elim (cases_Bool (over proof.to)) as (λ _. false ≡ not (nat_lt 0 above || nat_lt 0 behind)) [
      | inl too_full ↦
          let some : nat_lt 0 above ≡ true = some-counted above (omega (arith, over_is, count_of-some over count proof.to names.0 too_full)) in
          sym (ap (λ (a : Bool). not (a || nat_lt 0 behind)) some)
      | inr kept ↦
          elim (cases_Bool (late proof.to)) as (λ _. false ≡ not (nat_lt 0 above || nat_lt 0 behind)) [
            | inl too_late ↦
                let some : nat_lt 0 behind ≡ true = some-counted behind (omega (arith, late_is, count_of-some late count proof.to names.0 too_late)) in
                sym (ap (λ (b : Bool). not (nat_lt 0 above || b)) some ∙ ap not (or-true (nat_lt 0 above)))
            | inr in_time ↦
                absurd (one-passes (full proof.to) (over proof.to) (late proof.to) (none proof.to names.0) names.1 (kept, in_time))
          ]
    ]
  where
    or-true : (b : Bool) → b || true ≡ true
    or-true true = refl
    or-true false = refl

-- a packet is the first exactly if one is counted
first-is : (test : ℕ → Bool) (count above : ℕ) (first : Option ℕ) → IsFirst test count first → above ≡ count_of test count
    → is_some first ≡ not (above == 0)
first-is test count above None none is = sym (ap (λ k. not (k == 0)) (is ∙ none-count_of test count none))
first-is test count above (Some i) first is =
    sym (ap not (ne_eqb above 0 (λ e. omega (arith, e, is, count_of-some test count i first.0 first.1))))

-- ---- the numbers of a type

-- the first packet above C_MAX has a place exactly if there is one
place-is : (test : ℕ → Bool) (rec stamp : ℕ → ℕ) (count : ℕ) (first : Option ℕ) (place : Option Place)
    → IsFirst test count first → place ≡ place_below rec stamp count first
    → is_some place ≡ is_some first
place-is test rec stamp count None place first is = ap (λ (p : Option Place). is_some p) is
place-is test rec stamp count (Some i) place first is =
    ap (λ (p : Option Place). is_some p) (is ∙ cond-true (nat_lt i count) _ None (lt-ltb i count first.0))

-- the count above the limit of bins
above-is : (limit : ℕ) (numbers : ℕ → ℤ) (count : ℕ) (b : Bins) → AreBinsOf limit numbers count b → b.above ≡ above_limit limit numbers count
above-is limit numbers count b are =
    are.counts.above ∙ ap (λ l. above_limit l numbers b.seen) are.limit_is ∙ ap (above_limit limit numbers) are.seen

-- how many packets are above the limits
record CountsAbove (m : Media) (n : ℕ) (stamps : List ℕ) (kind : Kind) (l : LimitNumbers) : Type 0 where
  bucket_is : l.above_bucket ≡ count_of (is_overfull m n stamps kind) (length stamps)
  buffer_is : l.above_buffer ≡ count_of (is_over m n stamps kind) (length stamps)

one-above : (m : Media) (n groups : ℕ) (stamps records : List ℕ) (occupancy : ℕ → ℤ) (kind : Kind) (named : Option ℕ) (k : KindNumbers)
    → AreOccupancies m n stamps (gapped_of kind) occupancy → IsKind m n groups stamps records occupancy kind named k
    → CountsAbove m n stamps kind (limits_of k)
one-above m n groups stamps records occupancy kind named k are is =
    let full = vrx_full_of m n kind in
    let count = length stamps in
    let packets = packets-are m n stamps records occupancy kind are in
    record {
      bucket_is = above-is (c_max_of m n kind) (buckets_of m n stamps) count k.bucket is.numbers.bucket;
      buffer_is = above-is full occupancy count k.buffer is.numbers.buffer
          ∙ count_of-same (is_over m n stamps kind) (λ i. is_above full (occupancy i)) count (λ i few. sym (packets.over i few));
    }

all-above : (m : Media) (n groups : ℕ) (stamps records : List ℕ) (gapped linear : ℕ → ℤ) (named : List (Option ℕ)) (ks : List KindNumbers) (kind : Kind)
    → AreOccupancies m n stamps true gapped → AreOccupancies m n stamps false linear
    → AreKinds m n groups stamps records gapped linear named ks
    → CountsAbove m n stamps kind (slice_index_or (map limits_of ks) (place_of kind) no_limits)
all-above m n groups stamps records gapped linear named (a ∷ b ∷ c ∷ []) N g l are = one-above m n groups stamps records gapped N _ a g are.0
all-above m n groups stamps records gapped linear named (a ∷ b ∷ c ∷ []) NL g l are = one-above m n groups stamps records linear NL _ b l are.1
all-above m n groups stamps records gapped linear named (a ∷ b ∷ c ∷ []) W g l are = one-above m n groups stamps records linear W _ c l are.2
all-above m n groups stamps records gapped linear named [] kind g l are = absurd are
all-above m n groups stamps records gapped linear named (a ∷ []) kind g l are = absurd are
all-above m n groups stamps records gapped linear named (a ∷ b ∷ []) kind g l are = absurd are
all-above m n groups stamps records gapped linear named (a ∷ b ∷ c ∷ d ∷ ks) kind g l are = absurd are

-- how many are late
late-is : (m : Media) (n groups : ℕ) (stamps records timestamps : List ℕ) (named : List (Option ℕ)) (x : RunNumbers) (kind : Kind)
    → IsMeasured m n groups stamps records timestamps named x
    → (margins_for x kind).late ≡ count_of (is_empty m n stamps kind) (length stamps)
late-is m n groups stamps records timestamps named x N is = is.gapped.late
late-is m n groups stamps records timestamps named x NL is = is.linear.late
late-is m n groups stamps records timestamps named x W is = is.linear.late

-- the verdict
told-first : (m : Media) (n : ℕ) (stamps : List ℕ) (kinds : List KindVerdict) (kind : Kind) → NameFirst m n stamps kinds
    → NamesFirst (is_broken m n stamps kind) (length stamps) (slice_index_or kinds (place_of kind) Pass)
told-first m n stamps (a ∷ b ∷ c ∷ []) N h = h.0
told-first m n stamps (a ∷ b ∷ c ∷ []) NL h = h.1
told-first m n stamps (a ∷ b ∷ c ∷ []) W h = h.2
told-first m n stamps [] kind h = absurd h
told-first m n stamps (a ∷ []) kind h = absurd h
told-first m n stamps (a ∷ b ∷ []) kind h = absurd h
told-first m n stamps (a ∷ b ∷ c ∷ d ∷ kinds) kind h = absurd h

-- the packets above C_MAX
overfull-on : (m : Media) (n groups : ℕ) (stamps records : List ℕ) (os : List Overfull) (kind : Kind) → AreOverfull m n groups stamps records os
    → IsOverfull m n groups stamps records kind (overfull_for os kind)
overfull-on m n groups stamps records (a ∷ b ∷ c ∷ []) N h = h.0
overfull-on m n groups stamps records (a ∷ b ∷ c ∷ []) NL h = h.1
overfull-on m n groups stamps records (a ∷ b ∷ c ∷ []) W h = h.2
overfull-on m n groups stamps records [] kind h = absurd h
overfull-on m n groups stamps records (a ∷ []) kind h = absurd h
overfull-on m n groups stamps records (a ∷ b ∷ []) kind h = absurd h
overfull-on m n groups stamps records (a ∷ b ∷ c ∷ d ∷ os) kind h = absurd h

-- ---- all numbers of a run

numbers-agree : (m : Media) (n groups : ℕ) (stamps records timestamps : List ℕ) (named : List (Option ℕ)) (judged : Judged) (numbers : RunNumbers)
    (d : RunDetails) (kind : Kind)
    → NameFirst m n stamps judged.kinds
    → IsMeasured m n groups stamps records timestamps named numbers
    → AreDetails m n groups stamps records d
    → AreOfVerdict (numbers_for m judged numbers d kind)
numbers-agree m n groups stamps records timestamps named judged numbers d kind names is details =
    let count = length stamps in
    let full = is_overfull m n stamps kind in
    let limits = limits_for numbers kind in
    let above : CountsAbove m n stamps kind limits =
    all-above m n groups stamps records is.gapped_at is.linear_at named numbers.kinds kind is.gapped.are is.linear.are is.kinds in
    let late = late-is m n groups stamps records timestamps named numbers kind is in
    let over : IsOverfull m n groups stamps records kind (overfull_for d.overfull kind) =
    overfull-on m n groups stamps records d.overfull kind details.overfull_are in
    let place = place-is full (slice_index records) (slice_index stamps) count over.first (overfull_for d.overfull kind).first over.first_is over.place_is in
    let verdict = pass-is full (is_over m n stamps kind) (is_empty m n stamps kind) count limits.above_buffer (margins_for numbers kind).late
    (verdict_on judged kind) over.first (told-first m n stamps judged.kinds kind names) over.first_is above.buffer_is late in
    record {
      passes = verdict ∙ ap (λ (b : Bool). not b && not (nat_lt 0 limits.above_buffer || nat_lt 0 (margins_for numbers kind).late)) (sym place);
      above = place ∙ first-is full count limits.above_bucket over.first over.first_is above.bucket_is;
    }

-- of the run that is shown
shown-agree : (m : Media) (shift : Shift) (parts : List JudgedPart) (s : ShownRun) → All (NamesOwn m shift) parts → Shows m shift parts (Some s)
    → AreOfVerdict (numbers_of m s)
shown-agree m shift parts s all h =
    let part = h.0 in
    let run = h.2.run_is in
    let names : NamesOwn m shift part = part-at (NamesOwn m shift) h.1.before h.1.after part (subst (All (NamesOwn m shift)) h.1.whole all) in
    numbers-agree m part.values.n part.values.frames (stamps_of shift part.packets) (records_of part.packets) (timestamps_of part.packets) _ s.run.judged
    s.run.numbers s.details (kind_of m.declared s.run.judged)
    (subst (λ (j : Judged). NameFirst m part.values.n (stamps_of shift part.packets) j.kinds) (sym run.judged_is) names)
    run.numbers h.2.details_are

pub known-agree : (m : Media) (number : ℕ) (options : FlowOptions) (packets : List FlowPacket) (flow : KnownFlow) (s : ShownRun)
    → IsKnownFlow m number options packets flow → flow.shown ≡ Some s → AreOfVerdict (numbers_of m s)
known-agree m number options packets flow s h e =
    let parts = judged_parts m (numbered options.seq16 packets) options.shift in
    shown-agree m options.shift parts s (names-own m (numbered options.seq16 packets) options.shift)
    (subst (Shows m options.shift parts) e h.shows)
