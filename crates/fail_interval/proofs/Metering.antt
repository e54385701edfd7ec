-- The meters of a run are fed one packet, and say their verdict.
use Rattle.std.proofs.Common.{◌≡◌, ◌≤◌, ◌<◌, ◌+◌, ◌-◌, ◌^◌, ℕ, zero, suc, Bool, true, false, List, [], ◌∷◌, ◌++◌, length, length-append, slice_index, take}
use Rattle.std.proofs.Common.{take_all, refl, arith, ap, ◌∙◌, sym, subst, inl, inr}
use Rattle.std.specs.Prelude.{ℤ}
use Rattle.std.proofs.Math.Seq.{get_or-append_seam, take-suc}
use Rattle.std.proofs.lemmas.Bool.{cases_lt}
use Rattle.std.proofs.lemmas.List.{get_or_append_left, get_or-take, length-take-le}
use Rattle.std.proofs.lemmas.List.Elements.{All-take}
use Rattle.timing_base.specs.Media.{IsMedia, Media}
use Rattle.timing_base.specs.Verdicts.{Judged}
use Rattle.timing_base.specs.declared.media.Kind.{Kind}
use Rattle.timing_base.specs.declared.media.Kind.TheVariants.{N, NL, W}
use Rattle.timing_base.specs.declared.row.KindVerdict.{KindVerdict}
use Rattle.sender_params.specs.Keeps.{held_at}
use Rattle.sender_params.specs.Limits.{gapped_of}
use Rattle.sender_params.specs.Reads.{anchor_of}
use Rattle.sender_params.specs.Ticks.{NeverFall}
use Rattle.sender_params.specs.declared.params.Params.{Params}
use Rattle.drain_bucket.specs.Stands.{CanFollow as BucketCanFollow, StandsFor as BucketStandsFor}
use Rattle.drain_bucket.specs.Word.{bucket_of}
use Rattle.drain_bucket.specs.declared.bucket.Bucket.{Bucket}
use Rattle.read_schedule.specs.Between.{Holds as HoldsBetween}
use Rattle.read_schedule.specs.Stands.{IsDueAt, StandsBy}
use Rattle.read_schedule.specs.declared.between.Between.{Between}
use Rattle.read_schedule.specs.declared.schedule.Due.{Due}
use Rattle.read_schedule.specs.declared.schedule.Schedule.{Schedule}
use Rattle.vrx_buffer.specs.Occupancy.{IsOccupancy, is_late}
use Rattle.vrx_buffer.specs.Stands.{StandsFor as VrxStandsFor}
use Rattle.vrx_buffer.specs.declared.held.Held.{Held}
use Rattle.vrx_buffer.specs.declared.vrx.Vrx.{Vrx}
use Rattle.run_meter.specs.Levels.{IsHeld}
use Rattle.fail_interval.specs.Fails.{greatest, kind_verdict}
use Rattle.fail_interval.specs.Kinds.{ComesNext, StandsFor as KindStandsFor}
use Rattle.fail_interval.specs.Lulls.{IsCalm}
use Rattle.fail_interval.specs.Meters.{AreFed, CanFollow, StandsFor, last_stamp, with_bucket}
use Rattle.fail_interval.specs.Row.{judged_values}
use Rattle.fail_interval.specs.SoFar.{AreStamps}
use Rattle.fail_interval.specs.declared.kind.KindMeter.{KindMeter}
use Rattle.fail_interval.specs.declared.lull.Lull.{Lull}
use Rattle.fail_interval.specs.declared.meters.RunMeters.{RunMeters}
use Rattle.fail_interval.proofs.Lulls.{calm-over, calm-quiet, stands-later}
use Rattle.fail_interval.proofs.SenderTypes.{passes-by}

greatest-most : (f : ℕ → ℕ) (count peak : ℕ) → ((k : ℕ) → k < count → f k ≤ peak) → greatest f count ≤ peak
greatest-most f zero peak h = omega arith
greatest-most f (suc i) peak h = omega (arith, greatest-most f i peak (λ k low. h k (omega (arith, low))), h i (omega arith))

greatest-le : (f : ℕ → ℕ) (count k : ℕ) → k < count → f k ≤ greatest f count
greatest-le f zero k low = absurd (omega (arith, low))
greatest-le f (suc i) k low =
    elim (cases_lt k i) as (λ _. f k ≤ greatest f (suc i)) [
      | inl before ↦ omega (arith, greatest-le f i k before)
      | inr here ↦ let same : k ≡ i = omega (arith, here, low) in omega (arith, ap f same)
    ]

-- the greatest value, as it is reached
pub greatest-is : (f : ℕ → ℕ) (count peak : ℕ) → ((k : ℕ) → k < count → f k ≤ peak) → (0 < peak → (k : ℕ) × (k < count) × (f k ≡ peak))
    → peak ≡ greatest f count
greatest-is f count peak most reached =
    elim (cases_lt 0 peak) as (λ _. peak ≡ greatest f count) [
      | inl some ↦ let at = reached some in omega (arith, greatest-most f count peak most, greatest-le f count at.0 at.1, at.2)
      | inr none ↦ omega (arith, greatest-most f count peak most, none)
    ]

-- the peak of the bucket
bucket-peak : (params : Params) (bucket : Bucket) (stamps : List ℕ) → BucketStandsFor params bucket stamps
    → bucket.peak ≡ greatest (bucket_of params.media params.n stamps) (length stamps)
bucket-peak params bucket stamps s =
    elim (cases_lt 0 (length stamps)) as (λ _. bucket.peak ≡ greatest (bucket_of params.media params.n stamps) (length stamps)) [
      | inl some ↦
          let i = length stamps - 1 in
          let size : length stamps ≡ i + 1 = omega (arith, some) in
          let after = s.fed i size in
          greatest-is (bucket_of params.media params.n stamps) (length stamps) bucket.peak (λ k low. after.peak_most k (omega (arith, low, size)))
          (λ _. (after.peak_reached.0, omega (arith, after.peak_reached.1, size), after.peak_reached.2))
      | inr none ↦
          let empty : length stamps ≡ 0 = omega (arith, none) in
          (s.fresh empty).peak ∙ sym (ap (greatest (bucket_of params.media params.n stamps)) empty)
    ]

-- the peak of a buffer
pub vrx-peak : (params : Params) (vrx : Vrx) (stamps : List ℕ) (kind : Kind) → vrx.kind ≡ kind → VrxStandsFor params vrx stamps
    → vrx.peak ≡ greatest (held_at params.media params.n stamps (gapped_of kind)) (length stamps)
vrx-peak params vrx stamps kind e s =
    greatest-is (held_at params.media params.n stamps (gapped_of vrx.kind)) (length stamps) vrx.peak s.peak_most s.peak_reached
    ∙ ap (λ k. greatest (held_at params.media params.n stamps (gapped_of k)) (length stamps)) e

-- a verdict of a run by its parts
abbrev judged_by : ℕ → ℕ → ℕ → ℕ → ℕ → ℕ → ℕ → List KindVerdict → Judged
judged_by n frames packets head bucket gapped linear kinds = record {
  n = n;
  frames = frames;
  packets = packets;
  head = head;
  tail = 0;
  bucket_peak = bucket;
  gapped_peak = gapped;
  linear_peak = linear;
  kinds = kinds;
}

judged-same : (n frames packets count head bucket also gapped too linear more : ℕ) (a b c d e f : KindVerdict) → packets ≡ count → bucket ≡ also → gapped ≡ too
    → linear ≡ more → a ≡ d → b ≡ e → c ≡ f
    → judged_by n frames packets head bucket gapped linear (a ∷ b ∷ c ∷ []) ≡ judged_by n frames count head also too more (d ∷ e ∷ f ∷ [])
judged-same n frames packets count head bucket also gapped too linear more a b c d e f p q r s t u v = cc

kind-verdict-is : (params : Params) (meter : KindMeter) (stamps : List ℕ) (kind : Kind) → meter.vrx.kind ≡ kind → KindStandsFor params meter stamps
    → meter.verdict ≡ kind_verdict params.media params.n stamps kind
kind-verdict-is params meter stamps kind e s = s.verdict ∙ ap (kind_verdict params.media params.n stamps) e

-- what the meters say of a run without a tail
pub says : (params : Params) (meters : RunMeters) (stamps : List ℕ) (frames head : ℕ) → StandsFor params meters stamps
    → judged_by params.n frames meters.bucket.seen head meters.bucket.peak meters.narrow.vrx.peak meters.narrow_linear.vrx.peak
    (meters.narrow.verdict ∷ meters.narrow_linear.verdict ∷ meters.wide.verdict ∷ [])
    ≡ judged_values params.media (record { n = params.n; groups = frames; head = head; tail = 0; stamps = stamps })
says params meters stamps frames head s =
    let f = s.fed in
    judged-same params.n frames _ _ head _ _ _ _ _ _ _ _ _ _ _ _ f.bucket.seen (bucket-peak params meters.bucket stamps f.bucket)
    (vrx-peak params meters.narrow.vrx stamps N f.narrow_kind f.narrow.vrx)
    (vrx-peak params meters.narrow_linear.vrx stamps NL f.narrow_linear_kind f.narrow_linear.vrx)
    (kind-verdict-is params meters.narrow stamps N f.narrow_kind f.narrow)
    (kind-verdict-is params meters.narrow_linear stamps NL f.narrow_linear_kind f.narrow_linear)
    (kind-verdict-is params meters.wide stamps W f.wide_kind f.wide)

-- the first stamp of one packet more
pub first-is : (params : Params) (meters : RunMeters) (stamps : List ℕ) (at : ℕ) → CanFollow params meters stamps at
    → slice_index (stamps ++ at ∷ []) 0 ≡ meters.bucket.origin
first-is params meters [] at c = c.first refl
first-is params meters (x ∷ stamps) at c = c.stands.fed.first (omega arith)

-- the last stamp comes no later
pub last-low : (stamps : List ℕ) (at : ℕ) → NeverFall (stamps ++ at ∷ []) → last_stamp stamps ≤ at
last-low stamps at falls =
    elim (cases_lt 0 (length stamps)) as (λ _. last_stamp stamps ≤ at) [
      | inl some ↦
          let i = length stamps - 1 in
          let few : i < length stamps = omega (arith, some) in
          let long : length (stamps ++ at ∷ []) ≡ length stamps + 1 = length-append stamps (at ∷ []) in
          let rise = falls i (length stamps) (omega arith) (omega (arith, long)) in
          omega (arith, rise, get_or_append_left stamps (at ∷ []) 0 i few, get_or-append_seam stamps at [] 0)
      | inr none ↦
          let empty : stamps ≡ [] = no-stamps stamps (omega (arith, none)) in
          subst (λ xs. last_stamp xs ≤ at) (sym empty) (omega arith)
    ]
  where
    no-stamps : (xs : List ℕ) → length xs ≡ 0 → xs ≡ []
    no-stamps [] e = refl
    no-stamps (x ∷ xs) e = absurd (omega (arith, e))

pub last-is : (stamps : List ℕ) (at : ℕ) → last_stamp (stamps ++ at ∷ []) ≡ at
last-is stamps at =
    let long : length (stamps ++ at ∷ []) - 1 ≡ length stamps = omega (arith, length-append stamps (at ∷ [])) in
    ap (slice_index (stamps ++ at ∷ [])) long ∙ get_or-append_seam stamps at [] 0

-- the packet may follow those that the bucket was fed
pub bucket-follows : (params : Params) (meters : RunMeters) (stamps : List ℕ) (at : ℕ) → CanFollow params meters stamps at
    → BucketCanFollow meters.bucket stamps at
bucket-follows params meters stamps at c = record {
  first = c.first;
  later = λ i size.
      let place : length stamps - 1 ≡ i = omega (arith, size) in
      omega (arith, last-low stamps at c.fit.ordered, ap (slice_index stamps) place);
}

-- a call of the bucket's `feed`
abbrev pub BucketFed : Params → Bucket → Bucket → ℕ → Type 0
BucketFed params bucket new at =
    (stamps : List ℕ) → BucketStandsFor params bucket stamps → BucketCanFollow bucket stamps at → BucketStandsFor params new (stamps ++ at ∷ [])

-- a call of a schedule's `advance`
abbrev pub Advanced : Schedule → Schedule → Due → ℕ → Type 0
Advanced schedule new due at =
    ((m : Media) (n : ℕ) (anchor : ℤ) (gapped : Bool) (before : ℕ) → before ≤ at → StandsBy m n anchor gapped schedule before
    → IsDueAt m n anchor gapped at due)
    × ((m : Media) (n : ℕ) (anchor : ℤ) (gapped : Bool) (before : ℕ) → before ≤ at → StandsBy m n anchor gapped schedule before
    → StandsBy m n anchor gapped new at)

-- a call of a sender type's `feed`
abbrev pub KindFed : Params → Bucket → Due → KindMeter → KindMeter → Type 0
KindFed params bucket due meter new = (stamps : List ℕ) (at : ℕ) → KindStandsFor params meter stamps → ComesNext params bucket due meter.vrx.kind stamps at
    → KindStandsFor params new (stamps ++ at ∷ [])

-- what comes next for a sender type
comes : (params : Params) (origin : ℕ) (bucket : Bucket) (due : Due) (kind k : Kind) (stamps : List ℕ) (at : ℕ) → NeverFall (stamps ++ at ∷ [])
    → slice_index (stamps ++ at ∷ []) 0 ≡ origin
    → BucketStandsFor params bucket (stamps ++ at ∷ [])
    → IsDueAt params.media params.n (anchor_of params.media origin) (gapped_of k) at due
    → kind ≡ k
    → ComesNext params bucket due kind stamps at
comes params origin bucket due kind k stamps at ordered first stands is e = record {
  ordered = ordered;
  bucket_is = stands;
  due_is = subst (λ a. IsDueAt params.media params.n (anchor_of params.media a) (gapped_of kind) at due) (sym first)
      (subst (λ j. IsDueAt params.media params.n (anchor_of params.media origin) (gapped_of j) at due) (sym e) is);
}

-- meters by their parts
abbrev pub meters_by : Bucket → Schedule → Schedule → KindMeter → KindMeter → KindMeter → Lull → RunMeters
meters_by bucket gapped linear narrow narrow_linear wide lull = record {
  bucket = bucket;
  gapped = gapped;
  linear = linear;
  narrow = narrow;
  narrow_linear = narrow_linear;
  wide = wide;
  lull = lull;
}

-- the meters were fed one packet more
pub fed : (params : Params) (meters : RunMeters) (lull : Lull) (at : ℕ) (gapped linear : Schedule) (due_gapped due_linear : Due)
    (narrow narrow_linear wide : KindMeter)
    → Advanced meters.gapped gapped due_gapped at
    → Advanced meters.linear linear due_linear at
    → narrow.vrx.kind ≡ meters.narrow.vrx.kind
    → KindFed params meters.bucket due_gapped meters.narrow narrow
    → narrow_linear.vrx.kind ≡ meters.narrow_linear.vrx.kind
    → KindFed params meters.bucket due_linear meters.narrow_linear narrow_linear
    → wide.vrx.kind ≡ meters.wide.vrx.kind
    → KindFed params meters.bucket due_linear meters.wide wide
    → (before : Bucket) (stamps : List ℕ)
    → CanFollow params (with_bucket meters before) stamps at
    → meters.bucket.origin ≡ before.origin
    → BucketStandsFor params meters.bucket (stamps ++ at ∷ [])
    → AreFed params (meters_by meters.bucket gapped linear narrow narrow_linear wide lull) (stamps ++ at ∷ [])
fed params meters lull at gapped linear due_gapped due_linear narrow narrow_linear wide gapped_more linear_more n_kind n_fed nl_kind nl_fed w_kind w_fed before
    stamps c origin stands =
    let m = params.media in
    let n = params.n in
    let anchor = anchor_of m before.origin in
    let s = c.stands.fed in
    let low = last-low stamps at c.fit.ordered in
    let first = first-is params (with_bucket meters before) stamps at c in
    let gapped_due : IsDueAt m n anchor true at due_gapped = gapped_more.0 m n anchor true (last_stamp stamps) low s.gapped in
    let linear_due : IsDueAt m n anchor false at due_linear = linear_more.0 m n anchor false (last_stamp stamps) low s.linear in
    record {
      first = λ some. first ∙ sym origin;
      bucket = stands;
      gapped = subst (λ a. StandsBy m n (anchor_of m a) true gapped (last_stamp (stamps ++ at ∷ []))) (sym origin)
          (subst (StandsBy m n anchor true gapped) (sym (last-is stamps at)) (gapped_more.1 m n anchor true (last_stamp stamps) low s.gapped));
      linear = subst (λ a. StandsBy m n (anchor_of m a) false linear (last_stamp (stamps ++ at ∷ []))) (sym origin)
          (subst (StandsBy m n anchor false linear) (sym (last-is stamps at)) (linear_more.1 m n anchor false (last_stamp stamps) low s.linear));
      narrow_kind = n_kind ∙ s.narrow_kind;
      narrow = n_fed stamps at s.narrow (comes params before.origin meters.bucket due_gapped meters.narrow.vrx.kind N stamps at c.fit.ordered first stands
          gapped_due s.narrow_kind);
      narrow_linear_kind = nl_kind ∙ s.narrow_linear_kind;
      narrow_linear = nl_fed stamps at s.narrow_linear (comes params before.origin meters.bucket due_linear meters.narrow_linear.vrx.kind NL stamps at
          c.fit.ordered first stands linear_due s.narrow_linear_kind);
      wide_kind = w_kind ∙ s.wide_kind;
      wide = w_fed stamps at s.wide (comes params before.origin meters.bucket due_linear meters.wide.vrx.kind W stamps at c.fit.ordered first stands linear_due
          s.wide_kind);
    }

-- whatever the lull
pub fed-again : (params : Params) (meters : RunMeters) (lull : Lull) (stamps : List ℕ) → AreFed params meters stamps
    → AreFed params (meters_by meters.bucket meters.gapped meters.linear meters.narrow meters.narrow_linear meters.wide lull) stamps
fed-again params meters lull stamps s = record {
  first = s.first;
  bucket = s.bucket;
  gapped = s.gapped;
  linear = s.linear;
  narrow_kind = s.narrow_kind;
  narrow = s.narrow;
  narrow_linear_kind = s.narrow_linear_kind;
  narrow_linear = s.narrow_linear;
  wide_kind = s.wide_kind;
  wide = s.wide;
}

-- a schedule stands by the next packet, too
pub later-by : (params : Params) (gapped : Bool) (schedule : Schedule) (origin also : ℕ) (stamps : List ℕ) (at : ℕ) → origin ≡ also
    → NeverFall (stamps ++ at ∷ [])
    → StandsBy params.media params.n (anchor_of params.media origin) gapped schedule (last_stamp stamps)
    → StandsBy params.media params.n (anchor_of params.media also) gapped schedule (last_stamp (stamps ++ at ∷ []))
later-by params gapped schedule origin also stamps at same falls stood =
    subst (λ o. StandsBy params.media params.n (anchor_of params.media o) gapped schedule (last_stamp (stamps ++ at ∷ []))) same
    (subst (StandsBy params.media params.n (anchor_of params.media origin) gapped schedule) (sym (last-is stamps at))
    (stands-later params.media params.n (anchor_of params.media origin) gapped schedule (last_stamp stamps) at (last-low stamps at falls) stood))

-- a sender type lets the packet pass in a lull
pub kind-passes : (params : Params) (meter : KindMeter) (bucket : Bucket) (origin left brim : ℕ) (b : Between) (stamps : List ℕ) (at : ℕ)
    → NeverFall (stamps ++ at ∷ [])
    → BucketStandsFor params bucket (stamps ++ at ∷ [])
    → slice_index (stamps ++ at ∷ []) 0 ≡ origin
    → at < 2 ^ 62
    → 1 ≤ left
    → bucket.count ≤ brim
    → HoldsBetween b at
    → IsCalm params origin (length stamps) meter left brim b
    → KindStandsFor params meter stamps
    → KindStandsFor params meter (stamps ++ at ∷ [])
kind-passes params meter bucket origin left brim b stamps at falls stands first in_time some within held calm s =
    passes-by params meter bucket stamps at s record {
      ordered = falls;
      bucket_is = stands;
      within = λ pass. omega (arith, within, calm.within pass);
      quiet = calm-quiet params origin meter left brim b stamps at first in_time some held calm;
    }

-- before the first packet
pub fresh : (params : Params) (origin : ℕ) (n0 : ℤ) (bucket : Bucket) (gapped linear : Schedule) (narrow narrow_linear wide : KindMeter) (lull : Lull)
    → bucket.origin ≡ origin
    → n0 ≡ anchor_of params.media origin
    → BucketStandsFor params bucket []
    → ((at : ℕ) → StandsBy params.media params.n n0 true gapped at)
    → ((at : ℕ) → StandsBy params.media params.n n0 false linear at)
    → narrow.vrx.kind ≡ N
    → KindStandsFor params narrow []
    → narrow_linear.vrx.kind ≡ NL
    → KindStandsFor params narrow_linear []
    → wide.vrx.kind ≡ W
    → KindStandsFor params wide []
    → lull.until ≡ 0
    → lull.brim ≡ 0
    → StandsFor params (meters_by bucket gapped linear narrow narrow_linear wide lull) []
fresh params origin n0 bucket gapped linear narrow narrow_linear wide lull e anchor stands by_gapped by_linear n_kind n_stands nl_kind nl_stands w_kind w_stands
    until brim =
    let is : n0 ≡ anchor_of params.media bucket.origin = anchor ∙ ap (anchor_of params.media) (sym e) in
    record {
      fed = record {
        first = λ some. absurd (omega (arith, some));
        bucket = stands;
        gapped = subst (λ z. StandsBy params.media params.n z true gapped 0) is (by_gapped 0);
        linear = subst (λ z. StandsBy params.media params.n z false linear 0) is (by_linear 0);
        narrow_kind = n_kind;
        narrow = n_stands;
        narrow_linear_kind = nl_kind;
        narrow_linear = nl_stands;
        wide_kind = w_kind;
        wide = w_stands;
      };
      lull = record {
        narrow = calm-over params bucket.origin 0 narrow (lull.until - 0) lull.brim lull.gapped (omega (arith, until)) brim;
        narrow_linear = calm-over params bucket.origin 0 narrow_linear (lull.until - 0) lull.brim lull.linear (omega (arith, until)) brim;
        wide = calm-over params bucket.origin 0 wide (lull.until - 0) lull.brim lull.linear (omega (arith, until)) brim;
      };
    }

-- the first stamps of some within the limits are so
pub stamps-take : (stamps : List ℕ) (k : ℕ) → k ≤ length stamps → AreStamps stamps → AreStamps (take k stamps)
stamps-take stamps k few fit =
    let size : length (take k stamps) ≡ k = length-take-le k stamps few in
    record {
      ordered = λ j i low below.
          let rise = fit.ordered j i low (omega (arith, below, size, few)) in
          omega (arith, rise, get_or-take k stamps j 0 (omega (arith, low, below, size)), get_or-take k stamps i 0 (omega (arith, below, size)));
      early = All-take (λ at. at < 2 ^ 62) k stamps fit.early;
      few = omega (arith, size, few, fit.few);
    }

-- the next stamp of a list that the meters are fed
pub next-follows : (params : Params) (meters : RunMeters) (stamps : List ℕ) (i : ℕ) → AreStamps stamps → i < length stamps
    → meters.bucket.origin ≡ slice_index stamps 0
    → StandsFor params meters (take i stamps)
    → CanFollow params meters (take i stamps) (slice_index stamps i)
next-follows params meters stamps i fit few origin s =
    let next : take (suc i) stamps ≡ take i stamps ++ slice_index stamps i ∷ [] = take-suc stamps i 0 few in
    let size : length (take i stamps) ≡ i = length-take-le i stamps (omega (arith, few)) in
    record {
      stands = s;
      first = λ none. let z : i ≡ 0 = omega (arith, none, size) in ap (slice_index stamps) z ∙ sym origin;
      fit = subst AreStamps next (stamps-take stamps (suc i) (omega (arith, few)) fit);
    }

-- and so on
pub next-stands : (params : Params) (new : RunMeters) (stamps : List ℕ) (i : ℕ) → i < length stamps
    → StandsFor params new (take i stamps ++ slice_index stamps i ∷ [])
    → StandsFor params new (take (i + 1) stamps)
next-stands params new stamps i few s =
    let next : i + 1 ≡ suc i = omega arith in
    let same : take (i + 1) stamps ≡ take i stamps ++ slice_index stamps i ∷ [] = ap (λ k. take k stamps) next ∙ take-suc stamps i 0 few in
    subst (StandsFor params new) (sym same) s

-- to the end
pub all-stands : (params : Params) (meters : RunMeters) (stamps : List ℕ) (i : ℕ) → i ≤ length stamps → length stamps ≤ i
    → StandsFor params meters (take i stamps) → StandsFor params meters stamps
all-stands params meters stamps i few many s =
    let all : take i stamps ≡ stamps = take_all i stamps many in subst (StandsFor params meters) all s

-- what is due at the last packet, by its number
pub due-there : (params : Params) (origin packet : ℕ) (stamps : List ℕ) (at : ℕ) (gapped : Bool) (due : Due)
    → slice_index (stamps ++ at ∷ []) 0 ≡ origin → packet ≡ length stamps
    → IsDueAt params.media params.n (anchor_of params.media origin) gapped at due
    → IsDueAt params.media params.n (anchor_of params.media (slice_index (stamps ++ at ∷ []) 0)) gapped (slice_index (stamps ++ at ∷ []) packet) due
due-there params origin packet stamps at gapped due first number is =
    let here : slice_index (stamps ++ at ∷ []) packet ≡ at = ap (slice_index (stamps ++ at ∷ [])) number ∙ get_or-append_seam stamps at [] 0 in
    subst (λ a. IsDueAt params.media params.n (anchor_of params.media a) gapped (slice_index (stamps ++ at ∷ []) packet) due) (sym first)
    (subst (λ t. IsDueAt params.media params.n (anchor_of params.media origin) gapped t due) (sym here) is)

-- schedules that were asked for the last packet stand by it
pub asked-again : (params : Params) (meters : RunMeters) (gapped linear : Schedule) (due_gapped due_linear : Due) (stamps : List ℕ) (at : ℕ)
    → Advanced meters.gapped gapped due_gapped at
    → Advanced meters.linear linear due_linear at
    → StandsFor params meters (stamps ++ at ∷ [])
    → StandsFor params (meters_by meters.bucket gapped linear meters.narrow meters.narrow_linear meters.wide meters.lull) (stamps ++ at ∷ [])
asked-again params meters gapped linear due_gapped due_linear stamps at gapped_more linear_more s =
    let m = params.media in
    let n = params.n in
    let anchor = anchor_of m meters.bucket.origin in
    let last = last-is stamps at in
    let low : last_stamp (stamps ++ at ∷ []) ≤ at = omega (arith, last) in
    record {
      fed = record {
        first = s.fed.first;
        bucket = s.fed.bucket;
        gapped = subst (StandsBy m n anchor true gapped) (sym last) (gapped_more.1 m n anchor true (last_stamp (stamps ++ at ∷ [])) low s.fed.gapped);
        linear = subst (StandsBy m n anchor false linear) (sym last) (linear_more.1 m n anchor false (last_stamp (stamps ++ at ∷ [])) low s.fed.linear);
        narrow_kind = s.fed.narrow_kind;
        narrow = s.fed.narrow;
        narrow_linear_kind = s.fed.narrow_linear_kind;
        narrow_linear = s.fed.narrow_linear;
        wide_kind = s.fed.wide_kind;
        wide = s.fed.wide;
      };
      lull = s.lull;
    }

-- what the buffer holds at the last packet
pub held-there : (params : Params) (meters : RunMeters) (packet : ℕ) (stamps : List ℕ) (at : ℕ) (gapped : Bool) (schedule new : Schedule) (due : Due) (held : Held)
    → Advanced schedule new due at
    → StandsBy params.media params.n (anchor_of params.media meters.bucket.origin) gapped schedule (last_stamp (stamps ++ at ∷ []))
    → slice_index (stamps ++ at ∷ []) 0 ≡ meters.bucket.origin → packet ≡ length stamps
    → ((m : Media) (n : ℕ) (stamps : List ℕ) (gapped : Bool)
    → IsDueAt m n (anchor_of m (slice_index stamps 0)) gapped (slice_index stamps packet) due → IsOccupancy m n stamps gapped packet held.occupancy)
    → ((m : Media) (n : ℕ) (stamps : List ℕ) (gapped : Bool) → IsMedia m → 1 ≤ n
    → IsDueAt m n (anchor_of m (slice_index stamps 0)) gapped (slice_index stamps packet) due → held.late ≡ is_late m n stamps gapped packet)
    → IsHeld params.media params.n (stamps ++ at ∷ []) gapped (length stamps) held
held-there params meters packet stamps at gapped schedule new due held more stood first number occupancy late =
    let m = params.media in
    let n = params.n in
    let low : last_stamp (stamps ++ at ∷ []) ≤ at = omega (arith, last-is stamps at) in
    let is = due-there params meters.bucket.origin packet stamps at gapped due first number
    (more.0 m n (anchor_of m meters.bucket.origin) gapped (last_stamp (stamps ++ at ∷ [])) low stood) in
    subst (λ i. IsHeld m n (stamps ++ at ∷ []) gapped i held) number record {
      occupancy = occupancy m n (stamps ++ at ∷ []) gapped is;
      late = late m n (stamps ++ at ∷ []) gapped params.media_is params.n_some is;
    }

-- what the bucket holds there
pub count-there : (params : Params) (meters : RunMeters) (stamps : List ℕ) (at : ℕ) → StandsFor params meters (stamps ++ at ∷ [])
    → meters.bucket.count ≡ bucket_of params.media params.n (stamps ++ at ∷ []) (length stamps)
count-there params meters stamps at s = (s.fed.bucket.fed (length stamps) (length-append stamps (at ∷ []))).count
