-- What is said of a packet depends on the packets up to it alone.
use Rattle.std.proofs.Common.{◌≡◌, ◌≤◌, ◌<◌, ◌+◌, ◌-◌, ℕ, zero, suc, Bool, true, false, nat_lt, List, [], ◌∷◌, ◌++◌, length, length-append, slice_index, Option}
use Rattle.std.proofs.Common.{Some, None, refl, arith, ap, ◌∙◌, sym, inl, inr}
use Rattle.std.specs.Prelude.{if◌then◌else◌, ◌==◌}
use Rattle.std.proofs.lemmas.Bool.{cases_lt}
use Rattle.std.proofs.lemmas.Bool.Decides.{nat_tests}
use Rattle.std.proofs.lemmas.List.{get_or_append_left}
use Rattle.fraction128.specs.Fractions.{below, whole}
use Rattle.timing_base.specs.Media.{IsMedia, Media}
use Rattle.timing_base.specs.declared.fail.FailProof.{FailProof}
use Rattle.timing_base.specs.declared.fail.Broken.{Broken}
use Rattle.timing_base.specs.declared.fail.Broken.TheVariants.{Bucket, Over, Empty}
use Rattle.timing_base.specs.declared.media.Kind.{Kind}
use Rattle.sender_params.specs.Keeps.{held_at, is_empty}
use Rattle.sender_params.specs.Limits.{c_max_of, gapped_of, vrx_full_of}
use Rattle.sender_params.specs.Reads.{anchor_of, read_of}
use Rattle.sender_params.specs.Ticks.{NeverFall, load_of, ticks_at, ticks_of}
use Rattle.drain_bucket.specs.Word.{bucket_of}
use Rattle.drain_bucket.proofs.Reich.{count_after-same}
use Rattle.vrx_buffer.proofs.Fed.{held_at-append}
use Rattle.fail_interval.specs.Early.{early_at, early_below, early_by}
use Rattle.fail_interval.specs.Fails.{broken_at, kind_verdict, latest_start, latest_up_to, verdict_next}
use Rattle.fail_interval.proofs.Verdicts.{broken_by, early_below-is}

ticks_at-append : (m : Media) (n : ℕ) (stamps : List ℕ) (at k : ℕ) → k < length stamps → ticks_at m n (stamps ++ at ∷ []) k ≡ ticks_at m n stamps k
ticks_at-append m n stamps at k few =
    let first : slice_index (stamps ++ at ∷ []) 0 ≡ slice_index stamps 0 = get_or_append_left stamps (at ∷ []) 0 0 (omega (arith, few)) in
    let here : slice_index (stamps ++ at ∷ []) k ≡ slice_index stamps k = get_or_append_left stamps (at ∷ []) 0 k few in
    ap (λ a. ticks_of m n a (slice_index (stamps ++ at ∷ []) k)) first ∙ ap (ticks_of m n (slice_index stamps 0)) here

-- the bucket at a packet
pub bucket_of-append : (m : Media) (n : ℕ) (stamps : List ℕ) (at k : ℕ) → k < length stamps → bucket_of m n (stamps ++ at ∷ []) k ≡ bucket_of m n stamps k
bucket_of-append m n stamps at k few =
    count_after-same (ticks_at m n (stamps ++ at ∷ [])) (ticks_at m n stamps) k (λ j low. ticks_at-append m n stamps at j (omega (arith, low, few)))

load_of-append : (m : Media) (n : ℕ) (stamps : List ℕ) (at j i : ℕ) → j ≤ i → i < length stamps → load_of m n (stamps ++ at ∷ []) j i ≡ load_of m n stamps j i
load_of-append m n stamps at j i low few =
    let first = ticks_at-append m n stamps at j (omega (arith, low, few)) in
    let second = ticks_at-append m n stamps at i few in
    ap (λ t. (i - j + 1) - (t - ticks_at m n (stamps ++ at ∷ []) j)) second ∙ ap (λ t. (i - j + 1) - (ticks_at m n stamps i - t)) first

latest-append : (m : Media) (n : ℕ) (stamps : List ℕ) (at i j : ℕ) → j ≤ i → i < length stamps
    → latest_up_to m n (stamps ++ at ∷ []) i j ≡ latest_up_to m n stamps i j
latest-append m n stamps at i zero low few = refl
latest-append m n stamps at i (suc j) low few =
    let load = load_of-append m n stamps at (suc j) i low few in
    let count = bucket_of-append m n stamps at i few in
    let rest = latest-append m n stamps at i j (omega (arith, low)) few in
    ap (λ k. if k == bucket_of m n (stamps ++ at ∷ []) i then suc j else latest_up_to m n (stamps ++ at ∷ []) i j) load
    ∙ (ap (λ k. if load_of m n stamps (suc j) i == k then suc j else latest_up_to m n (stamps ++ at ∷ []) i j) count
    ∙ ap (λ k. if load_of m n stamps (suc j) i == bucket_of m n stamps i then suc j else k) rest)

is_empty-append : (m : Media) (n : ℕ) (stamps : List ℕ) (at : ℕ) (kind : Kind) (k : ℕ) → k < length stamps
    → is_empty m n (stamps ++ at ∷ []) kind k ≡ is_empty m n stamps kind k
is_empty-append m n stamps at kind k few =
    let first : slice_index (stamps ++ at ∷ []) 0 ≡ slice_index stamps 0 = get_or_append_left stamps (at ∷ []) 0 0 (omega (arith, few)) in
    let here : slice_index (stamps ++ at ∷ []) k ≡ slice_index stamps k = get_or_append_left stamps (at ∷ []) 0 k few in
    ap (λ a. below (read_of m n (anchor_of m a) (gapped_of kind) k) (whole (slice_index (stamps ++ at ∷ []) k))) first
    ∙ ap (λ a. below (read_of m n (anchor_of m (slice_index stamps 0)) (gapped_of kind) k) (whole a)) here

-- one of three intervals
pick : FailProof → FailProof → FailProof → Option Broken → Option FailProof
pick b o e None = None
pick b o e (Some Bucket) = Some b
pick b o e (Some Over) = Some o
pick b o e (Some Empty) = Some e

-- an interval by its parts
abbrev proof_by : Broken → ℕ → ℕ → ℕ → ℕ → FailProof
proof_by model from to count limit = record { model = model; from = from; to = to; count = count; limit = limit }

pick-is : (m : Media) (n : ℕ) (stamps : List ℕ) (kind : Kind) (i : ℕ) (here : Option Broken)
    → early_by m n stamps kind i here
    ≡ pick (proof_by Bucket (latest_start m n stamps i) i (bucket_of m n stamps i) (c_max_of m n kind))
    (proof_by Over 0 i (held_at m n stamps (gapped_of kind) i) (vrx_full_of m n kind)) (proof_by Empty i i i (i + 1)) here
unfolding pick
pick-is m n stamps kind i None = refl
pick-is m n stamps kind i (Some Bucket) = refl
pick-is m n stamps kind i (Some Over) = refl
pick-is m n stamps kind i (Some Empty) = refl

-- what is said of packet i, by the numbers at it
abbrev early_from : Media → ℕ → Kind → (i count latest held : ℕ) → Bool → Option FailProof
early_from m n kind i count latest held late =
    pick (proof_by Bucket latest i count (c_max_of m n kind)) (proof_by Over 0 i held (vrx_full_of m n kind)) (proof_by Empty i i i (i + 1))
    (broken_by (nat_lt (c_max_of m n kind) count) (nat_lt (vrx_full_of m n kind) held) late)

from-same : (m : Media) (n : ℕ) (kind : Kind) (i count more latest later held also : ℕ) (late too : Bool) → count ≡ more → latest ≡ later → held ≡ also
    → late ≡ too
    → early_from m n kind i count latest held late ≡ early_from m n kind i more later also too
from-same m n kind i count more latest later held also late too e f g h = cc

early_at-append : (m : Media) (n : ℕ) (stamps : List ℕ) (at : ℕ) (kind : Kind) (i : ℕ) → i < length stamps
    → early_at m n (stamps ++ at ∷ []) kind i ≡ early_at m n stamps kind i
early_at-append m n stamps at kind i few =
    let new = stamps ++ at ∷ [] in
    pick-is m n new kind i (broken_at m n new kind i)
    ∙ (from-same m n kind i (bucket_of m n new i) (bucket_of m n stamps i) (latest_start m n new i) (latest_start m n stamps i)
    (held_at m n new (gapped_of kind) i) (held_at m n stamps (gapped_of kind) i)
    (is_empty m n new kind i) (is_empty m n stamps kind i)
    (bucket_of-append m n stamps at i few) (latest-append m n stamps at i i (omega arith) few) (held_at-append m n stamps at (gapped_of kind) i few)
    (is_empty-append m n stamps at kind i few)
    ∙ sym (pick-is m n stamps kind i (broken_at m n stamps kind i)))

early_below-append : (m : Media) (n : ℕ) (stamps : List ℕ) (at : ℕ) (kind : Kind) (count : ℕ) → count ≤ length stamps
    → early_below m n (stamps ++ at ∷ []) kind count ≡ early_below m n stamps kind count
early_below-append m n stamps at kind zero few = refl
early_below-append m n stamps at kind (suc i) few =
    ap (λ v. verdict_next v (early_at m n (stamps ++ at ∷ []) kind i)) (early_below-append m n stamps at kind i (omega (arith, few)))
    ∙ ap (verdict_next (early_below m n stamps kind i)) (early_at-append m n stamps at kind i (omega (arith, few)))

-- a list that never falls never falls before its last stamp
pub falls-before : (stamps : List ℕ) (at : ℕ) → NeverFall (stamps ++ at ∷ []) → NeverFall stamps
falls-before stamps at falls j i low few =
    let rise = falls j i low (omega (arith, few, length-append stamps (at ∷ []))) in
    omega (arith, rise, get_or_append_left stamps (at ∷ []) 0 j (omega (arith, low, few)), get_or_append_left stamps (at ∷ []) 0 i few)

-- the verdict on one packet more
pub verdict-more : (m : Media) (n : ℕ) (stamps : List ℕ) (at : ℕ) (kind : Kind) → IsMedia m → 1 ≤ n → NeverFall (stamps ++ at ∷ [])
    → kind_verdict m n (stamps ++ at ∷ []) kind ≡ verdict_next (kind_verdict m n stamps kind) (early_at m n (stamps ++ at ∷ []) kind (length stamps))
verdict-more m n stamps at kind is some falls =
    let new = stamps ++ at ∷ [] in
    let long : length new ≡ suc (length stamps) = omega (arith, length-append stamps (at ∷ [])) in
    let before : early_below m n new kind (length stamps) ≡ kind_verdict m n stamps kind =
    early_below-append m n stamps at kind (length stamps) (omega arith) ∙ early_below-is m n stamps kind (length stamps) is some (falls-before stamps at falls)
    (omega arith) in
    sym (early_below-is m n new kind (length new) is some falls (omega arith))
    ∙ (ap (early_below m n new kind) long ∙ ap (λ v. verdict_next v (early_at m n new kind (length stamps))) before)

equal : (a b : ℕ) → a ≡ b → (a == b) ≡ true
equal a b e = grind (arith, nat_tests)

not_equal : (a b : ℕ) → (a ≡ b → ⊥) → (a == b) ≡ false
not_equal a b e = grind (arith, nat_tests)

latest-from : (m : Media) (n : ℕ) (stamps : List ℕ) (i begin j : ℕ) → begin ≤ j → j ≤ i
    → load_of m n stamps begin i ≡ bucket_of m n stamps i
    → ((k : ℕ) → k ≤ i → load_of m n stamps k i ≡ bucket_of m n stamps i → k ≤ begin)
    → latest_up_to m n stamps i j ≡ begin
latest-from m n stamps i begin zero low few is latest = omega (arith, low)
latest-from m n stamps i begin (suc j) low few is latest =
    elim (cases_lt begin (suc j)) as (λ _. latest_up_to m n stamps i (suc j) ≡ begin) [
      | inl before ↦
          let other : (load_of m n stamps (suc j) i == bucket_of m n stamps i) ≡ false =
          not_equal (load_of m n stamps (suc j) i) (bucket_of m n stamps i) (λ e. omega (arith, latest (suc j) few e, before)) in
          ap (λ b. if b then suc j else latest_up_to m n stamps i j) other ∙ latest-from m n stamps i begin j (omega (arith, before))
          (omega (arith, few)) is latest
      | inr here ↦
          let same : begin ≡ suc j = omega (arith, here, low) in
          let told : (load_of m n stamps (suc j) i == bucket_of m n stamps i) ≡ true =
          equal _ _ (ap (λ k. load_of m n stamps k i) (sym same) ∙ is) in
          ap (λ b. if b then suc j else latest_up_to m n stamps i j) told ∙ sym same
    ]

-- the latest start of an interval whose load is the count
pub latest-is : (m : Media) (n : ℕ) (stamps : List ℕ) (i begin : ℕ) → begin ≤ i
    → load_of m n stamps begin i ≡ bucket_of m n stamps i
    → ((k : ℕ) → k ≤ i → load_of m n stamps k i ≡ bucket_of m n stamps i → k ≤ begin)
    → latest_start m n stamps i ≡ begin
latest-is m n stamps i begin low is latest = latest-from m n stamps i begin i low (omega arith) is latest
