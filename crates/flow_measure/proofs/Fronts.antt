-- Lists with one place more, and what the models say of the packets before it.
use Rattle.std.proofs.Common.{◌≡◌, ◌≤◌, ◌<◌, ◌+◌, ◌++◌, ◌∷◌, [], ℕ, ℤ, pos, Bool, List, length, slice_index, ap, ◌∙◌, sym, subst, arith, length-append}
use Rattle.std.proofs.Math.Seq.{get_or-append_seam}
use Rattle.std.proofs.lemmas.List.{get_or_append_left}
use Rattle.fraction128.specs.Fractions.{below, whole}
use Rattle.timing_base.specs.Media.{Media}
use Rattle.sender_params.specs.Reads.{AreDue, anchor_of, read_of}
use Rattle.sender_params.specs.Ticks.{NeverFall, ticks_at, ticks_of}
use Rattle.drain_bucket.specs.Word.{bucket_of}
use Rattle.drain_bucket.proofs.Reich.{count_after-same}
use Rattle.vrx_buffer.specs.Occupancy.{IsOccupancy, is_late}
use Rattle.flow_measure.specs.Metered.{AreBuckets}
use Rattle.flow_measure.specs.Occupancy.{AreOccupancies}

-- the last stamp, and those before it
pub last-is : (stamps : List ℕ) (at : ℕ) → slice_index (stamps ++ at ∷ []) (length stamps) ≡ at
last-is stamps at = get_or-append_seam stamps at [] 0

pub front-is : (stamps : List ℕ) (at i : ℕ) → i < length stamps → slice_index (stamps ++ at ∷ []) i ≡ slice_index stamps i
front-is stamps at i few = get_or_append_left stamps (at ∷ []) 0 i few

pub longer : (xs : List ℕ) (x i : ℕ) → i < length xs → i < length (xs ++ x ∷ [])
longer xs x i few = let long : length (xs ++ x ∷ []) ≡ length xs + 1 = length-append xs (x ∷ []) in omega (arith, few, long)

pub ends : (xs : List ℕ) (x : ℕ) → length xs < length (xs ++ x ∷ [])
ends xs x = let long : length (xs ++ x ∷ []) ≡ length xs + 1 = length-append xs (x ∷ []) in omega (arith, long)

-- of stamps that never fall the last is the latest
pub latest-of : (stamps : List ℕ) (at : ℕ) → NeverFall (stamps ++ at ∷ []) → (i : ℕ) → i < length stamps → slice_index stamps i ≤ at
latest-of stamps at rising i few =
    let here = front-is stamps at i few in
    let last = last-is stamps at in
    omega (arith, rising i (length stamps) (omega (arith, few)) (ends stamps at), here, last)

-- the bucket at a packet before it
pub bucket-front : (m : Media) (n : ℕ) (stamps : List ℕ) (at i : ℕ) → i < length stamps
    → bucket_of m n (stamps ++ at ∷ []) i ≡ bucket_of m n stamps i
bucket-front m n stamps at i few =
    let new = stamps ++ at ∷ [] in
    count_after-same (ticks_at m n new) (ticks_at m n stamps) i
    (λ j low.
    let start : slice_index new 0 ≡ slice_index stamps 0 = front-is stamps at 0 (omega (arith, few)) in
    let here : slice_index new j ≡ slice_index stamps j = front-is stamps at j (omega (arith, low, few)) in
    ap (λ a. ticks_of m n a (slice_index new j)) start ∙ ap (ticks_of m n (slice_index stamps 0)) here)

pub buckets-front : (m : Media) (n : ℕ) (stamps : List ℕ) (at : ℕ) (numbers : ℕ → ℤ)
    → AreBuckets m n (stamps ++ at ∷ []) numbers
    → AreBuckets m n stamps numbers
buckets-front m n stamps at numbers are = λ i few.
    are i (longer stamps at i few) ∙ ap (λ k. pos k) (bucket-front m n stamps at i few)

-- the occupancies of the packets before it
pub occupancies-front : (m : Media) (n : ℕ) (gapped : Bool) (stamps : List ℕ) (at : ℕ) (occupancy : ℕ → ℤ)
    → AreOccupancies m n (stamps ++ at ∷ []) gapped occupancy
    → AreOccupancies m n stamps gapped occupancy
occupancies-front m n gapped stamps at occupancy are = λ i few.
    let new = stamps ++ at ∷ [] in
    let o = are i (longer stamps at i few) in
    let first : slice_index new 0 ≡ slice_index stamps 0 = front-is stamps at 0 (omega (arith, few)) in
    let here : slice_index new i ≡ slice_index stamps i = front-is stamps at i few in
    record {
      reads = o.reads;
      due = subst (λ t. AreDue m n (anchor_of m (slice_index stamps 0)) gapped (whole t) o.reads) here
          (subst (λ f. AreDue m n (anchor_of m f) gapped (whole (slice_index new i)) o.reads) first o.due);
      is = o.is;
    }

-- what the buffer holds at a packet is so still once another came
pub occupancy-later : (m : Media) (n : ℕ) (stamps : List ℕ) (gapped : Bool) (at i : ℕ) (x : ℤ) → i < length stamps
    → IsOccupancy m n stamps gapped i x → IsOccupancy m n (stamps ++ at ∷ []) gapped i x
occupancy-later m n stamps gapped at i x few o =
    let new = stamps ++ at ∷ [] in
    let first : slice_index new 0 ≡ slice_index stamps 0 = front-is stamps at 0 (omega (arith, few)) in
    let here : slice_index new i ≡ slice_index stamps i = front-is stamps at i few in
    record {
      reads = o.reads;
      due = subst (λ t. AreDue m n (anchor_of m (slice_index new 0)) gapped (whole t) o.reads) (sym here)
          (subst (λ f. AreDue m n (anchor_of m f) gapped (whole (slice_index stamps i)) o.reads) (sym first) o.due);
      is = o.is;
    }

-- whether a packet before it is late
pub late-front : (m : Media) (n : ℕ) (stamps : List ℕ) (at : ℕ) (gapped : Bool) (i : ℕ) → i < length stamps
    → is_late m n (stamps ++ at ∷ []) gapped i ≡ is_late m n stamps gapped i
late-front m n stamps at gapped i few =
    let new = stamps ++ at ∷ [] in
    ap (λ a. below (read_of m n (anchor_of m a) gapped i) (whole (slice_index new i))) (front-is stamps at 0 (omega (arith, few)))
    ∙ ap (λ t. below (read_of m n (anchor_of m (slice_index stamps 0)) gapped i) (whole t)) (front-is stamps at i few)
