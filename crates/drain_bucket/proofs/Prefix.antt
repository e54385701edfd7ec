-- For a caller that feeds a bucket from a list of stamps that it holds, packet by packet.
use Rattle.std.proofs.Common.{◌≡◌, ◌≤◌, ◌<◌, ◌+◌, ◌-◌, ℕ, suc, List, [], ◌∷◌, ◌++◌, length, slice_index, take, ap, subst, sym, ◌∙◌, arith}
use Rattle.std.proofs.Math.Seq.{take-suc}
use Rattle.std.proofs.lemmas.List.{get_or-take, length-take-le}
use Rattle.timing_base.specs.Media.{Media}
use Rattle.timing_base.specs.declared.media.Kind.{Kind}
use Rattle.sender_params.specs.declared.params.Params.{Params}
use Rattle.sender_params.specs.Limits.{c_max_of}
use Rattle.sender_params.specs.Ticks.{KeepsBucket, NeverFall, ticks_at, ticks_of}
use Rattle.drain_bucket.specs.Stands.{CanFollow, StandsFor}
use Rattle.drain_bucket.specs.Word.{bucket_of}
use Rattle.drain_bucket.specs.declared.bucket.Bucket.{Bucket}
use Rattle.drain_bucket.proofs.Reich.{count_after-same, count_is_load}

-- the next stamp of a list that never falls may follow those before it
pub can_follow-take : (b : Bucket) (stamps : List ℕ) (i : ℕ)
    → NeverFall stamps
    → slice_index stamps 0 ≡ b.origin
    → i < length stamps
    → CanFollow b (take i stamps) (slice_index stamps i)
can_follow-take b stamps i h origin few =
    let size : length (take i stamps) ≡ i = length-take-le i stamps (omega (arith, few)) in
    record {
      first = λ none. let e : i ≡ 0 = omega (arith, size, none) in ap (slice_index stamps) e ∙ origin;
      later = λ k last.
          let e : i ≡ k + 1 = omega (arith, size, last) in
          omega (arith, get_or-take i stamps k 0 (omega (arith, e)), h k i (omega (arith, e)) few);
    }

-- the bucket at a packet is that of any beginning of the list that has the packet
pub bucket_of-take : (m : Media) (n : ℕ) (stamps : List ℕ) (i k : ℕ) → k < i → bucket_of m n (take i stamps) k ≡ bucket_of m n stamps k
bucket_of-take m n stamps i k few =
    count_after-same (ticks_at m n (take i stamps)) (ticks_at m n stamps) k
    (λ j low.
    let start : slice_index (take i stamps) 0 ≡ slice_index stamps 0 = get_or-take i stamps 0 0 (omega (arith, few)) in
    let here : slice_index (take i stamps) j ≡ slice_index stamps j = get_or-take i stamps j 0 (omega (arith, low, few)) in
    ap (λ a. ticks_of m n a (slice_index (take i stamps) j)) start ∙ ap (ticks_of m n (slice_index stamps 0)) here)

-- one packet more; the last argument is what the clause `stands` of `feed` says
pub stands-next : (params : Params) (b c : Bucket) (stamps : List ℕ) (i : ℕ)
    → NeverFall stamps
    → slice_index stamps 0 ≡ b.origin
    → i < length stamps
    → StandsFor params b (take i stamps)
    → ((fed : List ℕ) → StandsFor params b fed → CanFollow b fed (slice_index stamps i)
    → StandsFor params c (fed ++ slice_index stamps i ∷ []))
    → StandsFor params c (take (i + 1) stamps)
stands-next params b c stamps i h origin few stood feeds =
    let e : suc i ≡ i + 1 = omega arith in
    let next : take i stamps ++ slice_index stamps i ∷ [] ≡ take (i + 1) stamps =
    sym (take-suc stamps i 0 few) ∙ ap (λ j. take j stamps) e in
    subst (StandsFor params c) next (feeds (take i stamps) stood (can_follow-take b stamps i h origin few))

-- the count after packet i, of the whole list
pub count-take : (params : Params) (b : Bucket) (stamps : List ℕ) (i : ℕ)
    → i < length stamps
    → StandsFor params b (take (i + 1) stamps)
    → b.count ≡ bucket_of params.media params.n stamps i
count-take params b stamps i few s =
    (s.fed i (length-take-le (i + 1) stamps (omega (arith, few)))).count
    ∙ bucket_of-take params.media params.n stamps (i + 1) i (omega arith)

-- no count of the whole list is above the peak
pub peak-take : (params : Params) (b : Bucket) (stamps : List ℕ) (i k : ℕ)
    → i ≤ length stamps
    → StandsFor params b (take i stamps)
    → k < i
    → bucket_of params.media params.n stamps k ≤ b.peak
peak-take params b stamps i k few s below =
    let j = i - 1 in
    let size : length (take i stamps) ≡ j + 1 = omega (arith, length-take-le i stamps few, below) in
    let same = bucket_of-take params.media params.n stamps i k below in
    omega (arith, same, (s.fed j size).peak_most k (omega (arith, below)))

-- where no count is above C_MAX no interval's load is
pub keeps_bucket : (m : Media) (n : ℕ) (stamps : List ℕ) (kind : Kind)
    → NeverFall stamps
    → ((i : ℕ) → i < length stamps → bucket_of m n stamps i ≤ c_max_of m n kind)
    → KeepsBucket m n stamps kind
keeps_bucket m n stamps kind h kept j i order few =
    omega (arith, (count_is_load m n stamps i h few).most j order, kept i few)

-- and the other way round
pub keeps_bucket-counts : (m : Media) (n : ℕ) (stamps : List ℕ) (kind : Kind)
    → NeverFall stamps
    → KeepsBucket m n stamps kind
    → (i : ℕ)
    → i < length stamps
    → bucket_of m n stamps i ≤ c_max_of m n kind
keeps_bucket-counts m n stamps kind h kept i few =
    let r = (count_is_load m n stamps i h few).reached in
    omega (arith, r.2, kept r.0 i r.1 few)
