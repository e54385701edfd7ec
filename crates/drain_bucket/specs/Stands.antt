-- The state of a `Bucket` after the packets that it was fed.
use Rattle.std.specs.Prelude.{◌≡◌, ◌≤◌, ◌<◌, ◌+◌, ◌^◌, ℕ, List, length, slice_index}
use Rattle.fraction128.specs.Clocks.{StandsAt}
use Rattle.sender_params.specs.declared.params.Params.{Params}
use Rattle.sender_params.specs.Ticks.{NeverFall, load_of}
use Rattle.drain_bucket.specs.Word.{bucket_of}
use Rattle.drain_bucket.specs.declared.bucket.Bucket.{Bucket}

-- no packet was fed
pub record IsFresh (params : Params) (b : Bucket) : Type 0 where
  pub count : b.count ≡ 0
  pub begin : b.begin ≡ 0
  pub peak : b.peak ≡ 0
  pub last : b.last ≡ 0
  -- `next` is the first tick
  pub next : b.origin < 2 ^ 62 → StandsAt params.drain b.next b.origin b.last

-- packet i was the last one fed
pub record IsAfter (params : Params) (b : Bucket) (stamps : List ℕ) (i : ℕ) : Type 0 where
  pub origin : slice_index stamps 0 ≡ b.origin
  pub count : b.count ≡ bucket_of params.media params.n stamps i
  -- `begin` is the latest start of an interval with the count as its load
  pub begins : b.begin ≤ i
  pub begin_load : load_of params.media params.n stamps b.begin i ≡ b.count
  pub latest : (j : ℕ) → j ≤ i → load_of params.media params.n stamps j i ≡ b.count → j ≤ b.begin
  -- `peak` is the greatest count
  pub peak_most : (k : ℕ) → k ≤ i → bucket_of params.media params.n stamps k ≤ b.peak
  pub peak_reached : (k : ℕ) × (k ≤ i) × (bucket_of params.media params.n stamps k ≡ b.peak)
  -- `next` is the first tick after some instant that isn't after the packet
  pub last : b.last ≡ slice_index stamps i
  pub next : (stood : ℕ) × (stood ≤ b.last) × StandsAt params.drain b.next b.origin stood

-- the bucket was fed exactly packets with these capture timestamps, as far as later calls depend on it
pub record StandsFor (params : Params) (b : Bucket) (stamps : List ℕ) : Type 0 where
  pub ordered : NeverFall stamps
  pub seen : b.seen ≡ length stamps
  pub fresh : length stamps ≡ 0 → IsFresh params b
  pub fed : (i : ℕ) → length stamps ≡ i + 1 → IsAfter params b stamps i

-- a packet at this instant may be the next one: the first comes at the origin, and none comes before the last
pub record CanFollow (b : Bucket) (stamps : List ℕ) (at : ℕ) : Type 0 where
  pub first : length stamps ≡ 0 → at ≡ b.origin
  pub later : (i : ℕ) → length stamps ≡ i + 1 → slice_index stamps i ≤ at
