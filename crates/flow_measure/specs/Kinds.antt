-- The packets of one flow against the limits of one sender type (SMPTE ST 2110-21). Packets are counted from 0, `count`
-- is how many there are, and n is the number of packets per frame or field.
use Rattle.std.specs.Prelude.{◌≡◌, ℕ, ℤ, Bool, ◌||◌, cond, nat_lt, Option, Some, None}
use Rattle.flow_measure.specs.Broken.{broken_groups}
use Rattle.flow_measure.specs.First.{IsFirst}
use Rattle.flow_measure.specs.Stands.{Counts}
use Rattle.flow_measure.specs.declared.bins.Bins.{Bins}
use Rattle.flow_measure.specs.declared.numbers.KindNumbers.{KindNumbers}
use Rattle.flow_measure.specs.declared.numbers.Place.{Place}

-- the values of each packet for one sender type
pub record Packets : Type 0 where
  -- the count of the bucket, and the occupancy of the buffer by the type's schedule, just after the packet
  pub bucket : ℕ → ℤ
  pub occupancy : ℕ → ℤ
  -- whether the bucket then exceeds C_MAX, the buffer exceeds VRX_FULL, and the packet is later than its own read
  pub overfull : ℕ → Bool
  pub over : ℕ → Bool
  pub empty : ℕ → Bool
  -- the packet record, from 1, and the capture timestamp in nanoseconds
  pub rec : ℕ → ℕ
  pub stamp : ℕ → ℕ

-- a packet breaks a limit
abbrev pub breaks : Packets → ℕ → Bool
breaks p i = (p.overfull i || p.over i) || p.empty i

-- the bins hold the first `count` numbers, up to this limit
pub record AreBinsOf (limit : ℕ) (numbers : ℕ → ℤ) (count : ℕ) (b : Bins) : Type 0 where
  pub limit_is : b.limit ≡ limit
  pub seen : b.seen ≡ count
  pub counts : Counts b numbers

-- the place of a packet, if its number is given and below `count`
abbrev pub place_below : (rec stamp : ℕ → ℕ) → (count : ℕ) → Option ℕ → Option Place
place_below rec stamp count None = None
place_below rec stamp count (Some i) = cond (nat_lt i count) (Some record { «record» = rec i; stamp = stamp i }) None

-- the place of the first broken packet, including the next packet at `place`
abbrev pub place_with : Option Place → Place → (broken : Bool) → Option Place
place_with None place broken = cond broken (Some place) None
place_with (Some first) place broken = Some first

-- the measurements of a type with these limits; the place of packet `named` is among them
pub record AreKindNumbers (n groups count c_max full : ℕ) (named : Option ℕ) (p : Packets) (k : KindNumbers)
    : Type 0 where
  pub groups_broken : k.groups_broken ≡ broken_groups n (breaks p) groups
  pub bucket : AreBinsOf c_max p.bucket count k.bucket
  pub buffer : AreBinsOf full p.occupancy count k.buffer
  pub first_bucket : IsFirst p.overfull count k.first_bucket
  pub first_over : IsFirst p.over count k.first_over
  pub first_empty : IsFirst p.empty count k.first_empty
  pub named_is : k.named ≡ place_below p.rec p.stamp count named
