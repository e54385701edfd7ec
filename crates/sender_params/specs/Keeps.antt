-- The limits of a sender type for judged packets (SMPTE ST 2110-21), and violations of them. m is the video, n the
-- packets per frame or field, and stamps the capture timestamps of the judged packets, in nanoseconds. Packets count
-- from 0. An instant is any fraction of nanoseconds. Both models are the standard's. This project's own are the fields
-- of a violation, and that a packet and a read count at their own instant.
use Rattle.std.specs.Prelude.{◌≡◌, ◌+◌, ◌-◌, ◌≤◌, ◌<◌, ℕ, ℤ, pos, ◌-ℤ◌, ◌≤ℤ◌, Bool, nat_lt, List, length, slice_index}
use Rattle.std.specs.Prelude.{count_by}
use Rattle.std.specs.List.{range_with_len}
use Rattle.fraction128.specs.Fractions.{Fraction, at_most, below, whole}
use Rattle.timing_base.specs.Media.{Media}
use Rattle.timing_base.specs.declared.media.Kind.{Kind}
use Rattle.timing_base.specs.declared.fail.FailProof.{FailProof}
use Rattle.timing_base.specs.declared.fail.Broken.{Broken}
use Rattle.timing_base.specs.declared.fail.Broken.TheVariants.{Bucket, Over, Empty}
use Rattle.sender_params.specs.Limits.{c_max_of, vrx_full_of, gapped_of}
use Rattle.sender_params.specs.Reads.{anchor_of, read_of}
use Rattle.sender_params.specs.Ticks.{KeepsBucket, load_of}

-- number of packets that came by the instant t
abbrev pub arrived : List ℕ → Fraction → ℕ
arrived stamps t = count_by (λ at. at_most (whole at) t) stamps

-- number of the first `count` reads that are due at the instant t
abbrev pub due_among : Media → ℕ → ℤ → Bool → ℕ → Fraction → ℕ
due_among m n anchor gapped count t = count_by (λ x. at_most (read_of m n anchor gapped x) t) (range_with_len 0 count)

-- occupancy of the virtual receiver buffer at the instant t, in packets; negative if a read found no packet
abbrev pub held_of : Media → ℕ → List ℕ → Bool → Fraction → ℤ
held_of m n stamps gapped t =
    pos (arrived stamps t) -ℤ pos (due_among m n (anchor_of m (slice_index stamps 0)) gapped (length stamps) t)

-- at every instant the buffer of this type neither underflows nor holds more than VRX_FULL
abbrev pub KeepsBuffer : Media → ℕ → List ℕ → Kind → Type 0
KeepsBuffer m n stamps kind = (t : Fraction) → 0 < t.den
    → (pos 0 ≤ℤ held_of m n stamps (gapped_of kind) t)
    × (held_of m n stamps (gapped_of kind) t ≤ℤ pos (vrx_full_of m n kind))

-- the packets keep both limits of this type
pub record Keeps (m : Media) (n : ℕ) (stamps : List ℕ) (kind : Kind) : Type 0 where
  pub bucket : KeepsBucket m n stamps kind
  pub buffer : KeepsBuffer m n stamps kind

-- occupancy of the buffer just after packet i: the packets up to i, less the reads due by then, and 0 if those are
-- more. Only the first i + 1 reads matter: if they are all due, the buffer is empty.
abbrev pub held_at : Media → ℕ → List ℕ → Bool → ℕ → ℕ
held_at m n stamps gapped i =
    (i + 1) - due_among m n (anchor_of m (slice_index stamps 0)) gapped (i + 1) (whole (slice_index stamps i))

-- just after packet i the buffer holds more than VRX_FULL packets
abbrev pub is_over : Media → ℕ → List ℕ → Kind → ℕ → Bool
is_over m n stamps kind i = nat_lt (vrx_full_of m n kind) (held_at m n stamps (gapped_of kind) i)

-- packet i comes after its own read, at which the buffer underflowed
abbrev pub is_empty : Media → ℕ → List ℕ → Kind → ℕ → Bool
is_empty m n stamps kind i =
    below (read_of m n (anchor_of m (slice_index stamps 0)) (gapped_of kind) i) (whole (slice_index stamps i))

-- number of packets that came by read i
abbrev pub arrived_by_read : Media → ℕ → List ℕ → Kind → ℕ → ℕ
arrived_by_read m n stamps kind i =
    arrived stamps (read_of m n (anchor_of m (slice_index stamps 0)) (gapped_of kind) i)

-- count and limit of the violation are right for its interval and model, and the limit is violated
abbrev pub BreaksLimit : Media → ℕ → List ℕ → Kind → FailProof → Broken → Type 0
BreaksLimit m n stamps kind f Bucket = (f.limit ≡ c_max_of m n kind)
    × (f.count ≡ load_of m n stamps f.from f.to)
    × (f.limit < f.count)
BreaksLimit m n stamps kind f Over = (f.limit ≡ vrx_full_of m n kind)
    × (f.from ≡ 0)
    × (f.count ≡ held_at m n stamps (gapped_of kind) f.to)
    × (f.limit < f.count)
BreaksLimit m n stamps kind f Empty = (f.limit ≡ f.to + 1)
    × (f.from ≡ f.to)
    × (f.count ≡ arrived_by_read m n stamps kind f.to)
    × (f.count < f.limit)

-- the violation names an interval of judged packets that doesn't keep the limits of this type
pub record Confirms (m : Media) (n : ℕ) (stamps : List ℕ) (kind : Kind) (f : FailProof) : Type 0 where
  pub ordered : f.from ≤ f.to
  pub judged : f.to < length stamps
  pub breaks : BreaksLimit m n stamps kind f f.model
