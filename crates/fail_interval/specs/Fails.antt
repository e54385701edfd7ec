-- The violation of a sender type: the first judged packet that violates a model (SMPTE ST 2110-21), and the interval
-- that shows it. m is the video, n the packets per frame or field, and stamps are the capture timestamps of the judged
-- packets, in nanoseconds of TAI. Packets count from 0. Which packet is named, and which model if it violates both, is
-- this project's profile.
use Rattle.std.specs.Prelude.{ℕ, zero, suc, ◌+◌, ◌==◌, nat_lt, max, Bool, if◌then◌else◌, List, length, Option, Some}
use Rattle.std.specs.Prelude.{None}
use Rattle.timing_base.specs.Media.{Media}
use Rattle.timing_base.specs.declared.media.Kind.{Kind}
use Rattle.timing_base.specs.declared.fail.FailProof.{FailProof}
use Rattle.timing_base.specs.declared.fail.Broken.{Broken}
use Rattle.timing_base.specs.declared.fail.Broken.TheVariants.{Bucket, Over, Empty}
use Rattle.timing_base.specs.declared.row.KindVerdict.{KindVerdict}
use Rattle.timing_base.specs.declared.row.KindVerdict.TheVariants.{Pass, Fail}
use Rattle.sender_params.specs.Keeps.{arrived_by_read, held_at, is_empty, is_over}
use Rattle.sender_params.specs.Limits.{c_max_of, gapped_of, vrx_full_of}
use Rattle.sender_params.specs.Ticks.{load_of}
use Rattle.drain_bucket.specs.Word.{bucket_of}

-- just after packet i the bucket holds more than C_MAX packets
abbrev pub is_overfull : Media → ℕ → List ℕ → Kind → ℕ → Bool
is_overfull m n stamps kind i = nat_lt (c_max_of m n kind) (bucket_of m n stamps i)

-- the model that packet i violates, the bucket before the buffer
abbrev pub broken_at : Media → ℕ → List ℕ → Kind → ℕ → Option Broken
broken_at m n stamps kind i =
    if is_overfull m n stamps kind i then Some Bucket
    else if is_over m n stamps kind i then Some Over
    else if is_empty m n stamps kind i then Some Empty
    else None

-- the latest packet j up to packet i for which the packets j to i, less the drain ticks after j, are the count of the
-- bucket
abbrev pub latest_up_to : Media → ℕ → List ℕ → (i j : ℕ) → ℕ
latest_up_to m n stamps i zero = 0
latest_up_to m n stamps i (suc j) =
    if load_of m n stamps (suc j) i == bucket_of m n stamps i then suc j else latest_up_to m n stamps i j

-- the first packet of the interval for the bucket at packet i
abbrev pub latest_start : Media → ℕ → List ℕ → ℕ → ℕ
latest_start m n stamps i = latest_up_to m n stamps i i

-- the interval that shows how packet i violates this model
abbrev pub proof_at : Media → ℕ → List ℕ → Kind → ℕ → Broken → FailProof
proof_at m n stamps kind i Bucket = record {
  model = Bucket;
  from = latest_start m n stamps i;
  to = i;
  count = bucket_of m n stamps i;
  limit = c_max_of m n kind;
}
proof_at m n stamps kind i Over = record {
  model = Over;
  from = 0;
  to = i;
  count = held_at m n stamps (gapped_of kind) i;
  limit = vrx_full_of m n kind;
}
proof_at m n stamps kind i Empty = record {
  model = Empty;
  from = i;
  to = i;
  count = arrived_by_read m n stamps kind i;
  limit = i + 1;
}

-- the next verdict: a fail stays, else the interval at packet i decides
abbrev pub verdict_next : KindVerdict → Option FailProof → KindVerdict
verdict_next (Fail proof) here = Fail proof
verdict_next Pass (Some proof) = Fail proof
verdict_next Pass None = Pass

-- the interval at packet i, if it violates a model
abbrev pub proof_if : Media → ℕ → List ℕ → Kind → ℕ → Option Broken → Option FailProof
proof_if m n stamps kind i None = None
proof_if m n stamps kind i (Some model) = Some (proof_at m n stamps kind i model)

-- the verdict on the first `count` packets: a pass, or the interval at the first of them that violates a model
abbrev pub verdict_below : Media → ℕ → List ℕ → Kind → ℕ → KindVerdict
verdict_below m n stamps kind zero = Pass
verdict_below m n stamps kind (suc i) =
    verdict_next (verdict_below m n stamps kind i) (proof_if m n stamps kind i (broken_at m n stamps kind i))

-- the verdict on all packets
abbrev pub kind_verdict : Media → ℕ → List ℕ → Kind → KindVerdict
kind_verdict m n stamps kind = verdict_below m n stamps kind (length stamps)

-- the greatest of the first `count` values, or 0
abbrev pub greatest : (ℕ → ℕ) → ℕ → ℕ
greatest f zero = 0
greatest f (suc i) = max (greatest f i) (f i)
