-- The interval that shows how a packet violates a model, as far as it is known when the packet comes. If the packet is
-- the first to violate a model, and came after its own read, exactly the packets before it came by that read.
use Rattle.std.specs.Prelude.{ℕ, ◌+◌, zero, suc, List, Option, Some, None}
use Rattle.timing_base.specs.Media.{Media}
use Rattle.timing_base.specs.declared.fail.FailProof.{FailProof}
use Rattle.timing_base.specs.declared.fail.Broken.{Broken}
use Rattle.timing_base.specs.declared.fail.Broken.TheVariants.{Bucket, Over, Empty}
use Rattle.timing_base.specs.declared.media.Kind.{Kind}
use Rattle.timing_base.specs.declared.row.KindVerdict.{KindVerdict}
use Rattle.timing_base.specs.declared.row.KindVerdict.TheVariants.{Pass}
use Rattle.fail_interval.specs.Fails.{broken_at, proof_at, verdict_next}

-- the interval at packet i, by the model that it violates
abbrev pub early_by : Media → ℕ → List ℕ → Kind → ℕ → Option Broken → Option FailProof
early_by m n stamps kind i None = None
early_by m n stamps kind i (Some Bucket) = Some (proof_at m n stamps kind i Bucket)
early_by m n stamps kind i (Some Over) = Some (proof_at m n stamps kind i Over)
early_by m n stamps kind i (Some Empty) = Some record { model = Empty; from = i; to = i; count = i; limit = i + 1 }

-- the interval at packet i, if it violates a model
abbrev pub early_at : Media → ℕ → List ℕ → Kind → ℕ → Option FailProof
early_at m n stamps kind i = early_by m n stamps kind i (broken_at m n stamps kind i)

-- the verdict on the first `count` packets, by these intervals
abbrev pub early_below : Media → ℕ → List ℕ → Kind → ℕ → KindVerdict
early_below m n stamps kind zero = Pass
early_below m n stamps kind (suc i) = verdict_next (early_below m n stamps kind i) (early_at m n stamps kind i)
