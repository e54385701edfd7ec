-- The capture timestamps of packets that a `Sample` has. Packets count from 0.
use Rattle.std.specs.Prelude.{◌≡◌, ◌≤◌, ◌<◌, ◌-◌, ℕ, List, length, slice_index}
use Rattle.timing_base.specs.Shifts.{Shift, shifted}
use Rattle.sender_params.specs.Ticks.{NeverFall}
use Rattle.timing_base.specs.declared.fail.FailProof.{FailProof}
use Rattle.interval_checker.specs.declared.sample.Sample.{Sample}

-- of the first `count` packets, those that the claim needs have these capture timestamps
pub record IsSample (f : FailProof) (stamps : ℕ → ℕ) (count : ℕ) (s : Sample) : Type 0 where
  pub first : 0 < count → s.first ≡ stamps 0
  pub from : f.from < count → s.from ≡ stamps f.from
  pub to : f.to < count → s.to ≡ stamps f.to
  pub last_counted : 0 < f.count → f.count ≤ count → s.last_counted ≡ stamps (f.count - 1)
  pub behind : f.count < count → s.behind ≡ stamps f.count

-- the sample has the capture timestamps of judged packets that have these timestamps after the shift, in nanoseconds of
-- TAI; they never go back
pub record AreSampled (f : FailProof) (shift : Shift) (stamps : List ℕ) (s : Sample) : Type 0 where
  pub raw : ℕ → ℕ
  pub after : (k : ℕ) → k < length stamps → slice_index stamps k ≡ shifted shift (raw k)
  pub rising : NeverFall stamps
  pub sample : IsSample f raw (length stamps) s
