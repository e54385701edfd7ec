-- The state of a `MarginMeter` after the packets that it was fed. A part is 1 / `den` of a nanosecond.
use Rattle.std.specs.Prelude.{◌≡◌, ◌<◌, ◌+◌, ◌*◌, ℕ, ℤ, pos, ◌-ℤ◌, ◌+ℤ◌, Bool, List, length, slice_index}
use Rattle.timing_base.specs.Media.{Media}
use Rattle.sender_params.specs.Sizes.{AreSizes, HavePer}
use Rattle.flow_measure.specs.Parts.{parts_of_read}
use Rattle.flow_measure.specs.Summary.{IsGreatest}
use Rattle.flow_measure.specs.declared.margin.MarginMeter.{MarginMeter}

-- the parts from read 0 to read x, in frames or fields of n packets
abbrev pub read_in : (n : ℕ) → MarginMeter → ℕ → ℕ
read_in n meter x = parts_of_read 0 n (n * meter.step + meter.turn) meter.step x

-- the parts from its own read to packet i, if read 0 were at 0 of TAI
abbrev pub behind : (n : ℕ) → MarginMeter → List ℕ → ℕ → ℤ
behind n meter stamps i = pos (slice_index stamps i * meter.den) -ℤ pos (read_in n meter i)

-- the meter of this schedule was fed packets with these capture timestamps. The next packet's own read is `passed`
-- parts after read 0
pub record Times (m : Media) (n : ℕ) (gapped : Bool) (meter : MarginMeter) (stamps : List ℕ) (passed : ℕ)
    : Type 0 where
  pub have : HavePer m n gapped
  pub offset : ℕ
  pub sizes : AreSizes m n gapped meter.den (n * meter.step + meter.turn) meter.step offset
  pub none : length stamps ≡ 0 → meter.latest ≡ 0
  -- the latest packet relative to its read decides
  pub some : 0 < length stamps → (most : ℤ) × IsGreatest (behind n meter stamps) (λ i. i < length stamps) most
      × (pos meter.latest ≡ most +ℤ pos passed)
