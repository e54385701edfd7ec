-- The numbers of a stretch of the frames or fields of a judged run, against the two models of SMPTE ST 2110-21. m is
-- the video, `number` that of the run among all runs of its flow, from 1, and n the packets per frame or field.
-- `stamps` are the capture timestamps of the judged packets of the run so far, in nanoseconds of TAI. Here packets,
-- frames and fields count from 0: a stretch begins with frame or field `from` and ends before `to`. The other numbers
-- are packets, frames or fields. This project's profile: which numbers a stretch has.
use Rattle.std.specs.Prelude.{◌≡◌, ◌≤◌, ◌<◌, ◌+◌, ◌-◌, ◌*◌, ℕ, ℤ, pos, Bool, true, false, List, slice_index}
use Rattle.timing_base.specs.Media.{Media}
use Rattle.timing_base.specs.declared.media.Kind.TheVariants.{N, NL, W}
use Rattle.sender_params.specs.Limits.{c_max_of}
use Rattle.vrx_buffer.specs.Occupancy.{is_late}
use Rattle.run_meter.specs.Runs.{is_broken}
use Rattle.flow_measure.specs.Broken.{broken_groups}
use Rattle.flow_measure.specs.Counts.{count_of}
use Rattle.flow_measure.specs.Occupancy.{AreOccupancies, buckets_of}
use Rattle.flow_measure.specs.Summary.{IsGreatest, IsLeast}
use Rattle.flow_watch.specs.declared.peaks.BufferRange.{BufferRange}
use Rattle.flow_watch.specs.declared.peaks.Peaks.{Peaks}
use Rattle.flow_watch.specs.declared.stretch.PerType.{PerType}
use Rattle.flow_watch.specs.declared.stretch.Stretch.{Stretch}

-- packet i is one of those from packet `from` on and before packet `to`
pub record IsBetween (from to i : ℕ) : Type 0 where
  pub after : from ≤ i
  pub before : i < to

-- the range of the buffer over the packets from `from` on and before `to`, by the reads of one schedule
pub record IsRange (m : Media) (n : ℕ) (stamps : List ℕ) (gapped : Bool) (from to : ℕ) (x : BufferRange) : Type 0
  where
    pub occupancy : ℕ → ℤ
    pub are : AreOccupancies m n stamps gapped occupancy
    pub least_is : IsLeast occupancy (IsBetween from to) x.least
    pub greatest_is : IsGreatest occupancy (IsBetween from to) x.greatest
    pub late_is : x.late ≡ count_of (λ j. is_late m n stamps gapped (from + j)) (to - from)

-- the peaks over the packets from `from` on and before `to`
pub record ArePeaks (m : Media) (n : ℕ) (stamps : List ℕ) (from to : ℕ) (x : Peaks) : Type 0 where
  pub bucket_is : IsGreatest (buckets_of m n stamps) (IsBetween from to) (pos x.bucket)
  pub gapped_are : IsRange m n stamps true from to x.gapped
  pub linear_are : IsRange m n stamps false from to x.linear

-- C_MAX of N, NL and W
abbrev pub c_max_of_types : Media → (n : ℕ) → PerType
c_max_of_types m n = record { narrow = c_max_of m n N; narrow_linear = c_max_of m n NL; wide = c_max_of m n W }

-- for N, NL and W, how many of the first `groups` frames or fields have a packet that breaks a limit of the type
abbrev pub broken_of_types : Media → (n : ℕ) → (stamps : List ℕ) → (groups : ℕ) → PerType
broken_of_types m n stamps groups = record {
  narrow = broken_groups n (is_broken m n stamps N) groups;
  narrow_linear = broken_groups n (is_broken m n stamps NL) groups;
  wide = broken_groups n (is_broken m n stamps W) groups;
}

-- the stretch of the frames or fields from `from` on and before `to`; in the numbers of `s` they count from 1
pub record IsStretch (m : Media) (number n : ℕ) (stamps : List ℕ) (from to : ℕ) (s : Stretch) : Type 0 where
  pub run : s.run ≡ number
  pub from_is : s.from ≡ from + 1
  pub to_is : s.to ≡ to
  pub stamp : s.stamp ≡ slice_index stamps (to * n - 1)
  pub c_max : s.c_max ≡ c_max_of_types m n
  pub peaks_are : ArePeaks m n stamps (from * n) (to * n) s.peaks
  pub broken : s.broken ≡ broken_of_types m n stamps to
