-- A stretch as it is made of its frames or fields, one after the other.
use Rattle.std.specs.Prelude.{◌≡◌, ◌+◌, ◌-◌, ◌^◌, ℕ, min}
use Rattle.flow_watch.specs.making.Peaks.{IsJoined}
use Rattle.flow_watch.specs.declared.stretch.Stretch.{Stretch}

-- the number of the frames or fields of a stretch; at the end of 64 bits it stays
abbrev pub groups_of : Stretch → ℕ
groups_of s = min (s.to - s.from + 1) (2 ^ 64 - 1)

-- a stretch and the next one of its run as one
pub record IsJoinedStretch (a b s : Stretch) : Type 0 where
  pub run : s.run ≡ a.run
  pub from_is : s.from ≡ a.from
  pub to_is : s.to ≡ b.to
  pub stamp : s.stamp ≡ b.stamp
  pub c_max : s.c_max ≡ a.c_max
  pub peaks_are : IsJoined a.peaks b.peaks s.peaks
  pub broken : s.broken ≡ b.broken
