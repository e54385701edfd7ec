-- The state of a `WatchMeter` after the packets of a run that it was fed. Packets, frames and fields count from 0.
use Rattle.std.specs.Prelude.{◌≡◌, ◌<◌, ◌+◌, ◌*◌, ℕ, ⊤, List, [], ◌∷◌, ◌++◌, length}
use Rattle.timing_base.specs.Media.{Media}
use Rattle.timing_base.specs.Shifts.{Shift}
use Rattle.timing_base.specs.declared.media.Kind.{Kind}
use Rattle.timing_base.specs.declared.media.Kind.TheVariants.{N, NL, W}
use Rattle.timing_base.specs.declared.packet.FlowPacket.{FlowPacket}
use Rattle.sender_params.specs.Limits.{c_max_of, vrx_full_of}
use Rattle.run_meter.specs.Runs.{RunOf, is_broken, stamps_of}
use Rattle.flow_measure.specs.Stands.{CountsBroken}
use Rattle.flow_watch.specs.Stretches.{ArePeaks, IsStretch}
use Rattle.flow_watch.specs.declared.broken.TypeMeter.{TypeMeter}
use Rattle.flow_watch.specs.declared.meter.WatchMeter.{WatchMeter}
use Rattle.flow_watch.specs.declared.stretch.Stretch.{Stretch}

-- the counter of a type was fed packets with these capture timestamps, and so many frames or fields of them have ended
pub record CountsType (m : Media) (n : ℕ) (stamps : List ℕ) (kind : Kind) (groups : ℕ) (x : TypeMeter) : Type 0 where
  pub c_max_is : x.c_max ≡ c_max_of m n kind
  pub vrx_full_is : x.vrx_full ≡ vrx_full_of m n kind
  pub whole_is : x.groups.whole ≡ groups
  pub counts : CountsBroken n x.groups (is_broken m n stamps kind) (length stamps)

-- these are the frames or fields from `from` on, each as a stretch of its own
abbrev pub AreGroups : Media → (number n : ℕ) → (stamps : List ℕ) → (from : ℕ) → List Stretch → Type 0
AreGroups m number n stamps from [] = ⊤
AreGroups m number n stamps from (s ∷ rest) =
    IsStretch m number n stamps from (from + 1) s × AreGroups m number n stamps (from + 1) rest

-- for this run of the video, the meter was fed exactly the packets `fed`, of which `committed` were committed
pub record StandsFor (x : WatchMeter) (m : Media) (shift : Shift) (r : RunOf) (fed committed : List FlowPacket)
    : Type 0 where
  pub run_is : x.run ≡ r.number
  pub n_is : x.walk.n ≡ r.n
  pub seen : x.walk.seen ≡ length fed
  pub narrow_is : CountsType m r.n (stamps_of shift fed) N x.walk.group x.narrow
  pub narrow_linear_is : CountsType m r.n (stamps_of shift fed) NL x.walk.group x.narrow_linear
  pub wide_is : CountsType m r.n (stamps_of shift fed) W x.walk.group x.wide
  pub peaks_are : 0 < x.walk.place → ArePeaks m r.n (stamps_of shift fed) (x.walk.group * r.n) (length fed) x.peaks
  -- the committed packets are complete frames or fields, and those that follow are kept
  pub rest : List FlowPacket
  pub whole : fed ≡ committed ++ rest
  pub done : ℕ
  pub committed_are : length committed ≡ done * r.n
  pub kept_are : AreGroups m r.number r.n (stamps_of shift fed) done x.kept.items
  pub kept_count : done + length x.kept.items ≡ x.walk.group
