-- The state of a `Skew` after the packets that it was given.
use Rattle.std.specs.Prelude.{◌≡◌, ℕ, ◌+◌, true, false, List, length, count_by, Option, Some, None, Result, IsErr}
use Rattle.std.specs.Prelude.{OnErr, OnOk}
use Rattle.timing_base.specs.declared.packet.FlowPacket.{FlowPacket}
use Rattle.path_skew.specs.Pair.{packet_with, opening, repeated, is_unread, skews, stands}
use Rattle.path_skew.specs.Holds.{HoldsSkews}
use Rattle.path_skew.specs.Kept.{count_given, view}
use Rattle.path_skew.specs.View.{View}
use Rattle.path_skew.specs.declared.arrival.Arrival.{Arrival}
use Rattle.path_skew.specs.declared.flow.Flow.{Flow}
use Rattle.path_skew.specs.declared.pages.Side.TheVariants.{First}
use Rattle.path_skew.specs.declared.skew.Skew.{Skew}

-- packet record and capture timestamp of a packet are kept
abbrev pub Keeps : Option Arrival → FlowPacket → Type 0
Keeps kept p = (x : Arrival) × (kept ≡ Some x) × (x.rec ≡ p.rec) × (x.at ≡ p.at)

-- the packet numbers of a flow and of the other are these, and the first packet of each number that only one of them
-- had is kept
pub record HoldsNumbers (v : View) (flow pair : List FlowPacket) : Type 0 where
  pub own : (n : ℕ) → v.own n ≡ stands n flow
  pub other : (n : ℕ) → v.other n ≡ stands n pair
  pub own_waits : (n : ℕ) (p : FlowPacket) → packet_with n flow ≡ Some p → packet_with n pair ≡ None
      → Keeps (v.kept n) p
  pub other_waits : (n : ℕ) (p : FlowPacket) → packet_with n pair ≡ Some p → packet_with n flow ≡ None
      → Keeps (v.kept n) p

-- exactly these packets of a flow were counted
pub record CountsFlow (c : Flow) (flow : List FlowPacket) : Type 0 where
  pub numbers : c.numbers ≡ length (opening flow)
  pub repeats : c.repeated ≡ length (repeated flow)
  pub unread : c.unread ≡ count_by is_unread flow

-- the packets f of the first flow and g of the second were given, interleaved in any way, and memory never ran out
pub record StandsFor (s : Skew) (f g : List FlowPacket) : Type 0 where
  pub whole : s.spent ≡ false
  pub first : CountsFlow s.first f
  pub second : CountsFlow s.second g
  pub numbers : HoldsNumbers (view First s.pages) f g
  pub matches : HoldsSkews s.matches (skews f g)
  -- as many packet numbers are matched with the flows swapped
  pub back : s.matches.matched ≡ length (skews g f)

-- memory ran out
abbrev pub IsSpent : Skew → Type 0
IsSpent s = s.spent ≡ true

-- number of packets given of the first flow
abbrev pub count_first : Skew → ℕ
count_first s = count_given s.first

-- number of packets given of the second flow
abbrev pub count_second : Skew → ℕ
count_second s = count_given s.second

-- a packet of the flow with this count was given, and none of the other; if memory runs out, the counts stay and both
-- flows are spent, and spent ones return Err again
pub record Gives {T E : Type 0} (old new : Skew) (count count_other : Skew → ℕ) (result : Result T E) : Type 0 where
  pub given : OnOk result (count new ≡ count old + 1)
  pub kept : OnErr result (count new ≡ count old)
  pub other : count_other new ≡ count_other old
  pub spends : OnErr result (IsSpent new)
  pub stays : IsSpent old → IsErr result
