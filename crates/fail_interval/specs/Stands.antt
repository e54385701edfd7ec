-- The state of a `FlowJudge` after the packets that it was fed. Packets count from 0.
use Rattle.std.specs.Prelude.{◌≡◌, ℕ, ◌+◌, List, [], ◌∷◌, ◌++◌, length, Option, Some, Result, IsErr, OnErr}
use Rattle.std.specs.Prelude.{OnOk, option_map}
use Rattle.timing_base.specs.Shifts.{FlowOptions}
use Rattle.frame_group.specs.Expected.{after, expected_by_options, going_on, next_packet}
use Rattle.timing_base.specs.Flows.{AreStamped}
use Rattle.timing_base.specs.Media.{Media}
use Rattle.timing_base.specs.Numbered.{numbered}
use Rattle.timing_base.specs.declared.key.FlowKey.{FlowKey}
use Rattle.timing_base.specs.declared.packet.FlowPacket.{FlowPacket}
use Rattle.timing_base.specs.declared.packet.Rtp.{Rtp}
use Rattle.fail_interval.specs.Counting.{Counts, own_of}
use Rattle.fail_interval.specs.States.{IsAt, state_expects}
use Rattle.fail_interval.specs.declared.judge.FlowJudge.{FlowJudge}
use Rattle.fail_interval.specs.declared.judge.State.TheVariants.{Spent}

-- number of packets fed
abbrev pub count_fed : {M : Type 0} → FlowJudge M → ℕ
count_fed judge = judge.fed

-- the packet that is expected next, by the state of the judge, with its number as it stands in the bytes
abbrev pub expected_of : {M : Type 0} → FlowJudge M → Option Rtp
expected_of judge = option_map (own_of judge.counting) (state_expects judge.state)

-- memory ran out
abbrev pub IsSpent : {M : Type 0} → FlowJudge M → Type 0
IsSpent judge = judge.state ≡ Spent

-- the judge of the flow with this key, this media and these options was fed exactly these packets, as far as later
-- calls depend on it
pub record StandsFor {M : Type 0} (m : Media) (key : FlowKey) (options : FlowOptions) (judge : FlowJudge M)
    (packets : List FlowPacket) : Type 0 where
  pub key_is : judge.key ≡ key
  pub fed : count_fed judge ≡ length packets
  pub counts : Counts m.pt options.seq16 packets judge.counting
  pub stamped : AreStamped packets
  -- the numbers by which the flow is judged may be counted ones
  pub state : IsAt m options.shift (numbered options.seq16 packets) judge.state

-- a call took this packet, the next of the flow, after those that the judge was fed; if memory runs out, the judge is
-- spent, and a spent judge returns Err again
pub record Takes {M T E : Type 0} (old new : FlowJudge M) (next : FlowPacket) (result : Result T E) : Type 0 where
  pub fed : count_fed new ≡ count_fed old + 1
  pub stands : (m : Media) (key : FlowKey) (options : FlowOptions) (packets : List FlowPacket)
      → StandsFor m key options old packets
      → OnOk result (StandsFor m key options new (packets ++ next ∷ []))
  pub spends : OnErr result (IsSpent new)
  pub stays : IsSpent old → IsErr result

-- a call took the packet that follows those fed, captured at this instant; it was the expected one, of any packet
-- record; the judge isn't spent, and expects the next packet
pub record TakesExpected {M : Type 0} (old new : FlowJudge M) (at : ℕ) : Type 0 where
  pub fed : count_fed new ≡ count_fed old + 1
  pub expects : (m : Media) (key : FlowKey) (options : FlowOptions) (packets : List FlowPacket)
      → StandsFor m key options old packets
      → expected_by_options options packets m.pt ≡ Some (going_on packets m.pt (length packets))
  pub stands : (m : Media) (key : FlowKey) (options : FlowOptions) (packets : List FlowPacket) (rec_number : ℕ)
      → StandsFor m key options old packets
      → StandsFor m key options new (packets ++ next_packet packets m.pt rec_number at ∷ [])
  pub going : IsSpent old → ⊥
  pub next : expected_of new ≡ after (expected_of old)
