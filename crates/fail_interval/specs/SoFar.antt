-- The state of a run, packet by packet: its head, the capture timestamps of its first frame or field, and then those of
-- its complete frames or fields. Capture timestamps are in nanoseconds of TAI.
use Rattle.std.specs.Prelude.{◌≤◌, ◌<◌, ℕ, ◌+◌, ◌-◌, ◌^◌, Bool, true, false, if◌then◌else◌, List, [], ◌∷◌, ◌++◌, length}
use Rattle.std.specs.Prelude.{map, slice_range, All}
use Rattle.timing_base.specs.Flows.{last_place, markers}
use Rattle.timing_base.specs.Judged.{RunOutcome, no_whole_frame, stamp_of, whole_frames}
use Rattle.timing_base.specs.Shifts.{Shift}
use Rattle.timing_base.specs.declared.packet.FlowPacket.{FlowPacket}
use Rattle.sender_params.specs.Ticks.{NeverFall}

-- a run with at least one complete frame or field
pub record Groups : Type 0 where
  -- packets up to and including the first marker
  pub head : ℕ
  -- packets per frame or field
  pub n : ℕ
  -- complete frames or fields
  pub groups : ℕ
  -- capture timestamps of their packets
  pub whole : List ℕ
  -- capture timestamps of all packets after the first marker
  pub stamps : List ℕ

-- a run before its first marker, in its first frame or field, or after that
pub data SoFar : Type 0 where
  -- `head` packets came, none with the marker
  in_head : (head : ℕ) → SoFar
  -- the first marker came, and after it packets with these capture timestamps
  in_first : (head : ℕ) (stamps : List ℕ) → SoFar
  -- the first frame or field is complete
  in_groups : Groups → SoFar

-- one packet more, which came at this instant and may have the marker
abbrev pub groups_next : Groups → (at : ℕ) → (marker : Bool) → Groups
groups_next g at marker = record {
  head = g.head;
  n = g.n;
  groups = if marker then g.groups + 1 else g.groups;
  whole = if marker then g.stamps ++ at ∷ [] else g.whole;
  stamps = g.stamps ++ at ∷ [];
}

-- the first frame or field is complete
abbrev pub groups_first : ℕ → List ℕ → Groups
groups_first head stamps = record {
  head = head;
  n = length stamps;
  groups = 1;
  whole = stamps;
  stamps = stamps;
}

-- the run with one packet more, which came at this instant and may have the marker
abbrev pub so_far_next : SoFar → (at : ℕ) → (marker : Bool) → SoFar
so_far_next (in_head head) at false = in_head (head + 1)
so_far_next (in_head head) at true = in_first (head + 1) []
so_far_next (in_first head stamps) at false = in_first head (stamps ++ at ∷ [])
so_far_next (in_first head stamps) at true = in_groups (groups_first head (stamps ++ at ∷ []))
so_far_next (in_groups g) at marker = in_groups (groups_next g at marker)

-- the result of the run if it ends here
abbrev pub outcome_of : SoFar → RunOutcome
outcome_of (in_head head) = no_whole_frame head
outcome_of (in_first head stamps) = no_whole_frame head
outcome_of (in_groups g) = whole_frames record {
  n = g.n;
  groups = g.groups;
  head = g.head;
  tail = length g.stamps - length g.whole;
  stamps = g.whole;
}

-- capture timestamps of judged packets within the limits
pub record AreStamps (stamps : List ℕ) : Type 0 where
  pub ordered : NeverFall stamps
  pub early : All (λ at. at < 2 ^ 62) stamps
  pub few : length stamps ≤ 2 ^ 41

-- a run with complete frames or fields within the limits
pub record IsFit (so_far : Groups) : Type 0 where
  pub head : so_far.head ≤ 2 ^ 41
  pub some : 1 ≤ so_far.n
  pub most : so_far.n ≤ 262144
  pub groups : so_far.groups ≤ 2 ^ 41
  pub stamps : AreStamps so_far.stamps

-- a run within the limits
abbrev pub Fits : SoFar → Type 0
Fits (in_head head) = head ≤ 2 ^ 41
Fits (in_first head stamps) = (head ≤ 2 ^ 41) × (length stamps ≤ 262144) × AreStamps stamps
Fits (in_groups g) = IsFit g

-- the capture timestamps of the packets from packet `from` on and before packet `to`, after the shift
abbrev pub stamps_from : List FlowPacket → Shift → ℕ → ℕ → List ℕ
stamps_from packets shift from to = map (stamp_of shift) (slice_range packets from to)

-- the state of the run from packet `from` on and before packet `to`, by the places of its markers
abbrev pub so_far_by : List FlowPacket → Shift → ℕ → ℕ → List ℕ → SoFar
so_far_by packets shift from to [] = in_head (to - from)
so_far_by packets shift from to (a ∷ []) = in_first (a + 1 - from) (stamps_from packets shift (a + 1) to)
so_far_by packets shift from to (a ∷ b ∷ rest) = in_groups record {
  head = a + 1 - from;
  n = b - a;
  groups = length (a ∷ b ∷ rest) - 1;
  whole = stamps_from packets shift (a + 1) (last_place (a ∷ b ∷ rest) + 1);
  stamps = stamps_from packets shift (a + 1) to;
}

-- the state of the run from packet `from` on and before packet `to`
abbrev pub so_far_at : List FlowPacket → Shift → ℕ → ℕ → SoFar
so_far_at packets shift from to = so_far_by packets shift from to (markers packets from to)
